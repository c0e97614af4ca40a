-- Which numbers the refusals of each call can have, whatever tables, counts, bundles and bytes it is handed.
use Rattle.std.specs.Prelude.{ℕ, ◌≡◌, List, [], ◌∷◌, ◌++◌, Float, Err}
use Rattle.base.specs.Bytes.{Bytes}
use Rattle.base.specs.declared.refusal.Refusal.{Refusal}
use Rattle.keep.specs.Encode.{Lengths}
use Rattle.parser.specs.Load.{Held, load_of}
use Rattle.valid.specs.declared.Counts.{Counts}
use Rattle.walk.specs.Maps.{maps_of}
use Rattle.style.specs.declared.Settings.{Settings}
use Rattle.style.specs.declared.StyleType.{StyleType}
use Rattle.styles.specs.Styles.{styles_of}
use Rattle.canvas.specs.Canvas.{canvas_of}
use Rattle.drawing.specs.Lists.{nodes_of, areas_of}

-- membership in a list
pub data OneOf : List ℕ → ℕ → Type 0 where
  first : {k : ℕ} {ks : List ℕ} → OneOf (k ∷ ks) k
  later : {j k : ℕ} {ks : List ℕ} → OneOf ks k → OneOf (j ∷ ks) k

-- of loads
abbrev pub load_numbers : List ℕ
load_numbers = 1 ∷ 2 ∷ 3 ∷ 4 ∷ 5 ∷ 6 ∷ 20 ∷ 21 ∷ []

-- of property maps and of styles
abbrev pub entity_numbers : List ℕ
entity_numbers = 22 ∷ 7 ∷ 2 ∷ 8 ∷ 23 ∷ 24 ∷ []

-- of drawing lists
abbrev pub list_numbers : List ℕ
list_numbers = entity_numbers ++ (9 ∷ 25 ∷ [])

-- of the canvas colour
abbrev pub canvas_numbers : List ℕ
canvas_numbers = 22 ∷ []

-- A load is refused with one of its numbers only.
abbrev pub LoadNumbers : Type 0
LoadNumbers =
    (bundle : Bytes) (l : Lengths) (e : Refusal) (h : Held)
    → load_of bundle l ≡ (Err e, h)
    → OneOf load_numbers e.number

-- So are the property maps of an entity,
abbrev pub MapsNumbers : Type 0
MapsNumbers =
    (bundle : Bytes) (rules selectors tests properties : List ℕ) (numbers : List Float) (n : Counts) (zoom : ℕ) (entity : Bytes)
    (e : Refusal) (t : List ℕ)
    → maps_of bundle rules selectors tests properties numbers n zoom entity ≡ (Err e, t)
    → OneOf entity_numbers e.number

-- its styles,
abbrev pub StylesNumbers : Type 0
StylesNumbers =
    (bundle : Bytes) (rules selectors tests properties : List ℕ) (numbers : List Float) (n : Counts) (zoom : ℕ) (s : Settings)
    (entity : Bytes) (e : Refusal)
    → styles_of bundle rules selectors tests properties numbers n zoom s entity ≡ Err e
    → OneOf entity_numbers e.number

-- a drawing list of nodes,
abbrev pub NodesNumbers : Type 0
NodesNumbers =
    (bundle : Bytes) (rules selectors tests properties : List ℕ) (numbers : List Float) (n : Counts) (zoom : ℕ) (s : Settings) (len : ℕ)
    (nodes : Bytes) (e : Refusal) (words : List ℕ)
    → nodes_of bundle rules selectors tests properties numbers n zoom s len nodes ≡ (Err e, words)
    → OneOf list_numbers e.number

-- one of areas,
abbrev pub AreasNumbers : Type 0
AreasNumbers =
    (bundle : Bytes) (rules selectors tests properties : List ℕ) (numbers : List Float) (n : Counts) (zoom : ℕ) (s : Settings) (len : ℕ)
    (ways multipolygons : Bytes) (e : Refusal) (words : List ℕ)
    → areas_of bundle rules selectors tests properties numbers n zoom s len ways multipolygons ≡ (Err e, words)
    → OneOf list_numbers e.number

-- and the canvas colour.
abbrev pub CanvasNumbers : Type 0
CanvasNumbers =
    (bundle : Bytes) (rules selectors tests properties : List ℕ) (numbers : List Float) (n : Counts) (t : StyleType) (e : Refusal)
    → canvas_of bundle rules selectors tests properties numbers n t ≡ Err e
    → OneOf canvas_numbers e.number
