-- The layers that a table of property maps holds, and what they are in the theory.
use Rattle.std.specs.Prelude.{ℕ, ◌*◌, ◌≤◌, Bool, true, List, [], ◌∷◌, ◌++◌, map, ◌≡◌, Float, get_or, length, Result, Ok, Err}
use Rattle.base.specs.Bytes.{Bytes}
use Rattle.base.specs.Map.{Entry, entry}
use Rattle.base.specs.Refusal.{of_entity}
use Rattle.base.specs.declared.refusal.Refusal.{Refusal}
use Rattle.entity.specs.Layout.{single_of, value_of}
use Rattle.entity.specs.declared.EntityRange.{EntityRange}
use Rattle.base.specs.Table.{padded}
use Rattle.cascade.specs.Cascade.{Layers}
use Rattle.cascade.specs.Clause.{layer_name}
use Rattle.cascade.specs.Numbered.{spelled}
use Rattle.cascade.specs.Walk.{Answer, refused, layers, property_maps}
use Rattle.valid.specs.Valid.{tables_sound}
use Rattle.valid.specs.declared.Counts.{Counts}
use Rattle.decode.specs.Decode.{places, selector_in, name_at, numbered_at}
use Rattle.walk.specs.Maps.{no_rows, walk_of, maps_of}
use Rattle.walk.specs.Rows.{numbers_at}

-- the words of layer i: the selector that named it, the count and the numbers of its properties, and zeros
abbrev pub row_at : List ℕ → ℕ → List ℕ
row_at t i = padded 0 131 (get_or t (i * 131) 0 ∷ length (numbers_at t i) ∷ numbers_at t i)

unfoldable pub rows_at : List ℕ → List ℕ → List ℕ
rows_at t [] = []
rows_at t (i ∷ is) = row_at t i ++ rows_at t is

module _ (name layer : ℕ → Bytes) where
  abbrev pub layer_held : List ℕ → ℕ → Entry (List (Entry ℕ))
  layer_held t i = entry (layer (get_or t (i * 131) 0)) (map (spelled name) (numbers_at t i))

  -- the first n layers, in order: names by the selector that first matched, properties by their numbers
  abbrev pub layers_held : List ℕ → ℕ → Layers ℕ
  layers_held t n = map (layer_held t) (places 0 n)

  abbrev pub answer_held : Result ℕ Refusal × List ℕ → Answer ℕ
  answer_held (Err e, t) = refused e.number
  answer_held (Ok n, t) = layers (layers_held t n)

-- For tables and an entity that pass their checks the maps are those of the theory's walk ..
abbrev pub MapsAre : Type 0
MapsAre =
    (bundle : Bytes) (rules selectors tests properties : List ℕ) (numbers : List Float) (n : Counts) (zoom : ℕ) (entity : Bytes) (e : EntityRange)
    → tables_sound rules selectors tests properties numbers n (length bundle) ≡ true
    → single_of entity ≡ Ok e
    → answer_held (name_at bundle properties) (λ s. layer_name (selector_in bundle selectors tests numbers s))
    (maps_of bundle rules selectors tests properties numbers n zoom entity)
    ≡ property_maps zoom (value_of entity e) (map (numbered_at bundle rules selectors tests properties numbers) (places 0 n.rules))

-- .. whatever place the entity has in a stream ..
abbrev pub WalkIs : Type 0
WalkIs =
    (bundle : Bytes) (rules selectors tests properties : List ℕ) (numbers : List Float) (total zoom : ℕ) (entity : Bytes) (e : EntityRange)
    (multipolygons : Bool) (place : ℕ)
    → total ≤ 16384
    → answer_held (name_at bundle properties) (λ s. layer_name (selector_in bundle selectors tests numbers s))
    (walk_of bundle rules selectors tests properties numbers total zoom entity e multipolygons place)
    ≡ property_maps zoom (value_of entity e) (map (numbered_at bundle rules selectors tests properties numbers) (places 0 total))

-- .. at most 32 of them ..
abbrev pub FewLayers : Type 0
FewLayers =
    (bundle : Bytes) (rules selectors tests properties : List ℕ) (numbers : List Float) (total zoom : ℕ) (entity : Bytes) (e : EntityRange)
    (multipolygons : Bool) (place k : ℕ) (t : List ℕ)
    → walk_of bundle rules selectors tests properties numbers total zoom entity e multipolygons place ≡ (Ok k, t)
    → k ≤ 32

-- .. a refusal names the entity's place ..
abbrev pub RefusalNamed : Type 0
RefusalNamed =
    (bundle : Bytes) (rules selectors tests properties : List ℕ) (numbers : List Float) (total zoom : ℕ) (entity : Bytes) (e : EntityRange)
    (multipolygons : Bool) (place : ℕ) (r : Refusal) (t : List ℕ)
    → total ≤ 16384
    → walk_of bundle rules selectors tests properties numbers total zoom entity e multipolygons place ≡ (Err r, t)
    → r ≡ of_entity r.number multipolygons place

-- .. and the table is the rows of its layers, with zeros behind them; it is all zero after a refusal.
abbrev pub ZeroBehind : Type 0
ZeroBehind =
    (bundle : Bytes) (rules selectors tests properties : List ℕ) (numbers : List Float) (n : Counts) (zoom : ℕ) (entity : Bytes) (k : ℕ) (t : List ℕ)
    → maps_of bundle rules selectors tests properties numbers n zoom entity ≡ (Ok k, t)
    → t ≡ padded 0 4323 (rows_at t (places 0 k))

abbrev pub RefusalZeroes : Type 0
RefusalZeroes =
    (bundle : Bytes) (rules selectors tests properties : List ℕ) (numbers : List Float) (n : Counts) (zoom : ℕ) (entity : Bytes) (e : Refusal) (t : List ℕ)
    → maps_of bundle rules selectors tests properties numbers n zoom entity ≡ (Err e, t)
    → t ≡ no_rows
