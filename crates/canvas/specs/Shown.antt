-- What the answer is on rules: the canvas colour, as the theory has it, of the rules that the tables spell.
use Rattle.std.specs.Prelude.{ℕ, ◌≡◌, true, List, Float, length, Option, Ok}
use Rattle.base.specs.Bytes.{Bytes}
use Rattle.cascade.specs.Style.{StyleType as StyleType', josm, maps_me, named_color}
use Rattle.cascade.specs.Canvas.{canvas_fill_color}
use Rattle.valid.specs.Valid.{tables_sound}
use Rattle.valid.specs.declared.Counts.{Counts}
use Rattle.keep.specs.Lent.{lent}
use Rattle.keep.specs.declared.Tally.{Tally}
use Rattle.decode.specs.Decode.{rules_at}
use Rattle.style.specs.declared.StyleType.{StyleType}
use Rattle.style.specs.declared.StyleType.TheVariants.{Josm, MapsMe}
use Rattle.canvas.specs.Canvas.{canvas_of}
use Rattle.color.specs.declared.Color.{Color}

abbrev pub type_shown : StyleType → StyleType'
type_shown Josm = josm
type_shown MapsMe = maps_me

-- m, colors: any tally with so many rules, and any table of colours: the rules do not read them
abbrev pub CanvasIsRules : Type 0
CanvasIsRules =
    (bundle : Bytes) (rules selectors tests properties : List ℕ) (numbers : List Float) (n : Counts) (t : StyleType) (c : Option Color)
    (m : Tally) (colors : List ℕ)
    → m.rules ≡ n.rules
    → tables_sound rules selectors tests properties numbers n (length bundle) ≡ true
    → canvas_of bundle rules selectors tests properties numbers n t ≡ Ok c
    → named_color c ≡ canvas_fill_color (type_shown t) (rules_at bundle (lent m rules selectors tests properties numbers colors))
