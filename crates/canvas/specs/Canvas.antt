-- The canvas colour, from tables and a bundle that may be anything: 22, or the first colour value of its property, in rule and
-- property order, of a rule with a `canvas` selector.
use Rattle.std.specs.Prelude.{ℕ, Bool, true, false, List, [], ◌∷◌, eqb, Float, length, Option, Some, None, Result, Ok, Err}
use Rattle.base.specs.Bytes.{Bytes, ascii, same}
use Rattle.base.specs.Choice.{pick}
use Rattle.base.specs.Refusal.{refusal}
use Rattle.table.specs.Value.{word_at, range_at, value_at}
use Rattle.table.specs.declared.PropertyValue.{PropertyValue}
use Rattle.table.specs.declared.PropertyValue.TheVariants.{Shade}
use Rattle.valid.specs.Valid.{tables_sound}
use Rattle.valid.specs.declared.Counts.{Counts}
use Rattle.decode.specs.Decode.{name_at, places, places_in}
use Rattle.style.specs.declared.StyleType.{StyleType}
use Rattle.style.specs.declared.StyleType.TheVariants.{Josm, MapsMe}
use Rattle.color.specs.declared.Color.{Color}
use Rattle.base.specs.declared.refusal.Refusal.{Refusal}

abbrev pub canvas_name : StyleType → Bytes
canvas_name Josm = ascii "fill-color"
canvas_name MapsMe = ascii "background-color"

-- the first that there is
unfoldable pub or_color : Option Color → Option Color → Option Color
or_color None d = d
or_color (Some c) d = Some c

-- a colour value, not a colour's name
unfoldable pub shade_of : PropertyValue → Option Color
shade_of (Shade c) = Some c
shade_of v = None

module _ (bundle : Bytes) (properties : List ℕ) (numbers : List Float) (name : Bytes) where
  unfoldable pub color_at : ℕ → Option Color
  color_at p = pick (same (name_at bundle properties p) name) (shade_of (value_at properties numbers p)) None

  unfoldable pub first_color : List ℕ → Option Color
  first_color [] = None
  first_color (p ∷ ps) = or_color (color_at p) (first_color ps)

-- the kind of `canvas` is 2
unfoldable pub any_canvas : List ℕ → List ℕ → Bool
any_canvas selectors [] = false
any_canvas selectors (s ∷ ss) = pick (eqb (word_at selectors s 0) 2) true (any_canvas selectors ss)

module _ (bundle : Bytes) (rules selectors properties : List ℕ) (numbers : List Float) (name : Bytes) where
  unfoldable pub rule_color : ℕ → Option Color
  rule_color r =
      pick (any_canvas selectors (places_in (range_at rules r 1)))
      (first_color bundle properties numbers name (places_in (range_at rules r 3))) None

  unfoldable pub rules_color : List ℕ → Option Color
  rules_color [] = None
  rules_color (r ∷ rs) = or_color (rule_color r) (rules_color rs)

unfoldable pub canvas_of : Bytes → List ℕ → List ℕ → List ℕ → List ℕ → List Float → Counts → StyleType → Result (Option Color) Refusal
canvas_of bundle rules selectors tests properties numbers n t =
    pick (tables_sound rules selectors tests properties numbers n (length bundle))
    (Ok (rules_color bundle rules selectors properties numbers (canvas_name t) (places 0 n.rules)))
    (Err (refusal 22 0 0 0 0))
