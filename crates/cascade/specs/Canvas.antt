-- The canvas colour: the first colour value of its property, in rule, selector and property order, of a `canvas` selector.
-- Zoom, tests, layer and colour names play no part.
use Rattle.std.specs.Prelude.{Bool, true, false, cond, List, [], ◌∷◌}
use Rattle.std.proofs.Math.Option.{Option, none, some}
use Rattle.base.specs.Bytes.{Bytes, ascii, same}
use Rattle.base.specs.Map.{Entry}
use Rattle.color.specs.declared.Color.{Color}
use Rattle.sheet.specs.Sheet.{ObjectType, canvas, Rule, Value, color}
use Rattle.cascade.specs.Map.{or_else}
use Rattle.cascade.specs.Clause.{Clause, clauses}
use Rattle.cascade.specs.Style.{StyleType, josm, maps_me}

abbrev pub canvas_property : StyleType → Bytes
canvas_property josm = ascii "fill-color"
canvas_property maps_me = ascii "background-color"

abbrev pub is_canvas : ObjectType → Bool
is_canvas canvas = true
is_canvas t = false

abbrev pub color_value : Value → Option Color
color_value (color c) = some c
color_value v = none

unfoldable pub first_color : Bytes → List (Entry Value) → Option Color
first_color n [] = none
first_color n (p ∷ ps) = or_else (cond (same p.key n) (color_value p.value) none) (first_color n ps)

unfoldable pub canvas_from : Bytes → List (Clause Value) → Option Color
canvas_from n [] = none
canvas_from n (c ∷ cs) = or_else (cond (is_canvas c.selector.object_type) (first_color n c.assigns) none) (canvas_from n cs)

abbrev pub canvas_fill_color : StyleType → List (Rule Value) → Option Color
canvas_fill_color t rs = canvas_from (canvas_property t) (clauses rs)
