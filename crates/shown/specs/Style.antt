-- What a style struct holds: names and texts as bytes, numbers as floats, what is absent as none. And that this is the theory's style.
use Rattle.std.specs.Prelude.{ℕ, ◌-◌, ◌≡◌, List, map, ℤ, Float, take, drop, Option, Some, None}
use Rattle.std.proofs.Math.Option.{Option as Maybe, none, some, get_or}
use Rattle.base.specs.Bytes.{Bytes, within}
use Rattle.base.specs.Map.{Map}
use Rattle.cascade.specs.Style as theory
use Rattle.cascade.specs.Style.{named_color, width_of, style_from}
use Rattle.sheet.specs.Sheet.{Value}
use Rattle.table.specs.declared.Name.TheVariants.{Plain, Joined}
use Rattle.decode.specs.Decode.{joined_at, property_at}
use Rattle.keep.specs.Lent.{Lent}
use Rattle.style.specs.Style.{style_at}
use Rattle.style.specs.declared.LineCap.{LineCap}
use Rattle.style.specs.declared.LineCap.TheVariants.{Butt, Round, Square}
use Rattle.style.specs.declared.Settings.{Settings}
use Rattle.style.specs.declared.Style.{Style}
use Rattle.style.specs.declared.StyleType.{StyleType}
use Rattle.style.specs.declared.StyleType.TheVariants.{Josm, MapsMe}
use Rattle.style.specs.declared.TextPosition.{TextPosition}
use Rattle.style.specs.declared.TextPosition.TheVariants.{Center, Line}
use Rattle.style.specs.declared.TextStyle.{TextStyle}
use Rattle.base.specs.declared.Range.{Range}
use Rattle.table.specs.declared.Name.{Name}

unfoldable pub measure_shown : Option Float → Maybe Float
measure_shown None = none
measure_shown (Some x) = some x

unfoldable pub layer_shown : Option ℤ → Maybe ℤ
layer_shown None = none
layer_shown (Some i) = some i

unfoldable pub cap_shown : Option LineCap → Maybe theory.LineCap
cap_shown None = none
cap_shown (Some Butt) = some theory.butt
cap_shown (Some Round) = some theory.round
cap_shown (Some Square) = some theory.square

unfoldable pub position_shown : Option TextPosition → Maybe theory.TextPosition
position_shown None = none
position_shown (Some Center) = some theory.center
position_shown (Some Line) = some theory.line

unfoldable pub type_shown : StyleType → theory.StyleType
type_shown Josm = theory.josm
type_shown MapsMe = theory.maps_me

unfoldable pub settings_shown : Settings → theory.Settings
settings_shown s =
    record {
      style_type = type_shown s.style_type;
      font_multiplier = measure_shown s.font_multiplier;
      for_labels = s.for_labels;
    }

-- beside the bundle and the table of numbers
module _ (bundle : Bytes) (numbers : List Float) where
  abbrev pub name_shown : Name → Bytes
  name_shown (Plain a) = within a bundle
  name_shown (Joined a b) = joined_at bundle a b

  unfoldable pub text_shown : Option Name → Maybe Bytes
  text_shown None = none
  text_shown (Some n) = some (name_shown n)

  unfoldable pub dashes_shown : Option Range → Maybe (List Float)
  dashes_shown None = none
  dashes_shown (Some r) = some (take (r.to - r.from) (drop r.from numbers))

  abbrev pub text_style : TextStyle → theory.TextStyle
  text_style t =
      record {
        text = name_shown t.text;
        text_color = named_color t.text_color;
        text_position = position_shown t.text_position;
        font_size = measure_shown t.font_size;
      }

  -- none without a text
  unfoldable pub with_text : Option TextStyle → Maybe theory.TextStyle
  with_text None = none
  with_text (Some t) = some (text_style t)

  unfoldable pub style_shown : Style → theory.Style
  style_shown s =
      record {
        layer = layer_shown s.layer;
        z_index = s.z_index;
        color = named_color s.color;
        fill_color = named_color s.fill_color;
        is_foreground_fill = s.is_foreground_fill;
        background_color = named_color s.background_color;
        opacity = measure_shown s.opacity;
        fill_opacity = measure_shown s.fill_opacity;
        width = measure_shown s.width;
        dashes = dashes_shown s.dashes;
        line_cap = cap_shown s.line_cap;
        casing_color = named_color s.casing_color;
        casing_width = measure_shown s.casing_width;
        casing_dashes = dashes_shown s.casing_dashes;
        casing_line_cap = cap_shown s.casing_line_cap;
        icon_image = text_shown s.icon_image;
        fill_image = text_shown s.fill_image;
        text_style = with_text s.text_style;
      }

-- the properties that a row of numbers stands for
abbrev pub properties_of : Bytes → Lent → List ℕ → Map Value
properties_of bundle τ row = map (property_at bundle τ) row

-- The style that property_map_to_style makes of a row is the theory's of the properties there, every field of it; the width that
-- casings fall back on is the layer's, else the one that is handed over. For any tables and any row.
abbrev pub StyleIs : Type 0
StyleIs =
    (bundle : Bytes) (τ : Lent) (row : List ℕ) (kind : ℕ) (layer : Option ℤ) (width : Float) (s : Settings)
    → style_shown bundle τ.numbers (style_at bundle τ.properties τ.numbers row kind layer width s)
    ≡ style_from (settings_shown s) kind (layer_shown layer) (get_or (width_of (properties_of bundle τ row)) width)
    (properties_of bundle τ row)
