-- The style of a layer, field by field as property_map_to_style has it, from the numbers of the layer's properties.
use Rattle.std.specs.Prelude.{ℕ, Bool, not, List, eqb, Float, Option, Some, None, ℤ}
use Rattle.std.specs.Float.{binary64}
use Rattle.std.specs.Float.Ieee.{add, mul}
use Rattle.base.specs.Bytes.{Bytes, ascii, same}
use Rattle.base.specs.Choice.{pick}
use Rattle.base.specs.Option.{on_option}
use Rattle.cascade.specs.Number.{whole}
use Rattle.style.specs.Get.{property_in, color_of, number_of, delta_of, dashes_of, text_of, word_of, cap_named, position_named}
use Rattle.style.specs.declared.LineCap.{LineCap}
use Rattle.style.specs.declared.TextPosition.{TextPosition}
use Rattle.style.specs.declared.StyleType.{StyleType}
use Rattle.style.specs.declared.StyleType.TheVariants.{Josm, MapsMe}
use Rattle.style.specs.declared.Settings.{Settings}
use Rattle.style.specs.declared.TextStyle.{TextStyle}
use Rattle.style.specs.declared.Style.{Style}
use Rattle.color.specs.declared.Color.{Color}
use Rattle.base.specs.declared.Range.{Range}
use Rattle.table.specs.declared.Name.{Name}
use Rattle.table.specs.declared.PropertyValue.{PropertyValue}

-- a node's, a closed area's, an open way's
unfoldable pub default_z : ℕ → Float
default_z k = pick (eqb k 0) (whole 4) (pick (eqb k 2) (whole 1) (whole 3))

unfoldable pub z_index_of : Option Float → ℕ → Float
z_index_of m k = on_option m (default_z k) (λ z. z)

-- 1 for MapsMe, else 2
unfoldable pub casing_multiplier : StyleType → Float
casing_multiplier Josm = whole 2
casing_multiplier MapsMe = whole 1

-- the layer's width, else default's, else 0
unfoldable pub width_or_zero : Option Float → Float
width_or_zero m = on_option m (whole 0) (λ w. w)

unfoldable pub base_width : Option Float → Float → Float
base_width m d = on_option m d (λ w. w)

-- a number, or a delta to the base width
unfoldable pub casing_only : Float → Option Float → Option Float → Option Float
casing_only base one delta = on_option one (on_option delta None (λ d. Some (add binary64 base d))) (λ w. Some w)

-- base width + multiplier × casing width
unfoldable pub full_casing : Float → Float → Option Float → Option Float
full_casing k base m = on_option m None (λ w. Some (add binary64 base (mul binary64 k w)))

unfoldable pub multiplier_of : Settings → Float
multiplier_of s = on_option s.font_multiplier (whole 1) (λ k. k)

unfoldable pub font_size : Option Float → Settings → Option Float
font_size m s = on_option m None (λ x. Some (mul binary64 x (multiplier_of s)))

module _ (bundle : Bytes) (properties : List ℕ) (numbers : List Float) (row : List ℕ) where
  abbrev pub property : Bytes → Option PropertyValue
  property = property_in bundle properties numbers row

  abbrev pub color_in : Bytes → Option Color
  color_in name = color_of bundle (property name)

  abbrev pub number_in : Bytes → Option Float
  number_in name = number_of numbers (property name)

  abbrev pub delta_in : Bytes → Option Float
  delta_in name = delta_of (property name)

  abbrev pub dashes_in : Bytes → Option Range
  dashes_in name = dashes_of (property name)

  abbrev pub text_in : Bytes → Option Name
  text_in name = text_of (property name)

  abbrev pub cap_in : Bytes → Option LineCap
  cap_in name = cap_named (word_of bundle (property name))

  abbrev pub position_in : Bytes → Option TextPosition
  position_in name = position_named (word_of bundle (property name))

  abbrev pub is_word_in : Bytes → Bytes → Bool
  is_word_in name word = same (word_of bundle (property name)) word

  abbrev pub z_index_in : ℕ → Float
  z_index_in kind = z_index_of (number_in (ascii "z-index")) kind

  abbrev pub foreground_in : Bool
  foreground_in = not (is_word_in (ascii "fill-position") (ascii "background"))

  abbrev pub casing_width : Float → StyleType → Option Float
  casing_width base t =
      full_casing (casing_multiplier t) base
      (casing_only base (number_in (ascii "casing-width")) (delta_in (ascii "casing-width")))

  -- none without a text
  unfoldable pub text_style_of : Option Name → Settings → Option TextStyle
  text_style_of None s = None
  text_style_of (Some t) s =
      Some
      (record {
        text = t;
        text_color = color_in (ascii "text-color");
        text_position = position_in (ascii "text-position");
        font_size = font_size (number_in (ascii "font-size")) s;
      })

  abbrev pub text_style_in : Settings → Option TextStyle
  text_style_in s = text_style_of (text_in (ascii "text")) s

  unfoldable pub style_at : ℕ → Option ℤ → Float → Settings → Style
  style_at kind layer default_width s =
      let width = number_in (ascii "width") in
      record {
        layer = layer;
        z_index = z_index_in kind;
        color = color_in (ascii "color");
        fill_color = color_in (ascii "fill-color");
        is_foreground_fill = foreground_in;
        background_color = color_in (ascii "background-color");
        opacity = number_in (ascii "opacity");
        fill_opacity = number_in (ascii "fill-opacity");
        width = width;
        dashes = dashes_in (ascii "dashes");
        line_cap = cap_in (ascii "linecap");
        casing_color = color_in (ascii "casing-color");
        casing_width = casing_width (base_width width default_width) s.style_type;
        casing_dashes = dashes_in (ascii "casing-dashes");
        casing_line_cap = cap_in (ascii "casing-linecap");
        icon_image = text_in (ascii "icon-image");
        fill_image = text_in (ascii "fill-image");
        text_style = text_style_in s;
      }
