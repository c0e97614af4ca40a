-- From a layer's property map to its style: property_map_to_style, and which layers get one.
use Rattle.std.specs.Prelude.{ℕ, Bool, false, not, cond, List, [], ◌∷◌, map, eqb, ℤ, Float, Option as Found, Some, None}
use Rattle.std.proofs.Math.Option.{Option, none, some, get_or}
use Rattle.std.specs.Float.{binary64}
use Rattle.std.specs.Float.Ieee.{add, mul}
use Rattle.base.specs.Bytes.{Bytes, ascii, same}
use Rattle.base.specs.Map.{Entry, Map, entry, lookup}
use Rattle.base.specs.Entity.{Entity}
use Rattle.color.specs.Named.{color_named}
use Rattle.color.specs.declared.Color.{Color}
use Rattle.sheet.specs.Sheet.{Value, identifier, string, color, numbers, width_delta}
use Rattle.cascade.specs.Map.{keep, and_map, or_else, map_entry}
use Rattle.cascade.specs.Number.{as_integer, whole}
use Rattle.cascade.specs.Clause.{star, default_name}
use Rattle.cascade.specs.Match.{tag}
use Rattle.cascade.specs.Cascade.{Layers}

pub data LineCap : Type 0 where
  butt round square : LineCap

pub data TextPosition : Type 0 where
  center line : TextPosition

pub record TextStyle : Type 0 where
  pub text : Bytes
  pub text_color : Option Color
  pub text_position : Option TextPosition
  pub font_size : Option Float

pub record Style : Type 0 where
  pub layer : Option ℤ
  pub z_index : Float
  pub color : Option Color
  pub fill_color : Option Color
  pub is_foreground_fill : Bool
  pub background_color : Option Color
  pub opacity : Option Float
  pub fill_opacity : Option Float
  pub width : Option Float
  pub dashes : Option (List Float)
  pub line_cap : Option LineCap
  pub casing_color : Option Color
  pub casing_width : Option Float
  pub casing_dashes : Option (List Float)
  pub casing_line_cap : Option LineCap
  pub icon_image : Option Bytes
  pub fill_image : Option Bytes
  pub text_style : Option TextStyle

pub data StyleType : Type 0 where
  josm maps_me : StyleType

-- the arguments of a style call besides tables, counts, bundle, zoom and entities
pub record Settings : Type 0 where
  pub style_type : StyleType
  pub font_multiplier : Option Float
  pub for_labels : Bool

-- 1 for MapsMe, else 2
unfoldable pub casing_multiplier : StyleType → Float
casing_multiplier josm = whole 2
casing_multiplier maps_me = whole 1

-- the colour of a name, if it has one
unfoldable pub named_color : Found Color → Option Color
named_color None = none
named_color (Some c) = some c

-- what the getters read from a value; `none` is an absent property
unfoldable pub as_color : Option Value → Option Color
as_color (some (identifier i)) = named_color (color_named i)
as_color (some (color c)) = some c
as_color v = none

unfoldable pub as_number : Option Value → Option Float
as_number (some (numbers (x ∷ []))) = some x
as_number v = none

unfoldable pub as_identifier : Option Value → Option Bytes
as_identifier (some (identifier i)) = some i
as_identifier v = none

unfoldable pub as_text : Option Value → Option Bytes
as_text (some (identifier i)) = some i
as_text (some (string s)) = some s
as_text v = none

unfoldable pub as_dashes : Option Value → Option (List Float)
as_dashes (some (numbers xs)) = some xs
as_dashes v = none

unfoldable pub as_delta : Option Value → Option Float
as_delta (some (width_delta d)) = some d
as_delta v = none

unfoldable pub cap_names : Map LineCap
cap_names = entry (ascii "none") butt ∷ entry (ascii "butt") butt ∷ entry (ascii "round") round ∷ entry (ascii "square") square ∷ []

unfoldable pub position_names : Map TextPosition
position_names = entry (ascii "center") center ∷ entry (ascii "line") line ∷ []

unfoldable pub is_background : Option Bytes → Bool
is_background none = false
is_background (some i) = same i (ascii "background")

-- a node's, a closed area's, an open way's
unfoldable pub default_z : ℕ → Float
default_z k = cond (eqb k 0) (whole 4) (cond (eqb k 2) (whole 1) (whole 3))

-- a layer's width, if it is one number
abbrev pub width_of : Map Value → Option Float
width_of m = as_number (lookup (ascii "width") m)

-- the width of a layer that may be absent; none counts as 0
unfoldable pub width_or_zero : Option (Map Value) → Float
width_or_zero none = whole 0
width_or_zero (some m) = get_or (width_of m) (whole 0)

unfoldable pub base_width : Map Value → Option (Map Value) → Float
base_width m base = get_or (width_of m) (width_or_zero base)

unfoldable pub casing_only : Float → Option Value → Option Float
casing_only w o = or_else (as_number o) (and_map (λ d. some (add binary64 w d)) (as_delta o))

-- base width + multiplier × casing width
unfoldable pub full_casing : Float → Float → Option Float → Option Float
full_casing k w = and_map (λ c. some (add binary64 w (mul binary64 k c)))

unfoldable pub text_of : Settings → Map Value → Bytes → TextStyle
text_of s m t =
    record {
      text = t;
      text_color = as_color (lookup (ascii "text-color") m);
      text_position = and_map (λ i. lookup i position_names) (as_identifier (lookup (ascii "text-position") m));
      font_size =
          and_map
          (λ x. some (mul binary64 x (get_or s.font_multiplier (whole 1))))
          (as_number (lookup (ascii "font-size") m));
    }

-- the style of a layer with the properties m, for an entity of kind k whose tag `layer` reads as t, where the width for casings is w
unfoldable pub style_from : Settings → ℕ → Option ℤ → Float → Map Value → Style
style_from s k t w m =
    record {
      layer = t;
      z_index = get_or (as_number (lookup (ascii "z-index") m)) (default_z k);
      color = as_color (lookup (ascii "color") m);
      fill_color = as_color (lookup (ascii "fill-color") m);
      is_foreground_fill = not (is_background (as_identifier (lookup (ascii "fill-position") m)));
      background_color = as_color (lookup (ascii "background-color") m);
      opacity = as_number (lookup (ascii "opacity") m);
      fill_opacity = as_number (lookup (ascii "fill-opacity") m);
      width = width_of m;
      dashes = as_dashes (lookup (ascii "dashes") m);
      line_cap = and_map (λ i. lookup i cap_names) (as_identifier (lookup (ascii "linecap") m));
      casing_color = as_color (lookup (ascii "casing-color") m);
      casing_width = full_casing (casing_multiplier s.style_type) w (casing_only w (lookup (ascii "casing-width") m));
      casing_dashes = as_dashes (lookup (ascii "casing-dashes") m);
      casing_line_cap = and_map (λ i. lookup i cap_names) (as_identifier (lookup (ascii "casing-linecap") m));
      icon_image = as_text (lookup (ascii "icon-image") m);
      fill_image = as_text (lookup (ascii "fill-image") m);
      text_style = and_map (λ t. some (text_of s m t)) (as_text (lookup (ascii "text") m));
    }

abbrev pub not_star : {A : Type 0} → Entry A → Bool
not_star e = not (same star e.key)

-- the tag `layer`, an i64 as Rust reads it, else absent
abbrev pub layer_tag : Entity → Option ℤ
layer_tag e = and_map as_integer (tag e (ascii "layer"))

-- the style of one layer of an entity, over the default layer
abbrev pub style_of : Settings → Entity → Option (Map Value) → Map Value → Style
style_of s e base m = style_from s e.kind (layer_tag e) (base_width m base) m

-- the styles of an entity, layer by layer; `*` gets none
unfoldable pub styles : Settings → Entity → Layers Value → Map Style
styles s e v = map (map_entry (style_of s e (lookup default_name v))) (keep not_star v)
