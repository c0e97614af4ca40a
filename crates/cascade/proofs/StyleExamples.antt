-- Styles and the canvas colour, computed on small maps and sheets.
use Rattle.std.specs.Prelude.{ℕ, ◌≡◌, refl, true, false, List, [], ◌∷◌, map, negsuc, Float}
use Rattle.std.proofs.Math.Option.{none, some}
use Rattle.std.specs.Float.Ieee.{add, mul, of_int}
use Rattle.base.specs.Bytes.{Bytes, ascii, same}
use Rattle.base.specs.Map.{Entry, Map, entry, lookup}
use Rattle.base.specs.Entity.{Entity}
use Rattle.sheet.specs.Sheet.{ObjectType, canvas, way, Rule, Value, identifier, string, color, numbers, width_delta}
use Rattle.cascade.specs.Map.{keep, and_map, or_else}
use Rattle.cascade.specs.Clause.{star, default_name, clauses}
use Rattle.cascade.specs.Number.{negative, unsigned, after_digits, spelt, whole_number, ranged, as_integer, whole}
use Rattle.cascade.specs.Style.{butt, line, Style, josm, maps_me, casing_multiplier, named_color, as_color, as_number, as_identifier, as_text, as_dashes, as_delta, cap_names, position_names, is_background, default_z, width_or_zero, base_width, casing_only, full_casing, text_of, style_from, styles}
use Rattle.base.specs.Choice.{pick}
use Rattle.color.specs.Named.{rgb, color_named, first_named}
use Rattle.cascade.specs.Canvas.{first_color, canvas_from, canvas_fill_color}

abbrev number : Bytes → ℕ → Entry Value
number n x = entry n (numbers (whole x ∷ []))

abbrev word : Bytes → Bytes → Entry Value
word n i = entry n (identifier i)

-- a closed way with layer=-1: default{width:3;} c{color:red; fill-color:#010203; ..}
abbrev lake : Entity
lake = record { kind = 2; id = 7; tags = entry (ascii "layer") (ascii "-1") ∷ [] }

abbrev full : Map Value
full =
    word (ascii "color") (ascii "red") ∷ entry (ascii "fill-color") (color (rgb 1 2 3)) ∷ word (ascii "background-color") (ascii "scarlet")
    ∷ word (ascii "fill-position") (ascii "background") ∷ number (ascii "opacity") 1 ∷ entry (ascii "dashes")
    (numbers (whole 1 ∷ whole 2 ∷ []))
    ∷ word (ascii "linecap") (ascii "none") ∷ word (ascii "casing-linecap") (ascii "pointed") ∷ entry
    (ascii "casing-width") (width_delta (whole 1))
    ∷ entry (ascii "icon-image") (string (ascii "i.png")) ∷ entry (ascii "text") (string (ascii "name")) ∷ word
    (ascii "text-position") (ascii "line")
    ∷ number (ascii "font-size") 10 ∷ []

abbrev full_style : Float → Float → Style
full_style casing font =
    record {
      layer = some (negsuc 0);
      z_index = whole 1;
      color = some (rgb 255 0 0);
      fill_color = some (rgb 1 2 3);
      is_foreground_fill = false;
      background_color = none;
      opacity = some (whole 1);
      fill_opacity = none;
      width = none;
      dashes = some (whole 1 ∷ whole 2 ∷ []);
      line_cap = some butt;
      casing_color = none;
      casing_width = some casing;
      casing_dashes = none;
      casing_line_cap = none;
      icon_image = some (ascii "i.png");
      fill_image = none;
      text_style = some (record { text = ascii "name"; text_color = none; text_position = some line; font_size = some font });
    }

abbrev plain : Style
plain =
    record {
      layer = some (negsuc 0);
      z_index = whole 1;
      color = none;
      fill_color = none;
      is_foreground_fill = true;
      background_color = none;
      opacity = none;
      fill_opacity = none;
      width = some (whole 3);
      dashes = none;
      line_cap = none;
      casing_color = none;
      casing_width = none;
      casing_dashes = none;
      casing_line_cap = none;
      icon_image = none;
      fill_image = none;
      text_style = none;
    }

-- the casing is 3 + 2 × (3 + 1) for JOSM and 3 + 1 × (3 + 1) for MapsMe; "*" gets no style
pub styled :
    (styles
    (record { style_type = josm; font_multiplier = none; for_labels = false }) lake
    (entry star [] ∷ entry (ascii "c") full ∷ entry default_name (number (ascii "width") 3 ∷ []) ∷ [])
    ≡ entry (ascii "c") (full_style (whole 11) (whole 10)) ∷ entry default_name plain ∷ [])
    ×
    (styles
    (record { style_type = maps_me; font_multiplier = some (whole 2); for_labels = false }) lake
    (entry default_name (number (ascii "width") 3 ∷ []) ∷ entry (ascii "c") full ∷ [])
    ≡ entry default_name plain ∷ entry (ascii "c") (full_style (whole 7) (whole 20)) ∷ [])
unfolding same keep lookup and_map or_else negative unsigned after_digits spelt whole_number ranged as_integer
    casing_multiplier named_color color_named first_named pick as_color
    as_number as_identifier as_text as_dashes as_delta cap_names position_names is_background default_z width_or_zero base_width casing_only full_casing
    text_of style_from styles add mul of_int
styled = (refl, refl)

-- canvas{fill-color:red; fill-color:#010203;} canvas{fill-color:#040506;}, after a rule for meta and one for ways
abbrev rule_of : ObjectType → List (Entry Value) → Rule Value
rule_of o ps =
    record
    { selectors = record { object_type = o; min_zoom = some 18; max_zoom = none; tests = []; layer_id = none } ∷ []; properties = ps }

abbrev fill : Value → Entry Value
fill v = entry (ascii "fill-color") v

pub canvas_color :
    map
    (λ t.
    canvas_fill_color t
    (rule_of way (fill (color (rgb 9 9 9)) ∷ []) ∷ rule_of canvas
    (fill (identifier (ascii "red")) ∷ fill (color (rgb 1 2 3)) ∷ []) ∷ rule_of canvas
    (fill (color (rgb 4 5 6)) ∷ []) ∷ [])) (josm ∷ maps_me ∷ []) ≡ some (rgb 1 2 3) ∷ none ∷ []
unfolding same clauses or_else first_color canvas_from
canvas_color = refl
