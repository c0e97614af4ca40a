-- The styles of one entity, from tables, a bundle and bytes that may be anything: refusals 22, 7, 2, those of the walk, then a
-- style for each layer but `*`.
use Rattle.std.specs.Prelude.{ℕ, ◌*◌, false, not, List, map, ltb, Float, get_or, length, Option, None, Result, Ok, Err, ℤ}
use Rattle.base.specs.Bytes.{Bytes, ascii, same}
use Rattle.base.specs.Choice.{pick}
use Rattle.base.specs.Refusal.{refusal}
use Rattle.base.specs.Table.{zero_float, padded}
use Rattle.base.specs.declared.refusal.Refusal.{Refusal}
use Rattle.entity.specs.Layout.{single_of, value_of}
use Rattle.entity.specs.declared.EntityRange.{EntityRange}
use Rattle.cascade.specs.Clause.{star, default_name}
use Rattle.cascade.specs.Map.{keep}
use Rattle.cascade.specs.Number.{whole}
use Rattle.cascade.specs.Style.{layer_tag}
use Rattle.tag_number.specs.Told.{layer_told}
use Rattle.valid.specs.Valid.{tables_sound}
use Rattle.valid.specs.declared.Counts.{Counts}
use Rattle.decode.specs.Decode.{places}
use Rattle.walk.specs.Maps.{walk_of, layer_place}
use Rattle.walk.specs.Rows.{numbers_at}
use Rattle.walk.specs.Selectors.{layer_in}
use Rattle.style.specs.Style.{number_in, width_or_zero, style_at}
use Rattle.style.specs.declared.Settings.{Settings}
use Rattle.styles.specs.declared.EntityStyles.{EntityStyles}
use Rattle.styles.specs.declared.StyledLayer.{StyledLayer}
use Rattle.base.specs.Option.{on_result}

-- a layer that is not in use
unfoldable pub blank_layer : StyledLayer
blank_layer =
    record {
      selector = 0;
      style =
          record {
            layer = None;
            z_index = zero_float;
            color = None;
            fill_color = None;
            is_foreground_fill = false;
            background_color = None;
            opacity = None;
            fill_opacity = None;
            width = None;
            dashes = None;
            line_cap = None;
            casing_color = None;
            casing_width = None;
            casing_dashes = None;
            casing_line_cap = None;
            icon_image = None;
            fill_image = None;
            text_style = None;
          };
    }

module _ (bundle : Bytes) (selectors : List ℕ) where
  -- the selector that named layer i of a table of maps
  abbrev pub named_by : List ℕ → ℕ → ℕ
  named_by t i = get_or t (i * 131) 0

  -- the rows of the first n layers that get a style, in order
  abbrev pub styled_rows : List ℕ → ℕ → List ℕ
  styled_rows t n = keep (λ i. not (same star (layer_in bundle selectors (named_by t i)))) (places 0 n)

  module _ (properties : List ℕ) (numbers : List Float) where
    -- the default layer's width, which casings fall back on; none counts as 0
    unfoldable pub default_width : List ℕ → ℕ → Float
    default_width t n =
        let i = layer_place (layer_in bundle selectors) t n default_name in
        pick (ltb i n) (width_or_zero (number_in bundle properties numbers (numbers_at t i) (ascii "width"))) (whole 0)

    abbrev pub layer_styled : List ℕ → ℕ → ℕ → Option ℤ → Settings → ℕ → StyledLayer
    layer_styled t n kind layer s i =
        record {
          selector = named_by t i;
          style = style_at bundle properties numbers (numbers_at t i) kind layer (default_width t n) s;
        }

    abbrev pub layers_styled : List ℕ → ℕ → ℕ → Option ℤ → Settings → List StyledLayer
    layers_styled t n kind layer s = map (layer_styled t n kind layer s) (styled_rows t n)

    unfoldable pub filled_layers : List ℕ → ℕ → ℕ → Option ℤ → Settings → EntityStyles
    filled_layers t n kind layer s =
        let ls = layers_styled t n kind layer s in
        record { layers = padded blank_layer 32 ls; count = length ls }

    -- what a walk's answer becomes, for an entity of a kind with a tag `layer`
    unfoldable pub styles_from : ℕ → Option ℤ → Settings → Result ℕ Refusal × List ℕ → Result EntityStyles Refusal
    styles_from kind layer s (Err e, t) = Err e
    styles_from kind layer s (Ok n, t) = Ok (filled_layers t n kind layer s)

-- the entity is read, the tables are sound
abbrev pub walked_styles :
    Bytes → List ℕ → List ℕ → List ℕ → List ℕ → List Float → ℕ → ℕ → Settings → Bytes → EntityRange → Result EntityStyles Refusal
walked_styles bundle rules selectors tests properties numbers total zoom s entity e =
    styles_from bundle selectors properties numbers e.kind (layer_told (layer_tag (value_of entity e))) s
    (walk_of bundle rules selectors tests properties numbers total zoom entity e false 0)

unfoldable pub styles_of :
    Bytes → List ℕ → List ℕ → List ℕ → List ℕ → List Float → Counts → ℕ → Settings → Bytes → Result EntityStyles Refusal
styles_of bundle rules selectors tests properties numbers n zoom s entity =
    pick (tables_sound rules selectors tests properties numbers n (length bundle))
    (on_result (single_of entity) (λ r. Err r) λ e.
    walked_styles bundle rules selectors tests properties numbers n.rules zoom s entity e)
    (Err (refusal 22 0 0 0 0))
