-- The styles that a call answers, layer by layer, and that they are the theory's.
use Rattle.std.specs.Prelude.{ℕ, ◌≡◌, true, List, map, Float, length, take, Result, Ok, Err}
use Rattle.base.specs.Bytes.{Bytes}
use Rattle.base.specs.Map.{Entry, Map, entry}
use Rattle.base.specs.Entity.{Entity}
use Rattle.entity.specs.Layout.{single_of, value_of}
use Rattle.entity.specs.declared.EntityRange.{EntityRange}
use Rattle.sheet.specs.Sheet.{Value}
use Rattle.cascade.specs.Style as theory
use Rattle.cascade.specs.Style.{styles}
use Rattle.cascade.specs.Walk.{Answer, refused, layers, property_maps}
use Rattle.valid.specs.Valid.{tables_sound}
use Rattle.valid.specs.declared.Counts.{Counts}
use Rattle.decode.specs.Decode.{rules_at}
use Rattle.keep.specs.Lent.{lent, counted}
use Rattle.walk.specs.Selectors.{layer_in}
use Rattle.style.specs.declared.Settings.{Settings}
use Rattle.styles.specs.Styles.{styles_of}
use Rattle.styles.specs.declared.EntityStyles.{EntityStyles}
use Rattle.styles.specs.declared.StyledLayer.{StyledLayer}
use Rattle.shown.specs.Style.{settings_shown, style_shown}
use Rattle.base.specs.declared.refusal.Refusal.{Refusal}

-- a refusal's number, or the styles by the names of their layers
pub data Styling : Type 0 where
  declined : ℕ → Styling
  styled : Map theory.Style → Styling

-- the theory's: from the answer of the walk
unfoldable pub styling_of : theory.Settings → Entity → Answer Value → Styling
styling_of s e (refused n) = declined n
styling_of s e (layers v) = styled (styles s e v)

-- what a call's answer holds, beside the bundle and the tables of selectors and of numbers
module _ (bundle : Bytes) (selectors : List ℕ) (numbers : List Float) where
  abbrev pub layer_shown : StyledLayer → Entry theory.Style
  layer_shown x = entry (layer_in bundle selectors x.selector) (style_shown bundle numbers x.style)

  unfoldable pub styles_held : Result EntityStyles Refusal → Styling
  styles_held (Err r) = declined r.number
  styles_held (Ok x) = styled (map layer_shown (take x.count x.layers))

-- For tables and an entity that pass their checks the styles are those of the theory, under the same settings; or the walk's refusal.
abbrev pub StylesAre : Type 0
StylesAre =
    (bundle : Bytes) (rules selectors tests properties : List ℕ) (numbers : List Float) (colors : List ℕ) (n : Counts) (zoom : ℕ)
    (s : Settings) (entity : Bytes) (e : EntityRange)
    → tables_sound rules selectors tests properties numbers n (length bundle) ≡ true
    → single_of entity ≡ Ok e
    → styles_held bundle selectors numbers (styles_of bundle rules selectors tests properties numbers n zoom s entity)
    ≡ styling_of (settings_shown s) (value_of entity e)
    (property_maps zoom (value_of entity e) (rules_at bundle (lent (counted n.rules) rules selectors tests properties numbers colors)))
