-- What holds of the styles of every entity beside every loaded sheet: for every bundle, every six lengths of the tables, every zoom,
-- all settings and every entity, which may be any bytes.
use Rattle.std.specs.Prelude.{ℕ, ◌≡◌, map, take, Result, Ok}
use Rattle.base.specs.Bytes.{Bytes}
use Rattle.base.specs.Map.{Map}
use Rattle.base.specs.declared.refusal.Refusal.{Refusal}
use Rattle.entity.specs.Layout.{single_of, value_of}
use Rattle.entity.specs.declared.EntityRange.{EntityRange}
use Rattle.sheet.specs.Digits.{digits_for}
use Rattle.cascade.specs.Style as theory
use Rattle.cascade.specs.Walk.{property_maps}
use Rattle.grammar.specs.Rules.{rules_of_reading}
use Rattle.keep.specs.Encode.{Lengths}
use Rattle.parser.specs.Load.{Held}
use Rattle.parser.specs.declared.Counts.{Counts}
use Rattle.printing.specs.Plate.{five_of}
use Rattle.style.specs.declared.Settings.{Settings}
use Rattle.styles.specs.Styles.{styles_of}
use Rattle.styles.specs.declared.EntityStyles.{EntityStyles}
use Rattle.shown.specs.Style.{settings_shown}
use Rattle.shown.specs.Styles.{Styling, styling_of, layer_shown, styles_held}
use Rattle.mapcss.specs.Loads.{Loads}

-- the tables and counts of a load
module _ (bundle : Bytes) (n : Counts) (h : Held) where
  -- the call, with the tables, the counts and the bundle of the load
  abbrev pub styles_call : ℕ → Settings → Bytes → Result EntityStyles Refusal
  styles_call zoom s entity =
      styles_of bundle h.rules h.selectors h.tests h.properties h.numbers (five_of n) zoom s entity

  -- what it answers: names and texts by bytes, numbers as floats
  abbrev pub styles_answered : Result EntityStyles Refusal → Styling
  styles_answered x = styles_held bundle h.selectors h.numbers x

  -- the styles of an answer that is not refused
  abbrev pub styles_shown : EntityStyles → Map theory.Style
  styles_shown x = map (layer_shown bundle h.selectors h.numbers) (take x.count x.layers)

-- The answer is that of the theory: a style for each layer but `*` of the walk through the rules of the sheet; or refusal 8, 23 or 24.
abbrev pub StylesOfSheet : Type 0
StylesOfSheet =
    (bundle : Bytes) (l : Lengths) (n : Counts) (h : Held) (r : Loads bundle l n h) (zoom : ℕ) (s : Settings) (entity : Bytes)
    (e : EntityRange)
    → single_of entity ≡ Ok e
    → styles_answered bundle n h (styles_call bundle n h zoom s entity)
    ≡ styling_of (settings_shown s) (value_of entity e) (property_maps zoom (value_of entity e) (rules_of_reading digits_for r.js))
