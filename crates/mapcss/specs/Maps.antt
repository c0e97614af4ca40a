-- What holds of the property maps of every entity beside every loaded sheet: for every bundle, every six lengths of the tables, every
-- zoom and every entity, which may be any bytes.
use Rattle.std.specs.Prelude.{ℕ, ◌≡◌, List, Ok, Result}
use Rattle.base.specs.Bytes.{Bytes}
use Rattle.entity.specs.Layout.{single_of, value_of}
use Rattle.entity.specs.declared.EntityRange.{EntityRange}
use Rattle.sheet.specs.Digits.{digits_for}
use Rattle.sheet.specs.Sheet.{Value}
use Rattle.table.specs.Value.{value_at}
use Rattle.cascade.specs.Cascade.{Layers}
use Rattle.cascade.specs.Clause.{layer_name}
use Rattle.cascade.specs.Meaning.{Meaning}
use Rattle.cascade.specs.Numbered.{map_answer, map_layers}
use Rattle.cascade.specs.Walk.{Answer, property_maps}
use Rattle.grammar.specs.Rules.{rules_of_reading}
use Rattle.keep.specs.Encode.{Lengths}
use Rattle.keep.specs.Lent.{Lent, lent}
use Rattle.parser.specs.Load.{Held}
use Rattle.parser.specs.declared.Counts.{Counts}
use Rattle.decode.specs.Decode.{selector_in, name_at, value_of as value_in}
use Rattle.maps.specs.Held.{layers_held, answer_held}
use Rattle.walk.specs.Maps.{maps_of}
use Rattle.printing.specs.Plate.{five_of}
use Rattle.mapcss.specs.Loads.{tallied, Loads}
use Rattle.base.specs.declared.refusal.Refusal.{Refusal}

-- the tables and counts of a load
module _ (bundle : Bytes) (n : Counts) (h : Held) where
  abbrev pub tables_of_load : Lent
  tables_of_load = lent (tallied n) h.rules h.selectors h.tests h.properties h.numbers h.colors

  -- the value that a property's number stands for
  abbrev pub value_numbered : ℕ → Value
  value_numbered p = value_in bundle tables_of_load (value_at h.properties h.numbers p)

  -- the call, with the tables, the counts and the bundle of the load
  abbrev pub maps_call : ℕ → Bytes → Result ℕ Refusal × List ℕ
  maps_call zoom entity = maps_of bundle h.rules h.selectors h.tests h.properties h.numbers (five_of n) zoom entity

  abbrev pub layer_numbered : ℕ → Bytes
  layer_numbered s = layer_name (selector_in bundle h.selectors h.tests h.numbers s)

  -- what it answers, with values for numbers
  abbrev pub maps_answered : Result ℕ Refusal × List ℕ → Answer Value
  maps_answered x = map_answer value_numbered (answer_held (name_at bundle h.properties) layer_numbered x)

  abbrev pub layers_shown : List ℕ → ℕ → Layers Value
  layers_shown t k = map_layers value_numbered (layers_held (name_at bundle h.properties) layer_numbered t k)

-- The answer is that of the theory's walk through the rules of the sheet, refusals 8, 23 and 24 too.
abbrev pub MapsOfSheet : Type 0
MapsOfSheet =
    (bundle : Bytes) (l : Lengths) (n : Counts) (h : Held) (s : Loads bundle l n h) (zoom : ℕ) (entity : Bytes) (e : EntityRange)
    → single_of entity ≡ Ok e
    → maps_answered bundle n h (maps_call bundle n h zoom entity)
    ≡ property_maps zoom (value_of entity e) (rules_of_reading digits_for s.js)

-- So the layers mean what demand 2 says: a layer exists exactly if a matched selector names it, and each property there is the last
-- assigned by matched selectors of that layer or `*`.
abbrev pub CascadeOfSheet : Type 0
CascadeOfSheet =
    (bundle : Bytes) (l : Lengths) (n : Counts) (h : Held) (s : Loads bundle l n h) (zoom : ℕ) (entity : Bytes) (e : EntityRange)
    (k : ℕ) (t : List ℕ)
    → single_of entity ≡ Ok e
    → maps_call bundle n h zoom entity ≡ (Ok k, t)
    → Meaning zoom (value_of entity e) (rules_of_reading digits_for s.js) (layers_shown bundle n h t k)
