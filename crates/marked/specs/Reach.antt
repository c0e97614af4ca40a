-- Demand 3 for property maps is not vacuous on bytes: two sheets that differ, and two entities that differ, for which its hypotheses on
-- layer `c` hold, and those on the tag `layer`; program `reach` makes the style calls.
use Rattle.std.specs.Prelude.{ℕ, ◌≡◌, List, [], ◌∷◌, pos, Result, Ok, Err}
use Rattle.std.proofs.Math.Option.{some}
use Rattle.base.specs.Bytes.{Bytes, ascii}
use Rattle.base.specs.Entity.{Entity}
use Rattle.base.specs.Map.{entry}
use Rattle.entity.specs.Layout.{entity_bytes, single_of, value_of}
use Rattle.sheet.specs.Sheet.{Rule, Value}
use Rattle.cascade.specs.Isolation.{strike, tested_keys}
use Rattle.cascade.specs.Match.{tag}
use Rattle.cascade.specs.Style.{layer_tag}
use Rattle.keep.specs.Lent.{lent, counted}
use Rattle.parser.specs.Load.{Held, load_of}
use Rattle.decode.specs.Decode.{rules_at}
use Rattle.keep.specs.Encode.{Lengths, lengths}
use Rattle.marked.specs.Cases.{alone}
use Rattle.marked.specs.Meetings.{maps_after}
use Rattle.base.specs.declared.refusal.Refusal.{Refusal}
use Rattle.entity.specs.declared.EntityRange.{EntityRange}
use Rattle.parser.specs.declared.Counts.{Counts}

abbrev pub layer : Bytes
layer = ascii "c"

-- layer `c` and `*` say the same in both; the rest differs
abbrev pub first : Bytes
first = ascii "way::*{width:1;}way[a]::c{opacity:2;}way{width:3;}"

abbrev pub second : Bytes
second = ascii "way[b]{width:4;}way::*{width:1;}way::d,way[a]::c{opacity:2;}"

-- the rules of a load, as its tables spell them
abbrev pub rules_loaded : Bytes → Result Counts Refusal × Held → List (Rule Value)
rules_loaded bundle (Err e, h) = []
rules_loaded bundle (Ok n, h) =
    rules_at bundle (lent (counted n.rules) h.rules h.selectors h.tests h.properties h.numbers h.colors)

-- tables of eight entries
abbrev pub room : Lengths
room = lengths 64 64 64 64 8 64

abbrev pub rules_of : Bytes → List (Rule Value)
rules_of sheet = rules_loaded (alone sheet) (load_of (alone sheet) room)

-- open ways with other ids and tags; their tags `layer` are written differently and read alike
abbrev pub one : Entity
one = record { kind = 1; id = 7; tags = entry (ascii "a") (ascii "x") ∷ entry (ascii "layer") (ascii "1") ∷ [] }

abbrev pub other : Entity
other =
    record
    { kind = 1; id = 300; tags = entry (ascii "a") (ascii "x") ∷ entry (ascii "b") (ascii "y") ∷ entry (ascii "layer") (ascii "+01") ∷ [] }

-- an entity, as its bytes are read
abbrev pub read_as : Bytes → Result EntityRange Refusal → Entity
read_as s (Err e) = record { kind = 9; id = 0; tags = [] }
read_as s (Ok e) = value_of s e

abbrev pub read : Entity → Entity
read e = read_as (entity_bytes e) (single_of (entity_bytes e))

-- the call for property maps at zoom 13, with the tables, counts and bundle of the load
abbrev pub asked : Bytes → Entity → Result ℕ Refusal
asked sheet e = maps_after (alone sheet) 13 (entity_bytes e) (load_of (alone sheet) room)

pub record Met : Type 0 where
  -- the rules left are equal: two of them, which test one tag
  pub left : strike layer (rules_of first) ≡ strike layer (rules_of second)
  pub tested : tested_keys (strike layer (rules_of first)) ≡ ascii "a" ∷ []
  -- the entities agree in kind and in that tag, and their tags `layer` are read alike
  pub kinds : (read one).kind ≡ (read other).kind
  pub tags : tag (read one) (ascii "a") ≡ tag (read other) (ascii "a")
  pub there : tag (read one) (ascii "a") ≡ some (ascii "x")
  pub layers : layer_tag (read one) ≡ layer_tag (read other)
  pub layer_one : layer_tag (read one) ≡ some (pos 1)
  -- neither call is refused, and they answer differently: `*`, `c`, `default`; `default`, `*`, `d`, `c`
  pub first_call_lem : asked first one ≡ Ok 3
  pub second_call : asked second other ≡ Ok 4
