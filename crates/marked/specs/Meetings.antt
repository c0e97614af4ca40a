-- An open way that meets a sheet: how many layers it gets at a zoom.
use Rattle.std.specs.Prelude.{ℕ, ◌≡◌, [], ◌∷◌, Result, Ok, Err}
use Rattle.base.specs.Bytes.{Bytes}
use Rattle.base.specs.Entity.{Entity}
use Rattle.base.specs.Map.{Map, entry}
use Rattle.entity.specs.Layout.{entity_bytes}
use Rattle.parser.specs.Load.{Held, load_of}
use Rattle.walk.specs.Maps.{maps_of}
use Rattle.marked.specs.Cases.{small, alone}
use Rattle.base.specs.declared.refusal.Refusal.{Refusal}
use Rattle.parser.specs.declared.Counts.{Counts}

pub record Meeting : Type 0 where
  pub sheet : Bytes
  pub zoom : ℕ
  pub tags : Map Bytes
  pub layers : ℕ

abbrev pub meeting : Bytes → ℕ → Map Bytes → ℕ → Meeting
meeting s z ts n = record { sheet = s; zoom = z; tags = ts; layers = n }

-- an open way
abbrev pub open_way : Map Bytes → Entity
open_way ts = record { kind = 1; id = 7; tags = ts }

-- the call with the tables, counts and bundle of a load
abbrev pub maps_after : Bytes → ℕ → Bytes → Result Counts Refusal × Held → Result ℕ Refusal
maps_after bundle zoom entity (Err e, h) = Err e
maps_after bundle zoom entity (Ok n, h) =
    (maps_of bundle h.rules h.selectors h.tests h.properties h.numbers
    (record { rules = n.rules; selectors = n.selectors; tests = n.tests; properties = n.properties; numbers = n.numbers })
    zoom entity).0

abbrev pub Gets : Meeting → Type 0
Gets m =
    maps_after (alone m.sheet) m.zoom (entity_bytes (open_way m.tags)) (load_of (alone m.sheet) small) ≡ Ok m.layers

abbrev pub tagged : Bytes → Bytes → Map Bytes
tagged k v = entry k v ∷ []
