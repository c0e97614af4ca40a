-- An entity, at most 65,536 bytes: the kind byte (0 node, 1 open way or multipolygon, 2 closed), the id, the tag count up to
-- 256, then per tag the key's length, the key, the value's length, the value. Keys rise strictly bytewise. A stream, at most
-- 1,048,576 bytes, is its entities one after another, of nodes or of areas.
use Rattle.std.specs.Prelude.{ℕ, zero, suc, ◌+◌, ◌-◌, ◌≤◌, Bool, true, false, ◌&&◌, ◌≡◌, List, [], ◌∷◌, ◌++◌, map, eqb, leb, ltb, length, get_or, Option, Some, None, Result, Ok, Err}
use Rattle.std.proofs.Math.Option.{Option as Maybe, none, some}
use Rattle.base.specs.Bytes.{Bytes, precedes}
use Rattle.base.specs.Choice.{pick}
use Rattle.base.specs.Entity.{Entity}
use Rattle.base.specs.Map.{Map, key_of}
use Rattle.base.specs.Refusal.{of_entity}
use Rattle.base.specs.declared.refusal.Refusal.{Refusal}
use Rattle.group.specs.Number.{number_at, group_of}
use Rattle.group.specs.Pair.{Ranges, range, pairs_at, skip_of, entries_at, all_utf8, map_bytes}
use Rattle.entity.specs.declared.Sort.{Sort}
use Rattle.entity.specs.declared.Sort.TheVariants.{Any, Nodes, Areas}
use Rattle.entity.specs.declared.EntityRange.{EntityRange}
use Rattle.base.specs.Option.{on_option, on_option2, on_result_option}
use Rattle.base.specs.declared.Range.{Range}

-- the kinds of each sort
abbrev pub kind_fits : Sort → ℕ → Bool
kind_fits Any k = leb k 2
kind_fits Nodes k = eqb k 0
kind_fits Areas k = leb 1 k && leb k 2

-- keys rise strictly, bytewise
unfoldable pub rises_from : Bytes → List Bytes → Bool
rises_from x [] = true
rises_from x (y ∷ ys) = pick (precedes x y) (rises_from y ys) false

unfoldable pub rising : List Bytes → Bool
rising [] = true
rising (x ∷ xs) = rises_from x xs

-- the tags of an entity, as pairs of ranges and as bytes, and its value
abbrev pub tag_ranges : Bytes → EntityRange → List Ranges
tag_ranges s e = pairs_at e.count s e.tags

unfoldable pub tags_of : Bytes → EntityRange → Map Bytes
tags_of s e = entries_at e.count s e.tags

unfoldable pub value_of : Bytes → EntityRange → Entity
value_of s e = record { kind = e.kind; id = e.id; tags = tags_of s e }

-- the layout of the entity at a place: what is left to test at its end, from its tag count on, and from its kind on
unfoldable pub closed_of : Bytes → ℕ → EntityRange → Option EntityRange
closed_of s at e = pick (ltb 65536 (e.end - at)) None (pick (rising (map key_of (tags_of s e))) (Some e) None)

unfoldable pub tags_at : Bytes → ℕ → ℕ → ℕ → ℕ → Option EntityRange
tags_at s at kind id from =
    on_option2 (number_at s from 256) None λ n tags.
    on_option (skip_of n s tags) None λ end.
    closed_of s at (record { kind = kind; id = id; tags = tags; count = n; end = end })

unfoldable pub entity_at : Sort → Bytes → ℕ → Option EntityRange
entity_at sort s at =
    pick (leb (length s) at) None
    (pick (kind_fits sort (get_or s at 0))
    (on_option2 (number_at s (at + 1) 18446744073709551615) None λ id next. tags_at s at (get_or s at 0) id next)
    None)

-- a single entity, of any kind, with no bytes over: layout is refusal 7, a key or a value that is not UTF-8 is 2
unfoldable pub single_of : Bytes → Result EntityRange Refusal
single_of s =
    on_option (entity_at Any s 0) (Err (of_entity 7 false 0)) λ e.
    pick (eqb e.end (length s))
    (pick (all_utf8 (tags_of s e)) (Ok e) (Err (of_entity 2 false 0)))
    (Err (of_entity 7 false 0))

-- the entity at a place of a stream, which is number `place` there
unfoldable pub next_of : Sort → Bool → Bytes → ℕ → ℕ → Result (Option EntityRange) Refusal
next_of sort multipolygons s at place =
    pick (ltb 1048576 (length s)) (Err (of_entity 7 multipolygons 0))
    (pick (leb (length s) at) (Ok None)
    (on_option (entity_at sort s at) (Err (of_entity 7 multipolygons place)) λ e.
    pick (all_utf8 (tags_of s e)) (Ok (Some e)) (Err (of_entity 2 multipolygons place))))

-- entity number k, from 0, from a place of a stream on
unfoldable pub nth_from : ℕ → Sort → Bytes → ℕ → Option Range
nth_from zero sort s at = on_option (entity_at sort s at) None λ e. Some (range at e.end)
nth_from (suc k) sort s at = on_option (entity_at sort s at) None λ e. nth_from k sort s e.end

-- The entities of a stream, in order, and the refusal that ends it, if one does. The first number bounds the entities.
pub record Stream : Type 0 where
  pub entities : List Entity
  pub stopped : Maybe Refusal

abbrev pub with_first : Entity → Stream → Stream
with_first e r = record { entities = e ∷ r.entities; stopped = r.stopped }

unfoldable pub stream_from : ℕ → Sort → Bool → Bytes → ℕ → ℕ → Stream
stream_from zero sort multipolygons s at place = record { entities = []; stopped = none }
stream_from (suc n) sort multipolygons s at place =
    on_result_option (next_of sort multipolygons s at place) (λ r. record { entities = []; stopped = some r })
    (record { entities = []; stopped = none })
    λ e. with_first (value_of s e) (stream_from n sort multipolygons s e.end (place + 1))

unfoldable pub stream_of : Sort → Bool → Bytes → Stream
stream_of sort multipolygons s = stream_from (suc (length s)) sort multipolygons s 0 0

-- The other way: entities within the limits, and their bytes.
unfoldable pub entity_bytes : Entity → Bytes
entity_bytes e = e.kind ∷ (group_of e.id ++ (group_of (length e.tags) ++ map_bytes e.tags))

pub record IsEntity (e : Entity) : Type 0 where
  pub kind : e.kind ≤ 2
  pub id : e.id ≤ 18446744073709551615
  pub few : length e.tags ≤ 256
  pub keys : rising (map key_of e.tags) ≡ true
  pub size : length (entity_bytes e) ≤ 65536

unfoldable pub stream_bytes : List Entity → Bytes
stream_bytes [] = []
stream_bytes (e ∷ es) = entity_bytes e ++ stream_bytes es
