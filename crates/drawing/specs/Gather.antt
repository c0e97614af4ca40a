-- The keys of a drawing list, gathered entity by entity from tables, a bundle and streams that may be any bytes: refusals 7, 2, those
-- of the walk, 9, then 25.
use Rattle.std.specs.Prelude.{ℕ, suc, ◌+◌, ◌≤◌, Bool, true, false, List, [], ◌∷◌, ◌++◌, ltb, ℤ, pos, Float, length, take, Option, Some, None, Result, Ok, Err}
use Rattle.std.specs.Float.Ieee.{is_nan}
use Rattle.base.specs.Bytes.{Bytes}
use Rattle.base.specs.Choice.{pick}
use Rattle.base.specs.Refusal.{refusal, of_entity}
use Rattle.base.specs.Turns.{Turn, more, done, turns}
use Rattle.base.specs.declared.refusal.Refusal.{Refusal}
use Rattle.entity.specs.Layout.{value_of, next_of}
use Rattle.entity.specs.declared.EntityRange.{EntityRange}
use Rattle.entity.specs.declared.Sort.{Sort}
use Rattle.cascade.specs.Style.{layer_tag}
use Rattle.tag_number.specs.Told.{layer_told}
use Rattle.walk.specs.Maps.{walk_of}
use Rattle.walk.specs.Rows.{numbers_at}
use Rattle.style.specs.Style.{z_index_in, foreground_in}
use Rattle.styles.specs.Styles.{styled_rows}
use Rattle.order.specs.declared.Key.{Key}
use Rattle.base.specs.Option.{on_result_option}

-- a refusal, or the keys so far
pub data Gathered : Type 0 where
  stopped : Refusal → Gathered
  gathered : List Key → Gathered

unfoldable pub on-Gathered : {A : Type 0} → Gathered → (Refusal → A) → (List Key → A) → A
on-Gathered (stopped r) f g = f r
on-Gathered (gathered ks) f g = g ks

-- what an answer tells, beside the keys that it leaves: after a refusal they are not spoken of
abbrev pub told : Result ℕ Refusal → List Key → Gathered
told (Err r) keys = stopped r
told (Ok n) keys = gathered (take n keys)

-- a count that an answer hands on stays within the room
abbrev pub IsBounded : ℕ → Result ℕ Refusal → Type 0
IsBounded room (Err r) = Unit {0}
IsBounded room (Ok n) = n ≤ room

-- ---- the keys of one layer

-- absent is 0
unfoldable pub layer_rank : Option ℤ → ℤ
layer_rank None = pos 0
layer_rank (Some i) = i

-- background first, unless for labels
unfoldable pub fill_rank : Bool → Bool → ℕ
fill_rank for_labels foreground = pick for_labels 0 (pick foreground 1 0)

unfoldable pub stream_rank : Bool → ℕ
stream_rank multipolygons = pick multipolygons 1 0

module _ (bundle : Bytes) (properties : List ℕ) (numbers : List Float) where
  -- the z-index of layer i of a table of maps
  abbrev pub z_of : List ℕ → ℕ → ℕ → Float
  z_of t kind i = z_index_in bundle properties numbers (numbers_at t i) kind

  module _ (for_labels multipolygons : Bool) (place kind id : ℕ) (layer : Option ℤ) (t : List ℕ) where
    -- layer i of a table of maps, which is styled layer k of its entity
    abbrev pub key_of : ℕ → ℕ → Key
    key_of k i =
        record {
          layer = layer_rank layer;
          fill = fill_rank for_labels (foreground_in bundle properties numbers (numbers_at t i));
          z_index = z_of t kind i;
          id = id;
          stream = stream_rank multipolygons;
          place = place;
          styled = k;
        }

    unfoldable pub keys_from : ℕ → List ℕ → List Key
    keys_from k [] = []
    keys_from k (i ∷ is) = key_of k i ∷ keys_from (k + 1) is

  unfoldable pub any_nan : List ℕ → ℕ → List ℕ → Bool
  any_nan t kind [] = false
  any_nan t kind (i ∷ is) = pick (is_nan (z_of t kind i)) true (any_nan t kind is)

-- ---- the keys of one entity, from the answer of its walk

module _ (bundle : Bytes) (selectors properties : List ℕ) (numbers : List Float) where
  unfoldable pub keys_in : Bool → Bool → ℕ → ℕ → ℕ → Option ℤ → Result ℕ Refusal × List ℕ → Gathered
  keys_in for_labels multipolygons place kind id layer (Err r, t) = stopped r
  keys_in for_labels multipolygons place kind id layer (Ok n, t) =
      pick (any_nan bundle properties numbers t kind (styled_rows bundle selectors t n))
      (stopped (of_entity 9 multipolygons place))
      (gathered (keys_from bundle properties numbers for_labels multipolygons place kind id layer t 0 (styled_rows bundle selectors t n)))

-- behind those so far, where there is room for them
unfoldable pub push : ℕ → List Key → Gathered → Gathered
push room sofar (stopped r) = stopped r
push room sofar (gathered ks) = pick (ltb room (length sofar + length ks)) (stopped (refusal 25 0 0 0 0)) (gathered (sofar ++ ks))

-- ---- a stream

-- where the next entity stands, its place, and the keys so far
pub record Spot : Type 0 where
  pub at : ℕ
  pub place : ℕ
  pub keys : List Key

module _
    (bundle : Bytes) (rules selectors tests properties : List ℕ) (numbers : List Float) (total zoom : ℕ)
    (for_labels multipolygons : Bool) (s : Bytes) where
  abbrev pub entity_keys : EntityRange → ℕ → Gathered
  entity_keys e place =
      keys_in bundle selectors properties numbers for_labels multipolygons place e.kind e.id (layer_told (layer_tag (value_of s e)))
      (walk_of bundle rules selectors tests properties numbers total zoom s e multipolygons place)

module _
    (bundle : Bytes) (rules selectors tests properties : List ℕ) (numbers : List Float) (total zoom : ℕ) (for_labels : Bool)
    (room : ℕ) (sort : Sort) (multipolygons : Bool) (s : Bytes) where
  abbrev keys_of : EntityRange → ℕ → Gathered
  keys_of = entity_keys bundle rules selectors tests properties numbers total zoom for_labels multipolygons s

  unfoldable pub gather_turn : Spot → Turn Spot Gathered
  gather_turn x =
      on_result_option (next_of sort multipolygons s x.at x.place) (λ r. done (stopped r)) (done (gathered x.keys)) λ e.
      on-Gathered (push room x.keys (keys_of e x.place)) (λ r. done (stopped r)) λ ks.
      more (record { at = e.end; place = x.place + 1; keys = ks })

  -- the keys so far, and those of a whole stream
  unfoldable pub gather_of : List Key → Gathered
  gather_of sofar = turns gather_turn (gathered sofar) (suc (length s)) (record { at = 0; place = 0; keys = sofar })
