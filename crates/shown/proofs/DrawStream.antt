-- The keys that are gathered from a stream of bytes are those of the theory's drawing of its entities, and of the refusal that ends it.
use Prim.Native.Nat.{ℕ, zero, suc, ◌+◌, ◌-◌, ◌<◌, ◌≤◌}
use native.Mathlib.Numerals.{add-one}
use native.Mathlib.Omega.{arith}
use mathlib.Core.Path.{◌≡◌, refl, sym, ◌∙◌, ap}
use mathlib.Core.Bool.{Bool}
use mathlib.Core.List.{List, [], ◌++◌, map, append-nil}
use lib.Ieee.{Float}
use lib.ListN.{length, length-append}
use Rattle.base.specs.Bytes.{Bytes}
use Rattle.base.specs.Turns.{Turn, turns}
use Rattle.base.specs.declared.refusal.Refusal.{Refusal}
use Rattle.entity.specs.Layout.{value_of, next_of, Stream, stream_from, stream_of}
use Rattle.entity.specs.declared.EntityRange.{EntityRange}
use Rattle.entity.specs.declared.Sort.{Sort}
use Rattle.sheet.specs.Sheet.{Rule, Value}
use Rattle.cascade.specs.Draw.{Drawn, Drawing, declined, entries, entity_drawing, join, fit, size, stream_within}
use Rattle.cascade.proofs.DrawProof.{join_assoc}
use Rattle.cascade.specs.Numbered.{map_answer}
use Rattle.cascade.proofs.NumberedLaws.{maps_mapped}
use Rattle.cascade.specs.Walk.{property_maps}
use Rattle.decode.specs.Decode.{places, numbered_at, rules_at}
use Rattle.keep.specs.Lent.{Lent, lent, counted}
use Rattle.walk.specs.Maps.{walk_of}
use Rattle.maps.proofs.Held.{walk_is, refusal_named}
use Rattle.style.specs.declared.Settings.{Settings}
use Rattle.drawing.proofs.GatherLaws.{next_end}
use Rattle.drawing.specs.Gather.{Gathered, gathered, on-Gathered, Spot, entity_keys, gather_turn, gather_of}
use Rattle.shown.specs.Style.{settings_shown}
use Rattle.shown.specs.Draws.{ended, stream_drawn}
use Rattle.shown.proofs.Rows.{value}
use Rattle.shown.proofs.StylesAre.{numbered_rules}
use Rattle.shown.proofs.DrawKeys.{key_for, keys_of, entity_keys_lem, push_is}
use Rattle.std.specs.Prelude.{Option, Some, None, Result, Ok, Err}
use Rattle.base.specs.Option.{on_option, on_result}

-- ---- the stream

module _
    (bundle : Bytes) (rules selectors tests properties : List ℕ) (numbers : List Float) (colors : List ℕ) (total zoom : ℕ)
    (few : total ≤ 16384) (s : Settings) (room : ℕ) (sort : Sort) (mp : Bool) (b : Bytes) where
  abbrev τ : Lent
  τ = lent (counted total) rules selectors tests properties numbers colors

  abbrev rs : List (Rule Value)
  rs = rules_at bundle τ

  abbrev l : Bool
  l = s.for_labels

  -- the drawing of an entity
  abbrev one : ℕ → EntityRange → Drawing
  one place e = entity_drawing mp (settings_shown s) place (value_of b e) (property_maps zoom (value_of b e) rs)

  one_keys :
      (e : EntityRange) (place : ℕ)
      → entity_keys bundle rules selectors tests properties numbers total zoom l mp b e place ≡ keys_of l (one place e)
  unfolding value_of
  one_keys e place =
      let d = value_of b e in
      let f = value bundle τ [] in
      entity_keys_lem bundle τ s mp place d (walk_of bundle rules selectors tests properties numbers total zoom b e mp place)
      (λ r t. refusal_named bundle rules selectors tests properties numbers total zoom b e mp place r t few)
      ∙ ap (λ a. keys_of l (entity_drawing mp (settings_shown s) place d a))
      (ap (map_answer f) (walk_is bundle rules selectors tests properties numbers total zoom b e mp place few)
      ∙ sym
      (maps_mapped f zoom d (map (numbered_at bundle rules selectors tests properties numbers) (places 0 total)))
      ∙ ap (property_maps zoom d) (numbered_rules bundle τ))

  abbrev turn : Spot → Turn Spot Gathered
  turn = gather_turn bundle rules selectors tests properties numbers total zoom l room sort mp b

  abbrev spot : ℕ → ℕ → List Drawn → Spot
  spot at place xs = record { at = at; place = place; keys = map (key_for l) xs }

  -- what is left of a stream, behind so many entries
  abbrev left : ℕ → ℕ → Stream → Drawing
  left n place es = join ◌++◌ (stream_within room mp (settings_shown s) zoom rs n place es.entities) (ended es.stopped)

  abbrev Rest : Gathered → ℕ → Type 0
  Rest d fuel =
      (at place : ℕ) (xs : List Drawn)
      → length b - at < fuel
      → turns turn d fuel (spot at place xs)
      ≡ keys_of l (join ◌++◌ (entries xs) (left (length xs) place (stream_from fuel sort mp b at place)))

  -- an entity is read: its keys are refused, or go behind those so far
  read_on :
      (d : Gathered) (fuel : ℕ) (at place : ℕ) (xs : List Drawn) (e : EntityRange)
      → Rest d fuel
      → length b - e.end < fuel
      → next_of sort mp b at place ≡ Ok (Some e)
      → (x : Drawing)
      → fit room (length xs) (one place e) ≡ x
      → turns turn d (suc fuel) (spot at place xs)
      ≡ keys_of l (join ◌++◌ (entries xs) (left (length xs) place (stream_from (suc fuel) sort mp b at place)))
  unfolding turns gather_turn on_result on_option on-Gathered stream_from stream_within join keys_of size
  read_on d fuel at place xs e rest h p (declined r) q =
      rw (gather_turn, p, one_keys e place, push_is l room xs (one place e), q)
  read_on d fuel at place xs e rest h p (entries ys) q =
      let es = stream_from fuel sort mp b e.end (suc place) in
      let w = stream_within room mp (settings_shown s) zoom rs (length xs + length ys) (suc place) es.entities in
      rw (gather_turn, p, one_keys e place, push_is l room xs (one place e), q)
      (rest e.end (place + 1) (xs ++ ys) h
      ∙ rw (add-one place, length-append xs ys)
      (ap (keys_of l)
      (sym (join_assoc (entries xs) (entries ys) (join ◌++◌ w (ended es.stopped)))
      ∙ ap (join ◌++◌ (entries xs)) (join_assoc (entries ys) w (ended es.stopped)))))

  next_on :
      (d : Gathered) (fuel : ℕ) (at place : ℕ) (xs : List Drawn)
      → Rest d fuel
      → length b - at < suc fuel
      → (x : Result (Option EntityRange) Refusal)
      → next_of sort mp b at place ≡ x
      → turns turn d (suc fuel) (spot at place xs)
      ≡ keys_of l (join ◌++◌ (entries xs) (left (length xs) place (stream_from (suc fuel) sort mp b at place)))
  unfolding turns gather_turn on_result on_option stream_from stream_within join keys_of ended
  next_on d fuel at place xs rest h (Err r) p = rw (gather_turn, p)
  next_on d fuel at place xs rest h (Ok None) p = rw (gather_turn, p, append-nil xs)
  next_on d fuel at place xs rest h (Ok (Some e)) p =
      let f = next_end sort mp b at place e p in
      read_on d fuel at place xs e rest (omega (arith, f.0, f.1)) p (fit room (length xs) (one place e)) refl

  all_read : (d : Gathered) (fuel : ℕ) → Rest d fuel
  all_read d zero at place xs h = absurd (omega arith)
  all_read d (suc fuel) at place xs h =
      next_on d fuel at place xs (all_read d fuel) h (next_of sort mp b at place) refl

  pub stream_keys :
      (xs : List Drawn)
      → gather_of bundle rules selectors tests properties numbers total zoom l room sort mp b (map (key_for l) xs)
      ≡ keys_of l (join ◌++◌ (entries xs) (stream_drawn room (settings_shown s) zoom rs mp (length xs) (stream_of sort mp b)))
  unfolding gather_of stream_of
  stream_keys xs = all_read (gathered (map (key_for l) xs)) (suc (length b)) 0 0 xs (omega arith)
