-- What a stream gives behind keys is what it gives alone, put behind them.
use Prim.Native.Nat.{ℕ, zero, suc, ◌+◌, ◌≤◌, ◌<◌}
use mathlib.Core.Path.{◌≡◌, refl, sym, ◌∙◌, ap}
use mathlib.Core.Bool.{Bool}
use mathlib.Core.List.{List, [], ◌++◌, append_assoc, append-nil}
use native.Mathlib.Omega.{arith}
use lib.Dec.{ltb}
use lib.Ieee.{Float}
use lib.ListN.{length, take, length-append}
use lib.Seq.{length-take-le, take-append-add}
use Rattle.std.proofs.lemmas.List.{take-append-le}
use borrow.Author.Tests.{ltb-true, ltb-false, lt-ltb, le-ltb}
use Rattle.base.specs.Bytes.{Bytes}
use Rattle.base.specs.Choice.{pick, by-test}
use Rattle.base.specs.Option.{on_option, on_result, on_result_option}
use Rattle.base.specs.Turns.{Turn, more, done, after, turns}
use Rattle.base.specs.declared.refusal.Refusal.{Refusal}
use Rattle.entity.specs.Layout.{next_of}
use Rattle.entity.specs.declared.EntityRange.{EntityRange}
use Rattle.entity.specs.declared.Sort.{Sort}
use Rattle.order.specs.declared.Key.{Key}
use Rattle.drawing.proofs.GatherLaws.{spot}
use Rattle.drawing.specs.Gather.{Gathered, stopped, gathered, on-Gathered, push, Spot, entity_keys, gather_turn, gather_of}
use Rattle.std.specs.Prelude.{Option, Some, None, Result, Ok, Err}

module _ (ws : List Key) where
  abbrev pub behind : Gathered → Gathered
  behind x = on-Gathered x stopped (λ xs. gathered (ws ++ xs))

  pub behind_refused : (g : Gathered) (r : Refusal) → g ≡ stopped r → behind g ≡ stopped r
  unfolding on-Gathered
  behind_refused g r e = ap behind e

  pub behind_keys : (g : Gathered) (ks : List Key) → g ≡ gathered ks → behind g ≡ gathered (ws ++ ks)
  unfolding on-Gathered
  behind_keys g ks e = ap behind e

  module _ (room rest : ℕ) (h : length ws + rest ≡ room) where
    push_behind : (ks : List Key) (g : Gathered) → push room (ws ++ ks) g ≡ behind (push rest ks g)
    unfolding push on-Gathered pick
    push_behind ks (stopped r) = refl
    push_behind ks (gathered xs) =
        let l = length-append ws ks in
        by-test (ltb rest (length ks + length xs))
        (λ a.
        let b : rest < length ks + length xs = ltb-true rest (length ks + length xs) a in
        let c : room < length (ws ++ ks) + length xs = omega (arith, l, h) in
        rw (a, lt-ltb room (length (ws ++ ks) + length xs) c))
        (λ a.
        let b : length ks + length xs ≤ rest = ltb-false rest (length ks + length xs) a in
        let c : length (ws ++ ks) + length xs ≤ room = omega (arith, l, h) in
        rw (a, le-ltb room (length (ws ++ ks) + length xs) c) (ap gathered (append_assoc ws ks xs)))

    module _
        (bundle : Bytes) (rules selectors tests properties : List ℕ) (numbers : List Float) (total zoom : ℕ) (for_labels : Bool)
        (sort : Sort) (multipolygons : Bool) (s : Bytes) where
      abbrev turn : ℕ → Spot → Turn Spot Gathered
      turn room = gather_turn bundle rules selectors tests properties numbers total zoom for_labels room sort multipolygons s

      abbrev keys_of : EntityRange → ℕ → Gathered
      keys_of = entity_keys bundle rules selectors tests properties numbers total zoom for_labels multipolygons s

      abbrev far : ℕ → Spot → Gathered
      far = turns (turn room) (gathered ws)

      abbrev near : ℕ → Spot → Gathered
      near = turns (turn rest) (gathered [])

      abbrev moved : Spot → Spot
      moved x = spot x.at x.place (ws ++ x.keys)

      abbrev then : ℕ → ℕ → Gathered → Turn Spot Gathered
      then at place g = on-Gathered g (λ r. done (stopped r)) (λ ks. more (spot at place ks))

      module _ (n : ℕ) (ih : (x : Spot) → far n (moved x) ≡ behind (near n x)) where
        pushed :
            (at place : ℕ) (g g' : Gathered)
            → g' ≡ behind g
            → after (then at place g') (far n) ≡ behind (after (then at place g) (near n))
        unfolding on-Gathered
        pushed at place (stopped r) g' e = ap (λ g. after (then at place g) (far n)) e
        pushed at place (gathered ks) g' e = ap (λ g. after (then at place g) (far n)) e ∙ ih (spot at place ks)

        next :
            (x : Spot) (y : Result (Option EntityRange) Refusal)
            → after
            (on_result_option y (λ r. done (stopped r)) (done (gathered (ws ++ x.keys))) λ e.
            then e.end (x.place + 1) (push room (ws ++ x.keys) (keys_of e x.place)))
            (far n)
            ≡ behind
            (after
            (on_result_option y (λ r. done (stopped r)) (done (gathered x.keys)) λ e.
            then e.end (x.place + 1) (push rest x.keys (keys_of e x.place)))
            (near n))
        unfolding on-Gathered on_result on_option
        next x (Err r) = refl
        next x (Ok None) = refl
        next x (Ok (Some e)) =
            pushed e.end (x.place + 1) (push rest x.keys (keys_of e x.place)) _ (push_behind x.keys (keys_of e x.place))

      turns_behind : (n : ℕ) (x : Spot) → far n (moved x) ≡ behind (near n x)
      unfolding turns gather_turn on-Gathered
      turns_behind zero x = ap gathered (sym (append-nil ws))
      turns_behind (suc n) x = next n (turns_behind n) x (next_of sort multipolygons s x.at x.place)

      pub gather_behind :
          behind (gather_of bundle rules selectors tests properties numbers total zoom for_labels rest sort multipolygons s [])
          ≡ gather_of bundle rules selectors tests properties numbers total zoom for_labels room sort multipolygons s ws
      unfolding gather_of
      gather_behind =
          sym (turns_behind (suc (length s)) (spot 0 0 []))
          ∙ ap (λ l. far (suc (length s)) (spot 0 0 l)) (append-nil ws)

-- the keys that stand behind others
pub taken_behind :
    (t u r : List Key) (w m : ℕ)
    → w ≤ length t
    → m ≤ length u
    → take (w + m) (take w t ++ (u ++ r)) ≡ take w t ++ take m u
taken_behind t u r w m h l =
    ap (λ n. take (n + m) (take w t ++ (u ++ r))) (sym (length-take-le w t h))
    ∙ take-append-add (take w t) (u ++ r) m
    ∙ ap (λ k. take w t ++ k) (take-append-le m u r l)
