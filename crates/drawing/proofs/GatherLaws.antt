-- Laws of the keys of one entity and of a stream, one for each way through the code, over plain lists and numbers.
use Prim.Native.Nat.{ℕ, suc, ◌+◌, ◌-◌, ◌≤◌, ◌<◌}
use mathlib.Core.Path.{◌≡◌, refl, sym, ◌∙◌, ap}
use mathlib.Core.Bool.{Bool, true, false}
use mathlib.Core.List.{List, [], ◌++◌}
use native.Mathlib.Omega.{arith}
use lib.Dec.{leb, ltb}
use lib.IntN.{ℤ}
use lib.Ieee.{Float}
use lib.ListN.{length, take, drop, length-drop}
use lib.Seq.{length-take-le, take-append-add}
use Rattle.std.proofs.lemmas.List.{take-append-le}
use borrow.Author.Tests.{ltb-true, ltb-false, lt-ltb, le-ltb}
use Rattle.base.specs.Bytes.{Bytes}
use Rattle.base.specs.Choice.{pick, by-test, via, via_with, different}
use Rattle.base.specs.Refusal.{of_entity}
use Rattle.base.specs.Turns.{Turn, more, done}
use Rattle.base.specs.declared.refusal.Refusal.{Refusal}
use Rattle.base.proofs.Loops.{Going, going_start, going_more, going_done}
use Rattle.group.specs.Pair.{all_utf8}
use Rattle.entity.specs.Layout.{tags_of, entity_at, next_of}
use Rattle.entity.proofs.Inverse.{end_there}
use Rattle.entity.specs.declared.EntityRange.{EntityRange}
use Rattle.entity.specs.declared.Sort.{Sort}
use Rattle.styles.specs.Styles.{styled_rows}
use Rattle.order.specs.declared.Key.{Key}
use Rattle.drawing.specs.Gather.{Gathered, stopped, gathered, on-Gathered, told, keys_from, any_nan, keys_in, push, Spot, entity_keys, gather_turn, gather_of}
use Rattle.std.specs.Prelude.{Option, Result, Ok, Err, Some, None}
use Rattle.base.specs.Option.{on_option, on_result}
use Rattle.base.proofs.Options.{by_option}

-- ---- one entity, from the answer r and the table t of its walk

module _
    (bundle : Bytes) (selectors properties : List ℕ) (numbers : List Float) (for_labels multipolygons : Bool) (place kind id : ℕ)
    (layer : Option ℤ) (room : ℕ) (ks : List Key) (r : Result ℕ Refusal) (t : List ℕ) (w : Result ℕ Refusal × List ℕ) (e : (r, t) ≡ w) where
  abbrev pushed : Result ℕ Refusal × List ℕ → Gathered
  pushed x = push room ks (keys_in bundle selectors properties numbers for_labels multipolygons place kind id layer x)

  pub entity_refused : (x : Refusal) → r ≡ Err x → stopped x ≡ pushed w
  unfolding push keys_in
  entity_refused x q = sym (ap pushed (via_with e q))

  module _
      (n : ℕ) (q : r ≡ Ok n) (b : Bool) (p : b ≡ any_nan bundle properties numbers t kind (styled_rows bundle selectors t n)) where
    pub entity_nan : b ≡ true → (x : Refusal) → x ≡ of_entity 9 multipolygons place → stopped x ≡ pushed w
    unfolding push keys_in pick
    entity_nan y x z =
        let g : pushed (Ok n, t) ≡ stopped (of_entity 9 multipolygons place) = rw (← p, y) in
        ap stopped z ∙ sym g ∙ sym (ap pushed (via_with e q))

    pub entity_pushed :
        b ≡ false
        → (x : Gathered)
        → x
        ≡ push room ks
        (gathered
        (keys_from bundle properties numbers for_labels multipolygons place kind id layer t 0 (styled_rows bundle selectors t n)))
        → x ≡ pushed w
    unfolding keys_in pick
    entity_pushed y x u =
        let g : pushed (Ok n, t)
        ≡ push room ks
        (gathered
        (keys_from bundle properties numbers for_labels multipolygons place kind id layer t 0 (styled_rows bundle selectors t n))) =
        rw (← p, y) in
        u ∙ sym g ∙ sym (ap pushed (via_with e q))

-- ---- an entity that is read ends behind its start and within the stream

pub next_end :
    (sort : Sort) (multipolygons : Bool) (s : Bytes) (at place : ℕ) (r : EntityRange)
    → next_of sort multipolygons s at place ≡ Ok (Some r)
    → (at < r.end) × (r.end ≤ length s) × (length s ≤ 1048576)
unfolding next_of on_option pick
next_end sort multipolygons s at place r e =
    by-test (ltb 1048576 (length s))
    (λ a. let z = rw a at e in different cc)
    (λ a.
    by-test (leb (length s) at)
    (λ b. let z = rw (a, b) at e in different cc)
    (λ b.
    by_option (entity_at sort s at)
    (λ c. let z = rw (a, b, c) at e in different cc)
    (λ x c.
    by-test (all_utf8 (tags_of s x))
    (λ d.
    let y : Ok (Some x) ≡ Ok (Some r) = rw (a, b, c, d) at e in
    let z : x ≡ r = cc in
    let h = end_there sort s at r (c ∙ ap Some z) in
    (h.0, h.1, ltb-false 1048576 (length s) a))
    (λ d. let z = rw (a, b, c, d) at e in different cc))))

-- ---- a stream

pub told_stopped : (q : Result ℕ Refusal) (t : List Key) (x : Gathered) (r : Refusal) → told q t ≡ x → q ≡ Err r → x ≡ stopped r
told_stopped q t x r e m = sym e ∙ ap (λ (q : Result ℕ Refusal). told q t) m

pub told_now : (q : Result ℕ Refusal) (t : List Key) (x : Gathered) (n : ℕ) → told q t ≡ x → q ≡ Ok n → x ≡ gathered (take n t)
told_now q t x n e m = sym e ∙ ap (λ (q : Result ℕ Refusal). told q t) m

-- keys behind the first m of t, from what is answered of the part behind them
module _ (t : List Key) (m : ℕ) (h : m ≤ length t) where
  abbrev part : List Key
  part = take (length t - m) (drop m t)

  pub part_length : m + length part ≡ length t
  part_length = omega (arith, length-drop m t, length-take-le (length t - m) (drop m t) (rw (length-drop m t) (omega arith)))

  abbrev after : Gathered → Gathered
  after x = on-Gathered x stopped (λ xs. gathered (take m t ++ xs))

  push_behind : (g : Gathered) → push (length t) (take m t) g ≡ after (push (length part) [] g)
  unfolding push on-Gathered pick
  push_behind (stopped r) = refl
  push_behind (gathered xs) =
      let l = length-take-le m t h in
      by-test (ltb (length part) (0 + length xs))
      (λ a.
      let b : length part < 0 + length xs = ltb-true (length part) (0 + length xs) a in
      let c : length t < length (take m t) + length xs = omega (arith, part_length) in
      rw (a, lt-ltb (length t) (length (take m t) + length xs) c))
      (λ a.
      let b : 0 + length xs ≤ length part = ltb-false (length part) (0 + length xs) a in
      let c : length (take m t) + length xs ≤ length t = omega (arith, part_length) in
      rw (a, le-ltb (length t) (length (take m t) + length xs) c))

  pub behind_stopped : (g : Gathered) (r : Refusal) → push (length part) [] g ≡ stopped r → push (length t) (take m t) g ≡ stopped r
  unfolding on-Gathered
  behind_stopped g r e = push_behind g ∙ ap after e

  pub behind_now :
      (g : Gathered) (u r : List Key) (k : ℕ)
      → push (length part) [] g ≡ gathered (take k u)
      → k ≤ length u
      → push (length t) (take m t) g ≡ gathered (take (m + k) (take m t ++ (u ++ r)))
  unfolding on-Gathered
  behind_now g u r k e l =
      push_behind g
      ∙ ap after e
      ∙ ap (λ xs. gathered (take m t ++ xs)) (sym (take-append-le k u r l))
      ∙ ap gathered
      (sym (take-append-add (take m t) (u ++ r) k)
      ∙ ap (λ n. take (n + k) (take m t ++ (u ++ r))) (length-take-le m t h))

abbrev pub spot : ℕ → ℕ → List Key → Spot
spot at place ks = record { at = at; place = place; keys = ks }

module _
    (bundle : Bytes) (rules selectors tests properties : List ℕ) (numbers : List Float) (total zoom : ℕ) (for_labels : Bool)
    (room : ℕ) (sort : Sort) (multipolygons : Bool) (s : Bytes) (sofar : List Key) where
  abbrev turn : Spot → Turn Spot Gathered
  turn = gather_turn bundle rules selectors tests properties numbers total zoom for_labels room sort multipolygons s

  abbrev whole : Gathered
  whole = gather_of bundle rules selectors tests properties numbers total zoom for_labels room sort multipolygons s sofar

  abbrev keys_of : EntityRange → ℕ → Gathered
  keys_of = entity_keys bundle rules selectors tests properties numbers total zoom for_labels multipolygons s

  -- what is left of the stream gives what the whole gives
  abbrev pub Left : ℕ → ℕ → List Key → Type 0
  Left at place ks = Going turn (gathered sofar) (length s - at) (spot at place ks) whole

  pub gather_start : Left 0 0 sofar
  unfolding gather_of
  gather_start = going_start turn (gathered sofar) (suc (length s)) (length s - 0) (spot 0 0 sofar) (omega arith)

  module _ (at place : ℕ) (ks : List Key) (g : Left at place ks) (x : Result (Option EntityRange) Refusal) (e : x ≡ next_of sort multipolygons s at place) where
    pub gather_bad : (r : Refusal) → x ≡ Err r → stopped r ≡ whole
    unfolding gather_turn on_result on_option
    gather_bad r q =
        let y : turn (spot at place ks) ≡ done (stopped r) = rw (via e q) in
        going_done turn (gathered sofar) (length s - at) (spot at place ks) (stopped r) whole g y

    pub gather_end : x ≡ Ok None → gathered ks ≡ whole
    unfolding gather_turn on_result on_option
    gather_end q =
        let y : turn (spot at place ks) ≡ done (gathered ks) = rw (via e q) in
        going_done turn (gathered sofar) (length s - at) (spot at place ks) (gathered ks) whole g y

    module _ (r : EntityRange) (q : x ≡ Ok (Some r)) where
      pub gather_stopped : (z : Refusal) → push room ks (keys_of r place) ≡ stopped z → stopped z ≡ whole
      unfolding gather_turn on_result on_option on-Gathered
      gather_stopped z p =
          let y : turn (spot at place ks) ≡ done (stopped z) = rw (via e q, p) in
          going_done turn (gathered sofar) (length s - at) (spot at place ks) (stopped z) whole g y

      pub gather_more : (ks' : List Key) → push room ks (keys_of r place) ≡ gathered ks' → Left r.end (place + 1) ks'
      unfolding gather_turn on_result on_option on-Gathered
      gather_more ks' p =
          let y : turn (spot at place ks) ≡ more (spot r.end (place + 1) ks') = rw (via e q, p) in
          let h = next_end sort multipolygons s at place r (via e q) in
          going_more turn (gathered sofar) (length s - at) (length s - r.end) (spot at place ks)
          (spot r.end (place + 1) ks') whole g y (omega arith)
