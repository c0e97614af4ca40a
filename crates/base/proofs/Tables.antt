-- The laws of a lent table, over any element type and any stride.
use mathlib.Core.Path.{◌≡◌, refl, sym, ap, ◌∙◌}
use mathlib.Core.List.{List, [], ◌∷◌, ◌++◌, append_assoc, append-nil}
use mathlib.Core.Bool.{Bool, true, false}
use Prim.Native.Nat.{ℕ, suc, ◌+◌, ◌-◌, ◌*◌, ◌/◌, ◌≤◌, ◌<◌, min}
use native.Mathlib.Nat.{sub-zero}
use native.Mathlib.Omega.{arith}
use lib.Dec.{leb}
use lib.ListN.{drop_of_length-le, length, replicate, set, take, drop, length-append, length-set, length-take, length-drop, take-append-drop}
use borrow.Author.Tests.{leb-true, leb-false}
use Rattle.std.proofs.lemmas.List.{set_past}
use lib.Seq.{set_at}
use Rattle.base.specs.Table.{padded, stored, flat, capacity_of}

module _ {A : Type 0} where
  -- a table with no entry is all filler
  pub padded_none : (z : A) (len : ℕ) → padded z len [] ≡ replicate len z
  padded_none z len = rw (sub-zero len)

  -- one element stored behind the elements
  pub padded_set :
      (z : A) (len : ℕ) (es : List A) (n : ℕ) (v : A)
      → length es ≡ n
      → n < len
      → set (padded z len es) n v ≡ padded z len (es ++ (v ∷ []))
  padded_set z len es n v e h =
      let r = replicate (len - suc n) z in
      let m : len - length es ≡ suc (len - suc n) = omega arith in
      let m' : len - length (es ++ (v ∷ [])) ≡ len - suc n = omega (arith, length-append es (v ∷ [])) in
      ap (λ (k : ℕ). set (es ++ replicate k z) n v) m
      ∙ set_at es z r v n e
      ∙ sym (ap (λ (k : ℕ). (es ++ (v ∷ [])) ++ replicate k z) m' ∙ append_assoc es (v ∷ []) r)

  -- an entry stored behind the elements
  pub padded_stored :
      (z : A) (len : ℕ) (es : List A) (i : ℕ) (vs : List A)
      → length es ≡ i
      → i + length vs ≤ len
      → stored (padded z len es) i vs ≡ padded z len (es ++ vs)
  padded_stored z len es i [] e h = ap (padded z len) (sym (append-nil es))
  padded_stored z len es i (v ∷ vs) e h =
      let l : length (es ++ (v ∷ [])) ≡ i + 1 = length-append es (v ∷ []) ∙ omega arith in
      rw (padded_set z len es i v e (omega arith))
      (padded_stored z len (es ++ (v ∷ [])) (i + 1) vs l (omega arith)
      ∙ ap (padded z len) (append_assoc es (v ∷ []) vs))

  pub length_stored : (t : List A) (i : ℕ) (vs : List A) → length (stored t i vs) ≡ length t
  length_stored t i [] = refl
  length_stored t i (v ∷ vs) = length_stored (set t i v) (i + 1) vs ∙ length-set t i v

  pub stored_append :
      (t : List A) (i : ℕ) (xs ys : List A)
      → stored t i (xs ++ ys) ≡ stored (stored t i xs) (i + length xs) ys
  stored_append t i [] ys = ap (λ (j : ℕ). stored t j ys) (omega arith)
  stored_append t i (x ∷ xs) ys =
      stored_append (set t i x) (i + 1) xs ys
      ∙ ap (λ (j : ℕ). stored (stored (set t i x) (i + 1) xs) j ys) (omega arith)

  -- elements that fit, stored behind the first i
  pub stored_at :
      (p q : List A) (i : ℕ) (vs : List A)
      → length p ≡ i
      → length vs ≤ length q
      → stored (p ++ q) i vs ≡ p ++ (vs ++ drop (length vs) q)
  stored_at p q i [] e h = refl
  stored_at p [] i (v ∷ vs) e h = absurd (omega arith)
  stored_at p (y ∷ q) i (v ∷ vs) e h =
      let l : length (p ++ (v ∷ [])) ≡ i + 1 = length-append p (v ∷ []) ∙ omega arith in
      ap (λ (t : List A). stored t (i + 1) vs) (set_at p y q v i e ∙ sym (append_assoc p (v ∷ []) q))
      ∙ stored_at (p ++ (v ∷ [])) q (i + 1) vs l (omega arith)
      ∙ append_assoc p (v ∷ []) (vs ++ drop (length vs) q)

  -- a part of the list overwritten is its elements stored
  pub part_stored :
      (t xs : List A) {us : List A} (at : ℕ)
      → at + length xs ≤ length t
      → us ≡ xs
      → take at t ++ (us ++ drop (at + length xs - at) (drop at t)) ≡ stored t at xs
  part_stored t xs at h e =
      let n : at + length xs - at ≡ length xs = omega arith in
      let l : length (take at t) ≡ at = length-take at t ∙ omega arith in
      let q : length xs ≤ length (drop at t) = omega (arith, length-drop at t) in
      ap (λ (us : List A). take at t ++ (us ++ drop (at + length xs - at) (drop at t))) e
      ∙ ap (λ (k : ℕ). take at t ++ (xs ++ drop k (drop at t))) n
      ∙ sym (stored_at (take at t) (drop at t) at xs l q)
      ∙ ap (λ (t : List A). stored t at xs) (take-append-drop at t)

  -- past the end nothing is stored
  pub stored_past : (t : List A) (i : ℕ) (xs : List A) → length t ≤ i → stored t i xs ≡ t
  stored_past t i [] h = refl
  stored_past t i (x ∷ xs) h = rw (set_past t i x h) (stored_past t (i + 1) xs (omega arith))

  -- elements stored from a place on, as far as there is room
  pub room_stored :
      (t xs : List A) {us : List A} (at n : ℕ)
      → at < length t
      → n ≡ min (length xs) (length t - at)
      → us ≡ take n xs
      → take at t ++ (us ++ drop (at + n - at) (drop at t)) ≡ stored t at xs
  room_stored t xs {us} at n h e q =
      let l : length (take n xs) ≡ n = length-take n xs ∙ omega arith in
      ap (λ (k : ℕ). take at t ++ (us ++ drop (at + k - at) (drop at t))) (sym l)
      ∙ part_stored t (take n xs) at (omega arith) q
      ∙ sym (left (leb (length xs) (length t - at)) refl)
      ∙ sym (stored_append t at (take n xs) (drop n xs))
      ∙ ap (stored t at) (take-append-drop n xs)
    where
      u : List A
      u = stored t at (take n xs)

      left : (b : Bool) → b ≡ leb (length xs) (length t - at) → stored u (at + length (take n xs)) (drop n xs) ≡ u
      left true q =
          let f = leb-true (length xs) (length t - at) (sym q) in
          ap (stored u (at + length (take n xs))) (drop_of_length-le xs (omega arith))
      left false q =
          let f = leb-false (length xs) (length t - at) (sym q) in
          stored_past u (at + length (take n xs)) (drop n xs) (omega (arith, length_stored t at (take n xs), length-take n xs))

  flat_append : (es fs : List (List A)) → flat (es ++ fs) ≡ flat es ++ flat fs
  flat_append [] fs = refl
  flat_append (e ∷ es) fs = ap (λ (r : List A). e ++ r) (flat_append es fs) ∙ sym (append_assoc e (flat es) (flat fs))

  -- a store at the count adds one entry, at any stride
  pub padded_entry :
      (z : A) (len k n : ℕ) (es : List (List A)) (e : List A)
      → length (flat es) ≡ n * k
      → length e ≡ k
      → n * k + k ≤ len
      → stored (padded z len (flat es)) (n * k) e ≡ padded z len (flat (es ++ (e ∷ [])))
  padded_entry z len k n es e p q h =
      padded_stored z len (flat es) (n * k) e p (omega arith)
      ∙ ap (padded z len) (sym (flat_append es (e ∷ []) ∙ ap (λ (r : List A). flat es ++ r) (append-nil e)))

-- capacity as the code finds it
pub capacity_none : (stride len : ℕ) → stride ≡ 0 → 0 ≡ capacity_of stride len
unfolding capacity_of
capacity_none stride len e = rw (e, native.Mathlib.Nat.div-zero)

pub capacity_min : (stride len : ℕ) → min (len / stride) 16384 ≡ capacity_of stride len
unfolding capacity_of
capacity_min stride len = omega arith
