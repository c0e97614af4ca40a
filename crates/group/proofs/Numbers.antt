-- Reading a group number byte by byte, and reading as the inverse of writing.
use Prim.Native.Nat.{ℕ, zero, suc, ◌+◌, ◌*◌, ◌/◌, ◌%◌, ◌<◌, ◌≤◌}
use native.Mathlib.Omega.{arith}
use native.Mathlib.Numerals.{add-one}
use mathlib.Core.Path.{◌≡◌, sym, ◌∙◌, ap, ap₂}
use mathlib.Core.Bool.{true, false}
use mathlib.Core.List.{[], ◌∷◌, ◌++◌}
use lib.Dec.{ltb, leb, eqb}
use lib.ListN.{length, get_or, take, drop, drop_of_length-le, length-drop, take-append-drop}
use lib.Seq.{drop-cons, drop-drop}
use borrow.Author.Tests.{lt-ltb, le-ltb, le-leb, lt-leb, ne_eqb, ltb-true, ltb-false, leb-true, leb-false, eqb-false}
use Rattle.base.specs.Bytes.{Bytes, AllBytes, none, next}
use Rattle.base.specs.Choice.{pick, by-test}
use Rattle.group.specs.Number.{number_from, number_at, groups_of, group_of, single, joined}
use Rattle.std.specs.Prelude.{Option, Some, None}
use Rattle.base.specs.Option.{on_option, on_option2}
use Rattle.base.proofs.Options.{by_option2, none_some, some2_first, some2_second}

-- the first byte decides how to go on
module _ (s : Bytes) (at most : ℕ) where
  pub number_end : false ≡ ltb at (length s) → None ≡ number_at s at most
  unfolding number_at number_from on_option
  number_end h = rw (drop_of_length-le s (ltb-false at (length s) (sym h)))

  module _ (h : true ≡ ltb at (length s)) (a : ℕ) (A : a ≡ get_or s at a) where
    from_first : number_from (drop at s) ≡ number_from (a ∷ drop (at + 1) s)
    from_first =
        ap number_from
        (drop-cons s at a (ltb-true at (length s) (sym h)) ∙ ap₂ (λ (b i : ℕ). b ∷ drop i s) (sym A) (sym (add-one at)))

    pub number_single : a < 128 → single a most (at + 1) ≡ number_at s at most
    unfolding number_at number_from on_option single pick
    number_single b = rw (from_first, number_from, lt-ltb _ _ b)

    pub number_short : a < 128 → 128 ≤ most → number_at s at most ≡ Some (a, at + 1)
    unfolding single pick
    number_short b m = sym (number_single b) ∙ (rw (le-leb a most (omega arith)))

    module _ (b : 128 ≤ a) where
      -- the number at a place, by the number behind its first byte
      longer : number_at s at most ≡ on_option2 (number_from (drop (at + 1) s)) None (λ v w. joined a v most (at + (w + 1)))
      unfolding number_at number_from joined pick on_option
      longer =
          rw (from_first, number_from, le-ltb _ _ b)
          (by_option2 (number_from (drop (at + 1) s))
          (λ e. rw e)
          (λ v w e. by-test (eqb v 0) (λ z. rw (e, z)) (λ z. rw (e, z))))

      pub number_small : most < 128 → None ≡ number_at s at most
      unfolding joined pick on_option
      number_small m =
          sym longer_none
        where
          longer_none : number_at s at most ≡ None
          longer_none =
              longer
              ∙ by_option2 (number_from (drop (at + 1) s))
              (λ e. rw e)
              (λ v w e.
              by-test (eqb v 0)
              (λ z. rw (e, z))
              (λ z.
              let n = eqb-false v 0 z in
              let l : most < a % 128 + 128 * v = over v n in
              rw (e, z, lt-leb _ _ l)))
            where
              over : (v : ℕ) → (v ≡ 0 → ⊥) → most < a % 128 + 128 * v
              over v n = omega arith

      -- the rest is read up to the 128th part of the bound
      rest_read :
          (v p : ℕ)
          → number_at s (at + 1) (most / 128) ≡ Some (v, p)
          → (w : ℕ) × ((number_from (drop (at + 1) s) ≡ Some (v, w)) × (p ≡ at + (w + 1)))
      unfolding number_at on_option pick
      rest_read v p e =
          by_option2 (number_from (drop (at + 1) s))
          (λ q. none_some (rw q at e))
          (λ v' w q.
          by-test (leb v' (most / 128))
          (λ t. let x : Some (v', at + 1 + w) ≡ Some (v, p) = rw (q, t) at e in
          let y : v' ≡ v = some2_first x in
          let z : at + 1 + w ≡ p = some2_second x in
          (w, (q ∙ ap (λ (k : ℕ). Some (k, w)) y, omega arith)))
          (λ t. none_some (rw (q, t) at e)))

      pub number_stop : (r : Option (ℕ × ℕ)) → r ≡ number_at s (at + 1) (most / 128) → r ≡ None → None ≡ number_at s at most
      unfolding number_at joined pick on_option
      number_stop r e q =
          let u : number_at s (at + 1) (most / 128) ≡ None = sym e ∙ q in
          sym
          (longer
          ∙ by_option2 (number_from (drop (at + 1) s))
          (λ d. rw d)
          (λ v w d.
          by-test (leb v (most / 128))
          (λ t. none_some (sym (rw (d, t) at u)))
          (λ t.
          let l = leb-false v (most / 128) t in
          let n : v ≡ 0 → ⊥ = λ z. omega arith in
          let m : most < a % 128 + 128 * v = omega arith in
          rw (d, ne_eqb _ _ n, lt-leb _ _ m))))

      pub number_more :
          (r : Option (ℕ × ℕ)) (v p : ℕ)
          → r ≡ number_at s (at + 1) (most / 128)
          → r ≡ Some (v, p)
          → joined a v most p ≡ number_at s at most
      unfolding on_option
      number_more r v p e q =
          let o = rest_read v p (sym e ∙ q) in
          sym (longer ∙ rw o.1.0 (ap (joined a v most) (sym o.1.1)))

-- what is read is at most the bound, and lies within the text
pub number_most : (s : Bytes) (at most v p : ℕ) → number_at s at most ≡ Some (v, p) → v ≤ most
unfolding number_at on_option pick
number_most s at most v p e =
    by_option2 (number_from (drop at s))
    (λ q. none_some (rw q at e))
    (λ v' w q.
    by-test (leb v' most)
    (λ t. let x : Some (v', at + w) ≡ Some (v, p) = rw (q, t) at e in let y : v' ≡ v = some2_first x in let l = leb-true v' most t in omega arith)
    (λ t. none_some (rw (q, t) at e)))

-- a number that is read ends behind its first byte and within the text
from_within : (s : Bytes) (v w : ℕ) → number_from s ≡ Some (v, w) → (1 ≤ w) × (w ≤ length s)
unfolding number_from on_option pick
from_within [] v w e = none_some e
from_within (b ∷ s) v w e =
    by-test (ltb b 128)
    (λ t. let q : Some (b, 1) ≡ Some (v, w) = rw t at e in let y : 1 ≡ w = some2_second q in (omega arith, omega arith))
    (λ t.
    by_option2 (number_from s)
    (λ d. none_some (rw (t, d) at e))
    (λ v' w' d.
    by-test (eqb v' 0)
    (λ z. none_some (rw (t, d, z) at e))
    (λ z.
    let q : Some (b % 128 + 128 * v', w' + 1) ≡ Some (v, w) = rw (t, d, z) at e in
    let y : w' + 1 ≡ w = some2_second q in
    let h = from_within s v' w' d in
    (omega arith, omega arith))))

pub number_within : (s : Bytes) (at most v p : ℕ) → number_at s at most ≡ Some (v, p) → (at < p) × (p ≤ length s)
unfolding number_at on_option pick
number_within s at most v p e =
    by_option2 (number_from (drop at s))
    (λ q. none_some (rw q at e))
    (λ v' w q.
    by-test (leb v' most)
    (λ t.
    let x : Some (v', at + w) ≡ Some (v, p) = rw (q, t) at e in
    let y : at + w ≡ p = some2_second x in
    let h = from_within (drop at s) v' w q in
    let l = length-drop at s in
    (omega arith, omega arith))
    (λ t. none_some (rw (q, t) at e)))

-- writing, then reading, is the identity, whatever follows
groups_read : (f n : ℕ) (s : Bytes) → n < f → number_from (groups_of f n ++ s) ≡ Some (n, length (groups_of f n))
unfolding groups_of number_from on_option pick
groups_read zero n s h = absurd (omega arith)
groups_read (suc f) n s h =
    by-test (ltb n 128)
    (λ t. rw (t, number_from, t))
    (λ t.
    let g = ltb-false n 128 t in
    let l : 128 ≤ 128 + n % 128 = omega arith in
    let z : n / 128 ≡ 0 → ⊥ = λ e. omega arith in
    let v : (128 + n % 128) % 128 + 128 * (n / 128) ≡ n = omega arith in
    rw (t, number_from, le-ltb _ _ l, groups_read f (n / 128) s (omega arith), ne_eqb _ _ z, v)
    (ap (λ (w : ℕ). Some (n, w)) (add-one (length (groups_of f (n / 128))))))

pub number_read : (n : ℕ) (s : Bytes) → number_from (group_of n ++ s) ≡ Some (n, length (group_of n))
unfolding group_of
number_read n s = groups_read (suc n) n s (omega arith)

-- and what is read is written by the bytes read
groups_written : (s : Bytes) (f n w : ℕ) → AllBytes s → n < f → number_from s ≡ Some (n, w) → take w s ≡ groups_of f n
unfolding groups_of number_from on_option pick
groups_written s zero n w a h e = absurd (omega arith)
groups_written [] (suc f) n w a h e = none_some e
groups_written (b ∷ s) (suc f) n w (next p a) h e =
    by-test (ltb b 128)
    (λ t.
    let q : Some (b, 1) ≡ Some (n, w) = rw t at e in
    let x : n ≡ b = sym (some2_first q) in
    let y : w ≡ 1 = sym (some2_second q) in
    rw (y, x, t))
    (λ t.
    by_option2 (number_from s)
    (λ d. none_some (rw (t, d) at e))
    (λ v w' d.
    by-test (eqb v 0)
    (λ z. none_some (rw (t, d, z) at e))
    (λ z.
    let q : ◌≡◌ {A = Option (ℕ × ℕ)} (Some (b % 128 + 128 * v, w' + 1)) (Some (n, w)) = rw (t, d, z) at e in
    let x : n ≡ b % 128 + 128 * v = sym (some2_first q) in
    let y : w ≡ suc w' = sym (some2_second q) ∙ add-one w' in
    let g = ltb-false b 128 t in
    let i = eqb-false v 0 z in
    let l : 128 ≤ n = big v n x i in
    let r : 128 + n % 128 ≡ b = omega arith in
    let u : n / 128 ≡ v = omega arith in
    rw (y, le-ltb _ _ l, r, u) (ap (λ (k : Bytes). b ∷ k) (groups_written s f v w' a (omega arith) d)))))
  where
    big : (v n : ℕ) → n ≡ b % 128 + 128 * v → (v ≡ 0 → ⊥) → 128 ≤ n
    big v n x i = omega arith

pub number_written : (s : Bytes) (n w : ℕ) → AllBytes s → number_from s ≡ Some (n, w) → take w s ≡ group_of n
unfolding group_of
number_written s n w a e = groups_written s (suc n) n w a (omega arith) e

-- both, at a place of a text
pub number_read_at :
    (s t : Bytes) (at most n : ℕ)
    → drop at s ≡ group_of n ++ t
    → n ≤ most
    → number_at s at most ≡ Some (n, at + length (group_of n))
unfolding number_at on_option pick
number_read_at s t at most n e h = rw (e, number_read n t, le-leb _ _ h)

pub group_length : (n : ℕ) → 1 ≤ length (group_of n)
group_length n = (from_within (group_of n ++ []) n (length (group_of n)) (number_read n [])).0

all_drop : (i : ℕ) (s : Bytes) → AllBytes s → AllBytes (drop i s)
all_drop zero s a = a
all_drop (suc i) [] none = none
all_drop (suc i) (b ∷ s) (next p a) = all_drop i s a

pub number_written_at : (s : Bytes) (at most n p : ℕ) → AllBytes s → number_at s at most ≡ Some (n, p) → drop at s ≡ group_of n ++ drop p s
unfolding number_at on_option pick
number_written_at s at most n p a e =
    by_option2 (number_from (drop at s))
    (λ q. none_some (rw q at e))
    (λ v w q.
    by-test (leb v most)
    (λ t.
    let x : Some (v, at + w) ≡ Some (n, p) = rw (q, t) at e in
    let y : v ≡ n = some2_first x in
    let z : at + w ≡ p = some2_second x in
    sym (take-append-drop w (drop at s))
    ∙ ap₂ ◌++◌
    (number_written (drop at s) v w (all_drop at s a) q ∙ ap group_of y)
    (drop-drop w at s ∙ ap (λ (k : ℕ). drop k s) z))
    (λ t. none_some (rw (q, t) at e)))
