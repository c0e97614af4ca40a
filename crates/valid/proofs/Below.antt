-- Every number below a count: as every entry of a list, and one more that holds.
use Prim.Native.Nat.{ℕ, zero, suc, ◌+◌, ◌<◌}
use native.Mathlib.Numerals.{add-one}
use native.Mathlib.Omega.{arith}
use mathlib.Core.Path.{◌≡◌, refl, sym, ◌∙◌, ap, ap₂}
use mathlib.Core.Bool.{Bool, true, false, ◌&&◌}
use mathlib.Core.List.{List, [], ◌∷◌, reverse}
use lib.ListN.{length, get_or}
use Rattle.std.specs.List.{list_all}
use Rattle.std.proofs.lemmas.List.{reverse-append}
use Rattle.std.proofs.lemmas.List.Folds.{list_all-append}
use Rattle.base.specs.Choice.{pick, by-test, if_true}
use Rattle.valid.specs.Valid.{all_below}

-- from the front
below_front : (p : ℕ → Bool) (n : ℕ) → all_below p (suc n) ≡ pick (p 0) (all_below (λ i. p (suc i)) n) false
unfolding all_below pick
below_front p zero = refl
below_front p (suc n) =
    by-test (p (suc n))
    (λ a. rw a (below_front p n))
    (λ a. by-test (p 0) (λ b. rw (a, b)) (λ b. rw (a, b)))

and_pick : (a b : Bool) → (a && b) ≡ pick a b false
unfolding pick
and_pick true b = refl
and_pick false b = refl

pub all_is :
    {A : Type 0} (d : A) (test : A → Bool) (xs : List A) (p : ℕ → Bool)
    → ((i : ℕ) → i < length xs → test (get_or xs i d) ≡ p i)
    → list_all test xs ≡ all_below p (length xs)
unfolding all_below pick
all_is d test [] p h = refl
all_is d test (x ∷ xs) p h =
    ap₂ ◌&&◌ (h 0 (omega arith)) (all_is d test xs (λ i. p (suc i)) (λ i g. h (suc i) (omega arith)))
    ∙ and_pick (p 0) (all_below (λ i. p (suc i)) (length xs))
    ∙ sym (below_front p (length xs))

and_turned : (a b : Bool) → (a && (b && true)) ≡ (b && a)
and_turned true true = refl
and_turned true false = refl
and_turned false true = refl
and_turned false false = refl

-- from the back
pub all_reverse : {A : Type 0} (test : A → Bool) (xs : List A) → list_all test (reverse xs) ≡ list_all test xs
all_reverse test [] = refl
all_reverse test (x ∷ xs) =
    ap (list_all test) (reverse-append (x ∷ []) xs)
    ∙ list_all-append test (reverse xs) (x ∷ [])
    ∙ ap (λ (b : Bool). b && (test x && true)) (all_reverse test xs)
    ∙ and_turned (list_all test xs) (test x)

-- one more that holds
pub below_next : (p : ℕ → Bool) (n : ℕ) → all_below p n ≡ true → p n ≡ true → all_below p (n + 1) ≡ true
unfolding all_below
below_next p n a e = ap (all_below p) (add-one n) ∙ sym (if_true (p n) (all_below p n) false e (sym a))
