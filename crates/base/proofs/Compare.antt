-- Equality and order of byte strings: their laws, and how the library states them.
use mathlib.Core.Path.{◌≡◌, refl, sym, ◌∙◌, ap, ap₂, subst}
use mathlib.Core.Bool.{Bool, true, false, ◌&&◌, ◌||◌}
use mathlib.Core.List.{[], ◌∷◌}
use lib.Dec.{T, eqb, ltb, eqb→eq, eqb_refl}
use lib.Pointwise.{pointwise}
use Rattle.std.specs.Cmp.Lexicographic.{slice_partial_cmp}
use Rattle.std.specs.Ordering.{nat_cmp, is_some_and, is_lt, partial_ordering_then}
use Rattle.std.specs.declared.cmp.Ordering.{Ordering}
use Rattle.std.specs.declared.cmp.Ordering.TheVariants.{Less, Equal, Greater}
use Rattle.std.specs.Prelude.{Option, Some, cond}
use lib.ListN.{length}
use Rattle.base.specs.Choice.{by-test, clash, holds}
use Rattle.base.specs.Bytes.{Bytes, same, precedes}

pub same_refl : (a : Bytes) → same a a ≡ true
unfolding same
same_refl [] = refl
same_refl (x ∷ xs) = rw (holds (eqb x x) (eqb_refl x)) (same_refl xs)

pub same_true : (a b : Bytes) → same a b ≡ true → a ≡ b
unfolding same
same_true [] [] e = refl
same_true [] (y ∷ ys) e = clash e refl
same_true (x ∷ xs) [] e = clash e refl
same_true (x ∷ xs) (y ∷ ys) e =
    by-test (eqb x y)
    (λ p. ap₂ ◌∷◌ (eqb→eq x y (subst T (sym p) tt)) (same_true xs ys (rw p at e)))
    (λ p. clash (rw p at e) refl)

pub same_sym : (a b : Bytes) → same a b ≡ same b a
same_sym a b =
    by-test (same a b)
    (λ p. rw (same_true a b p) refl)
    (λ p. by-test (same b a) (λ q. clash (rw (same_true b a q) (same_refl a)) p) (λ q. p ∙ sym q))

pub same_false : (a b : Bytes) → (a ≡ b → ⊥) → same a b ≡ false
same_false a b h = by-test (same a b) (λ p. absurd (h (same_true a b p))) (λ p. p)

pub same_lengths : (a b : Bytes) → (length a ≡ length b → ⊥) → same a b ≡ false
same_lengths a b h = same_false a b (λ e. h (ap length e))

-- the library's comparisons of slices are these
pub same_slices : (a b : Bytes) → pointwise eqb a b ≡ same a b
unfolding same
same_slices [] [] = refl
same_slices [] (y ∷ ys) = refl
same_slices (x ∷ xs) [] = refl
same_slices (x ∷ xs) (y ∷ ys) = ap (λ t. eqb x y && t) (same_slices xs ys)

first_less :
    (less equal : Bool) (rest : Option Ordering)
    → is_some_and is_lt (partial_ordering_then (Some (cond less Less (cond equal Equal Greater))) rest) ≡ (less || (equal && is_some_and is_lt rest))
first_less true equal rest = refl
first_less false true rest = refl
first_less false false rest = refl

pub precedes_slices :
    (a b : Bytes) → is_some_and is_lt (slice_partial_cmp (λ x y. Some (nat_cmp x y)) a b) ≡ precedes a b
unfolding precedes
precedes_slices [] [] = refl
precedes_slices [] (y ∷ ys) = refl
precedes_slices (x ∷ xs) [] = refl
precedes_slices (x ∷ xs) (y ∷ ys) =
    first_less (ltb x y) (eqb x y) (slice_partial_cmp (λ x y. Some (nat_cmp x y)) xs ys)
    ∙ ap (λ t. ltb x y || (eqb x y && t)) (precedes_slices xs ys)
