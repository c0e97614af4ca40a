-- What is there, else a default; and the only number of a part of the table of numbers, by how many it has.
use Prim.Native.Nat.{ℕ, ◌≤◌, ◌<◌}
use native.Mathlib.Omega.{arith}
use mathlib.Core.Path.{◌≡◌, refl, sym, ◌∙◌, ap}
use mathlib.Core.List.{List, [], ◌∷◌}
use lib.Ieee.{Float, nan, binary64, of_bits, of_int}
use Rattle.cascade.specs.Number.{whole}
use lib.ListN.{length, get_or}
use Rattle.style.specs.Get.{one_of}
use Rattle.std.specs.Prelude.{Option, Some, None, unwrap_or}
use lib.Dec.{ltb}
use Rattle.base.specs.Choice.{pick, by-test}
use Rattle.base.specs.Option.{on_option}
use Rattle.walk.specs.Rows.{below}

pub or_else : (m : Option Float) (d : Float) → unwrap_or m d ≡ on_option m d (λ w. w)
unfolding on_option
or_else None d = refl
or_else (Some w) d = refl

pub or_one : (m : Option Float) → unwrap_or m (of_bits binary64 4607182418800017408) ≡ on_option m (whole 1) (λ w. w)
unfolding on_option of_bits of_int
or_one None = refl
or_one (Some w) = refl

-- what stands at a place that was looked for, or nothing
module _ {A : Type 0} (n k : ℕ) (f : ℕ → A) (r : Option ℕ) (e : r ≡ below n k) where
  abbrev at : Option ℕ → Option A
  at r = on_option r None (λ i. Some (f i))

  abbrev there : Option A
  there = pick (ltb k n) (Some (f k)) None

  at_there : at (below n k) ≡ there
  unfolding below on_option pick
  at_there = by-test (ltb k n) (λ a. rw a) (λ a. rw a)

  pub place_none : r ≡ None → None ≡ there
  unfolding on_option
  place_none q = ap at (sym q ∙ e) ∙ at_there

  pub place_some : (i : ℕ) → r ≡ Some i → Some (f i) ≡ there
  unfolding on_option
  place_some i q = ap at (sym q ∙ e) ∙ at_there

-- the only number of a part, by how many it has
pub one_missing : (p q : List Float) → p ≡ q → length p < 1 → None ≡ one_of q
unfolding one_of
one_missing [] q e h = ap one_of e
one_missing (x ∷ p) q e h = absurd (omega arith)

pub one_there : (p q : List Float) → p ≡ q → 1 ≤ length p → length p < 2 → Some (get_or p 0 nan) ≡ one_of q
unfolding one_of
one_there [] q e h l = absurd (omega arith)
one_there (x ∷ []) q e h l = ap one_of e
one_there (x ∷ y ∷ p) q e h l = absurd (omega arith)

pub one_several : (p q : List Float) → p ≡ q → 2 ≤ length p → None ≡ one_of q
unfolding one_of
one_several [] q e h = absurd (omega arith)
one_several (x ∷ []) q e h = absurd (omega arith)
one_several (x ∷ y ∷ p) q e h = ap one_of e

pub ruleset ones = (one_missing, one_there, one_several)
