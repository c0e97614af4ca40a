-- A selector: its zooms, its type, and its tests up to the first that does not hold.
use Prim.Native.Nat.{ℕ, zero, suc, ◌+◌, ◌-◌, ◌<◌, ◌≤◌}
use native.Mathlib.Omega.{arith}
use mathlib.Core.Path.{◌≡◌, refl, sym, ◌∙◌, ap}
use mathlib.Core.Bool.{Bool, true, false, ◌&&◌}
use mathlib.Core.List.{map}
use lib.Dec.{eqb, leb, ltb}
use borrow.Author.Tests.{le-leb, lt-leb, ltb-true, ltb-false}
use Rattle.base.specs.Choice.{by-test}
use Rattle.base.specs.Entity.{Entity}
use Rattle.sheet.specs.Sheet.{Test, Selector}
use Rattle.cascade.specs.Match.{Verdict, pass, fail, out, verdict_on, at_least, at_most, fits_type, applies, and_then, tests_verdict, verdict}
use Rattle.decode.specs.Decode.{places, level_at, type_at}
use Rattle.std.specs.Prelude.{Result, Ok, Err}
use Rattle.matching.specs.Matching.{fit_of, type_of}
use Rattle.table.specs.Kind.{object_kind}
use Rattle.matching.specs.declared.OutOfRange.{OutOfRange}
use Rattle.matching.proofs.Tests.{Not, picked}

-- zooms, stored plus one
module _ (z : ℕ) where
  low_holds : (w : ℕ) → w ≤ z + 1 → at_least z (level_at w) ≡ true
  low_holds zero h = refl
  low_holds (suc n) h = le-leb n z (omega arith)

  low_fails : (w : ℕ) → z + 1 < w → at_least z (level_at w) ≡ false
  low_fails zero h = absurd (omega arith)
  low_fails (suc n) h = lt-leb n z (omega arith)

  high_is : (v : ℕ) → Not v 0 → at_most z (level_at v) ≡ ltb z v
  high_is zero h = absurd (h refl)
  high_is (suc n) h =
      by-test (ltb z (suc n))
      (λ e. let l = ltb-true z (suc n) e in le-leb z n (omega arith) ∙ sym e)
      (λ e. let l = ltb-false z (suc n) e in lt-leb z n (omega arith) ∙ sym e)

  module _ (w x v y : ℕ) (p : x ≡ w) where
    pub zoom_low : z + 1 < x → leb x (z + 1) ≡ (at_least z (level_at w) && at_most z (level_at v))
    zoom_low h = rw (lt-leb x (z + 1) h, low_fails w (omega arith))

    module _ (h : x ≤ z + 1) (q : y ≡ v) where
      pub zoom_open : y ≡ 0 → eqb y 0 ≡ (at_least z (level_at w) && at_most z (level_at v))
      zoom_open e = rw (low_holds w (omega arith), ← q, e)

      pub zoom_high : Not y 0 → ltb z y ≡ (at_least z (level_at w) && at_most z (level_at v))
      zoom_high e = rw (low_holds w (omega arith), ← q, high_is y e)

-- the type by the kind of its number
pub type_is : (k : ℕ) → type_at k ≡ type_of (object_kind k)
unfolding type_at object_kind
type_is k = picked type_of _ _ _ refl (picked type_of _ _ _ refl (picked type_of _ _ _ refl (picked type_of _ _ _ refl (picked type_of _ _ _ refl refl))))

-- the tests that are left
abbrev fit_then : Result Bool OutOfRange → Result Bool OutOfRange → Result Bool OutOfRange
fit_then (Err x) r = Err x
fit_then (Ok false) r = Ok false
fit_then (Ok true) r = r

then_is : (a b : Verdict) → fit_then (fit_of a) (fit_of b) ≡ fit_of (and_then a b)
then_is pass b = refl
then_is fail b = refl
then_is out b = refl

module _ (e : Entity) (f : ℕ → Test) (to : ℕ) where
  abbrev pub left_fit : ℕ → Result Bool OutOfRange
  left_fit k = fit_of (tests_verdict e (map f (places k (to - k))))

  module _ (k : ℕ) where
    pub tests_end : to ≤ k → Ok true ≡ left_fit k
    unfolding places tests_verdict
    tests_end h = let p : to - k ≡ 0 = omega arith in rw p

    module _ (h : k < to) (r : Result Bool OutOfRange) (p : r ≡ fit_of (verdict_on e (f k))) where
      pub tests_step : (d : Result Bool OutOfRange) → r ≡ d → fit_then d (left_fit (k + 1)) ≡ left_fit k
      unfolding places tests_verdict
      tests_step d q =
          let n : to - k ≡ suc (to - (k + 1)) = omega arith in
          ap (λ x. fit_then x (left_fit (k + 1))) (sym q ∙ p)
          ∙ then_is (verdict_on e (f k)) (tests_verdict e (map f (places (k + 1) (to - (k + 1)))))
          ∙ ap (λ m. fit_of (tests_verdict e (map f (places k m)))) (sym n)

-- the whole selector
module _ (z : ℕ) (e : Entity) (s : Selector) (a : Bool) (p : a ≡ (at_least z s.min_zoom && at_most z s.max_zoom)) where
  pub beyond : a ≡ false → Ok false ≡ fit_of (verdict z e s)
  unfolding verdict applies
  beyond h = rw (← p, h)

  module _ (h : a ≡ true) (b : Bool) (q : b ≡ fits_type s.object_type e.kind) where
    pub other_type : b ≡ false → Ok false ≡ fit_of (verdict z e s)
    unfolding verdict applies
    other_type g = rw (← p, h, ← q, g)

    pub right_type : b ≡ true → (r : Result Bool OutOfRange) → r ≡ fit_of (tests_verdict e s.tests) → r ≡ fit_of (verdict z e s)
    unfolding verdict applies
    right_type g r i = rw (← p, h, ← q, g) i
