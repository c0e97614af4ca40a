-- A layer of a sign and a size, as the code makes it.
use Prim.Native.Nat.{ℕ, zero, suc, ◌^◌, ◌<◌, ◌≤◌}
use native.Mathlib.Nat.{sub-zero}
use native.Mathlib.Omega.{arith}
use mathlib.Core.Path.{◌≡◌, refl, sym, ◌∙◌, ap, subst}
use mathlib.Core.Bool.{Bool, true, false}
use mathlib.Core.Option.{some}
use lib.IntN.{ℤ, pos, neg_ℤ, ◌-ℤ◌}
use borrow.Author.Tests.{lt-ltb, le-ltb, ltb-true, ltb-false}
use lib.Dec.{ltb}
use Rattle.base.specs.Choice.{by-test}
use Rattle.std.specs.Option.{SomeIff}
use Rattle.std.specs.Result.{OkIff, result_ok}
use Rattle.tag_number.proofs.Scaled.{power_down}
use mir.Syntax.{w64}
use mir.Val.{SFits}
use Rattle.cascade.specs.Number.{with_sign, ranged}
use Rattle.tag_number.specs.Told.{layer_told}
use Rattle.std.specs.Prelude.{Option, Some, None, Result, Ok, Err}

below : (n : ℕ) → pos 0 -ℤ pos n ≡ neg_ℤ (pos n)
below zero = refl
below (suc n) = power_down 0 (suc n) (omega arith) ∙ ap (λ (k : ℕ). neg_ℤ (pos k)) (sub-zero (suc n))

below_fits : (n : ℕ) → n ≤ 2 ^ 63 → SFits w64 (neg_ℤ (pos n))
below_fits zero l = record { sfits = omega arith }
below_fits (suc n) l = record { sfits = omega arith }

below_some : (n : ℕ) → SFits w64 (neg_ℤ (pos n)) → Some (neg_ℤ (pos n)) ≡ layer_told (ranged (some (neg_ℤ (pos n))))
unfolding ranged layer_told
below_some zero f = refl
below_some (suc n) f = rw (lt-ltb n (2 ^ 63) f.sfits)

below_out : (n : ℕ) → 2 ^ 63 < n → None ≡ layer_told (ranged (some (neg_ℤ (pos n))))
unfolding ranged layer_told
below_out zero h = absurd (omega arith)
below_out (suc n) h = rw (le-ltb n (2 ^ 63) (omega arith))

module _ (n : ℕ) (m : Bool) where
  signed_down : m ≡ true → layer_told (ranged (some (neg_ℤ (pos n)))) ≡ layer_told (ranged (some (with_sign m n)))
  signed_down h = ap (λ (t : Bool). layer_told (ranged (some (with_sign t n)))) (sym h)

  -- as far below 0 as an i64 goes
  pub layer_down :
      (r : Option ℤ)
      → m ≡ true
      → SomeIff r (SFits w64 (pos 0 -ℤ pos n)) (pos 0 -ℤ pos n)
      → r ≡ layer_told (ranged (some (with_sign m n)))
  layer_down (Some y) h f = ap Some (f.1 ∙ below n) ∙ below_some n (subst (SFits w64) (below n) f.0) ∙ signed_down h
  layer_down None h f =
      by-test (ltb (2 ^ 63) n)
      (λ t. below_out n (ltb-true (2 ^ 63) n t) ∙ signed_down h)
      (λ t. absurd (f (subst (SFits w64) (sym (below n)) (below_fits n (ltb-false (2 ^ 63) n t)))))

  layer_up : m ≡ false → n < 2 ^ 63 → Some (pos n) ≡ layer_told (ranged (some (with_sign m n)))
  unfolding ranged layer_told
  layer_up h l = rw (h, lt-ltb n (2 ^ 63) l)

  layer_out : m ≡ false → 2 ^ 63 ≤ n → None ≡ layer_told (ranged (some (with_sign m n)))
  unfolding ranged layer_told
  layer_out h l = rw (h, le-ltb n (2 ^ 63) l)

  pub layer_tried :
      {E : Type 0} (q : Result ℤ E) (r : Option ℤ)
      → m ≡ false
      → OkIff q (SFits w64 (pos n)) (pos n)
      → r ≡ result_ok q
      → r ≡ layer_told (ranged (some (with_sign m n)))
  layer_tried (Ok y) r h f e = e ∙ ap Some f.1 ∙ layer_up h f.0.sfits
  layer_tried (Err y) r h f e =
      by-test (ltb n (2 ^ 63))
      (λ t. absurd (f (record { sfits = ltb-true n (2 ^ 63) t })))
      (λ t. e ∙ layer_out h (ltb-false n (2 ^ 63) t))
