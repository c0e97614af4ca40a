-- One operation on exact operands: the powers of ten, and the exponent as the code finds it.
use Prim.Native.Nat.{ℕ, zero, suc, ◌+◌, ◌-◌, ◌^◌, ◌<◌, ◌≤◌}
use native.Mathlib.Nat.{add-zero, sub-zero}
use native.Mathlib.Omega.{arith}
use mathlib.Core.Path.{◌≡◌, refl, sym, ◌∙◌, ap}
use mathlib.Core.Bool.{Bool, true, false}
use mathlib.Core.List.{List, [], ◌∷◌}
use lib.ListN.{get_or}
use lib.IntN.{ℤ, pos, negsuc, neg_ℤ, ◌-ℤ◌}
use lib.Ieee.{Float, nan, binary64, div}
use borrow.Author.Tests.{lt-ltb, le-ltb, le-leb, lt-leb}
use Rattle.cascade.specs.Number.{with_sign, whole, signed, scaled}
use Rattle.tag_number.specs.Told.{told}
use Rattle.tag_number.specs.declared.NumberError.{NumberError}
use Rattle.tag_number.specs.declared.NumberError.TheVariants.{OutOfRange}
use Rattle.std.specs.Prelude.{Result, Ok, Err}

-- 10 ^ j and on, so many of them
unfoldable pub tens_from : ℕ → ℕ → List Float
tens_from j zero = []
tens_from j (suc n) = whole (10 ^ j) ∷ tens_from (suc j) n

pub tens_at : (j n k : ℕ) → k < n → get_or (tens_from j n) k nan ≡ whole (10 ^ (j + k))
unfolding tens_from
tens_at j zero k h = absurd (omega arith)
tens_at j (suc n) zero h = ap (λ (i : ℕ). whole (10 ^ i)) (sym (add-zero j))
tens_at j (suc n) (suc k) h =
    let e : suc j + k ≡ j + suc k = omega arith in
    tens_at (suc j) n k (omega arith) ∙ ap (λ (i : ℕ). whole (10 ^ i)) e

-- the exponent
pub power_up : (p n : ℕ) → n ≤ p → pos p -ℤ pos n ≡ pos (p - n)
power_up p zero h = ap pos (add-zero p ∙ sym (sub-zero p))
power_up p (suc n) h = rw (le-ltb p (suc n) h)

pub power_down : (p n : ℕ) → p < n → pos p -ℤ pos n ≡ neg_ℤ (pos (n - p))
power_down p zero h = absurd (omega arith)
power_down p (suc n) h =
    let e : suc n - p ≡ suc (suc n - suc p) = omega arith in
    rw (lt-ltb p (suc n) h, e)

pub power_below : (p n : ℕ) → neg_ℤ (pos p) -ℤ pos n ≡ neg_ℤ (pos (p + n))
power_below zero zero = refl
power_below zero (suc n) = let e : 0 + suc n ≡ suc n = omega arith in rw (lt-ltb 0 (suc n) (omega arith), e) (ap negsuc (omega arith))
power_below (suc p) zero = let e : suc p + 0 ≡ suc p = omega arith in rw (lt-ltb 0 (suc p) (omega arith), e) (ap negsuc (omega arith))
power_below (suc p) (suc n) = let e : suc p + suc n ≡ suc (suc (p + n)) = omega arith in rw e

module _ (s : Bool) (d : ℕ) where
  pub divided :
      (k : ℕ) (x y : Float)
      → (k ≡ 0 → ⊥)
      → k ≤ 22
      → x ≡ signed s d
      → y ≡ whole (10 ^ k)
      → Ok (div binary64 x y) ≡ told (scaled s d (neg_ℤ (pos k)))
  unfolding scaled told
  divided zero x y z h p q = absurd (z refl)
  divided (suc k) x y z h p q =
      rw (le-leb (suc k) 22 h) (ap Ok (ap (λ (w : Float). div binary64 w y) p ∙ ap (div binary64 (signed s d)) q))

  pub divided_out : (k : ℕ) → 22 < k → Err OutOfRange ≡ told (scaled s d (neg_ℤ (pos k)))
  unfolding scaled told
  divided_out zero h = absurd (omega arith)
  divided_out (suc k) h = rw (lt-leb (suc k) 22 h)

  -- the exponent ± p less n
  module _ (t : Bool) (p n : ℕ) where
    pub scaled_below :
        (r : Result Float NumberError)
        → t ≡ true
        → r ≡ told (scaled s d (neg_ℤ (pos (p + n))))
        → r ≡ told (scaled s d (with_sign t p -ℤ pos n))
    scaled_below r h e = e ∙ sym (ap (λ (i : ℤ). told (scaled s d i)) (ap (λ (u : Bool). with_sign u p -ℤ pos n) h ∙ power_below p n))

    pub scaled_down :
        (r : Result Float NumberError)
        → t ≡ false
        → p < n
        → r ≡ told (scaled s d (neg_ℤ (pos (n - p))))
        → r ≡ told (scaled s d (with_sign t p -ℤ pos n))
    scaled_down r h l e = e ∙ sym (ap (λ (i : ℤ). told (scaled s d i)) (ap (λ (u : Bool). with_sign u p -ℤ pos n) h ∙ power_down p n l))

    pub scaled_up :
        (r : Result Float NumberError)
        → t ≡ false
        → n ≤ p
        → r ≡ told (scaled s d (pos (p - n)))
        → r ≡ told (scaled s d (with_sign t p -ℤ pos n))
    scaled_up r h l e = e ∙ sym (ap (λ (i : ℤ). told (scaled s d i)) (ap (λ (u : Bool). with_sign u p -ℤ pos n) h ∙ power_up p n l))

    pub scaled_far : t ≡ true → 22 < p → Err OutOfRange ≡ told (scaled s d (with_sign t p -ℤ pos n))
    scaled_far h l = scaled_below (Err OutOfRange) h (divided_out (p + n) (omega arith))
