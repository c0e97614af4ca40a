-- From the parts of a decimal, as the code finds them, to what the theory reads.
use Prim.Native.Nat.{ℕ, ◌+◌, ◌^◌, ◌<◌}
use native.Mathlib.Omega.{arith}
use mathlib.Core.Path.{◌≡◌, refl, sym, ◌∙◌, ap, ap₂}
use mathlib.Core.Logic.{inl}
use mathlib.Core.Bool.{Bool, false}
use mathlib.Core.List.{[], ◌∷◌, ◌++◌}
use mathlib.Core.Option.{Option as Maybe, none, some}
use lib.ListN.{length}
use lib.IntN.{ℤ, pos, ◌-ℤ◌}
use lib.Ieee.{Float, nan, binary64, of_bits, div}
use Rattle.base.specs.Bytes.{Bytes}
use Rattle.base.specs.Choice.{pick, by-test}
use Rattle.cascade.specs.Number.{is_e, negative, unsigned, digits, after_digits, spelt, with_sign, Decimal, decimals, after_decimals, exponent_of, decimal_from, decimal_of, value_of, unsigned_number, tag_number}
use Rattle.tag_number.specs.Grown.{grown_from, whole_text, written_power, power_of, decimal}
use Rattle.tag_number.specs.Told.{told}
use Rattle.tag_number.specs.declared.NumberError.{NumberError}
use Rattle.tag_number.specs.declared.NumberError.TheVariants.{Malformed}
use Rattle.tag_number.proofs.Saturate.{Near, near_spelt, near_both, near_value, whole_some, whole_not}
use Rattle.std.specs.Prelude.{Option, Some, None, Result, Err}
use Rattle.base.proofs.Options.{none_some, some2_first, some2_second}

-- ---- the exponent

exponent_none : (x : Bytes) → power_of x ≡ None → exponent_of x ≡ none
unfolding power_of exponent_of written_power pick
exponent_none [] e = none_some (sym e)
exponent_none (b ∷ s) e =
    by-test (is_e b)
    (λ h.
    by-test (whole_text (unsigned s))
    (λ w. none_some (sym (rw (h, w) at e)))
    (λ w. rw (h, whole_not (unsigned s) w)))
    (λ h. rw h)

-- the exponent that is read, and the one that the code has of it
record Exponent (x : Bytes) (t : Bool) (p : ℕ) : Type 0 where
  size : ℕ
  is : exponent_of x ≡ some (with_sign t size)
  near : Near p size

exponent_some : (x : Bytes) (t : Bool) (p : ℕ) → power_of x ≡ Some (t, p) → Exponent x t p
unfolding power_of exponent_of written_power pick
exponent_some [] t p e =
    let a : false ≡ t = some2_first e in
    let b : 0 ≡ p = some2_second e in
    record { size = 0; is = rw (sym a); near = inl (sym b) }
exponent_some (b ∷ s) t p e =
    by-test (is_e b)
    (λ h.
    by-test (whole_text (unsigned s))
    (λ w.
    let f : Some (negative s, grown_from 0 (unsigned s)) ≡ Some (t, p) = rw (h, w) at e in
    let a : negative s ≡ t = some2_first f in
    let c : grown_from 0 (unsigned s) ≡ p = some2_second f in
    record {
      size = spelt (unsigned s);
      is = rw (h, whole_some (unsigned s) w, a);
      near = rw (sym c) (near_spelt (unsigned s));
    })
    (λ w. none_some (rw (h, w) at e)))
    (λ h. none_some (rw h at e))

-- ---- the parts

from_none : (s : Bool) (ds fs : Bytes) (o : Maybe ℤ) → length ds + length fs ≡ 0 → decimal_from s ds fs o ≡ none
unfolding decimal_from
from_none s ds fs none h = refl
from_none s [] [] (some e) h = refl
from_none s (d ∷ ds) fs (some e) h = absurd (omega arith)
from_none s [] (f ∷ fs) (some e) h = absurd (omega arith)

from_some :
    (s : Bool) (ds fs : Bytes) (e : ℤ)
    → (length ds + length fs ≡ 0 → ⊥)
    → decimal_from s ds fs (some e) ≡ some (decimal s (spelt (ds ++ fs)) (e -ℤ pos (length fs)))
unfolding decimal_from
from_some s [] [] e h = absurd (h refl)
from_some s (d ∷ ds) fs e h = refl
from_some s [] (f ∷ fs) e h = refl

module _
    (s : Bool)
    (t ds r fs x : Bytes)
    (o : Option (Bool × ℕ))
    (D : ds ≡ digits t)
    (R : r ≡ after_digits t)
    (F : fs ≡ decimals r)
    (X : x ≡ after_decimals r)
    (O : o ≡ power_of x)
  where
    parts : decimal_of s t ≡ decimal_from s ds fs (exponent_of x)
    parts =
        let f : decimals (after_digits t) ≡ fs = ap decimals (sym R) ∙ sym F in
        let y : after_decimals (after_digits t) ≡ x = ap after_decimals (sym R) ∙ sym X in
        rw (sym D, f, y)

    pub decimal_cut : o ≡ None → Err Malformed ≡ told (value_of (decimal_of s t))
    unfolding decimal_from value_of told
    decimal_cut h = sym (ap (λ (n : Maybe Decimal). told (value_of n)) (parts ∙ ap (decimal_from s ds fs) (exponent_none x (sym O ∙ h))))

    pub decimal_empty : length ds + length fs ≡ 0 → Err Malformed ≡ told (value_of (decimal_of s t))
    unfolding value_of told
    decimal_empty h = sym (ap (λ (n : Maybe Decimal). told (value_of n)) (parts ∙ from_none s ds fs (exponent_of x) h))

    pub decimal_value :
        (c d p : ℕ) (b : Bool) (z : Result Float NumberError)
        → o ≡ Some (b, p)
        → (length ds + length fs ≡ 0 → ⊥)
        → c ≡ grown_from 0 ds
        → d ≡ grown_from c fs
        → length fs < 2 ^ 63
        → z ≡ told (value_of (some (decimal s d (with_sign b p -ℤ pos (length fs)))))
        → z ≡ told (value_of (decimal_of s t))
    decimal_value c d p b z k h C E l e =
        let y = exponent_some x b p (sym O ∙ k) in
        let m : d ≡ grown_from (grown_from 0 ds) fs = E ∙ ap (λ (n : ℕ). grown_from n fs) C in
        e
        ∙ ap told
        (near_value s b (length fs) l d (spelt (ds ++ fs)) p y.size (rw m (near_both ds fs)) y.near
        ∙ ap value_of
        (sym (parts ∙ ap (decimal_from s ds fs) y.is ∙ from_some s ds fs (with_sign b y.size) h)))

-- ---- words

-- the number that the code's constant is
pub nan_read : of_bits binary64 9221120237041090560 ≡ nan
unfolding of_bits div
nan_read = refl

pub number_is :
    (v u : Bytes) (m : Bool) (r : Result Float NumberError)
    → u ≡ unsigned v
    → m ≡ negative v
    → r ≡ told (unsigned_number m u)
    → r ≡ told (tag_number v)
unfolding tag_number
number_is v u m r e p q = q ∙ ap₂ (λ (k : Bool) (t : Bytes). told (unsigned_number k t)) p e
