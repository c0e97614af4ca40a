-- Adding digits up in 64 bits changes no answer: a number that no longer grows is out of range.
use Prim.Native.Nat.{ℕ, zero, suc, ◌+◌, ◌-◌, ◌*◌, ◌^◌, ◌<◌, ◌≤◌}
use native.Mathlib.Omega.{arith}
use mathlib.Core.Path.{◌≡◌, refl, sym, ◌∙◌, ap, ap₂}
use mathlib.Core.Logic.{◌⊎◌, inl, inr}
use mathlib.Core.Bool.{Bool, true, false}
use mathlib.Core.List.{[], ◌∷◌, ◌++◌, foldl, foldl-append}
use mathlib.Core.Option.{none, some}
use lib.Dec.{ltb}
use lib.IntN.{ℤ, pos, neg_ℤ, ◌-ℤ◌}
use borrow.Author.Tests.{le-ltb, lt-leb, ltb-false, ne_eqb}
use Rattle.base.specs.Bytes.{Bytes}
use Rattle.base.specs.Choice.{pick, by-test, clash}
use Rattle.cascade.specs.Number.{negative, unsigned, spelt, whole_number, with_sign, ranged, as_integer, scaled, out_of_range, value_of}
use Rattle.tag_number.specs.Grown.{grown, grown_from, whole_text, decimal}
use Rattle.tag_number.specs.Told.{layer_told}
use Rattle.tag_number.proofs.Scaled.{power_up, power_below}
use Rattle.std.specs.Prelude.{Option, None}

-- the same number, or both at least so large
abbrev pub Near : ℕ → ℕ → Type 0
Near m n = (m ≡ n) ⊎ ((18446744073709551400 ≤ m) × (18446744073709551400 ≤ n))

near_grown : (m n b : ℕ) → Near m n → Near (grown m b) (n * 10 + (b - 48))
unfolding grown pick
near_grown m n b (inl e) =
    by-test (ltb m 1844674407370955140)
    (λ h. inl (rw h (omega arith)))
    (λ h. let l = ltb-false m 1844674407370955140 h in inr ((rw h (omega arith)), omega arith))
near_grown m n b (inr g) =
    let l : 1844674407370955140 ≤ m = omega (arith, g.0) in
    inr ((rw (le-ltb m 1844674407370955140 l) (omega arith)), omega (arith, g.1))

near_from : (s : Bytes) (m n : ℕ) → Near m n → Near (foldl grown m s) (foldl (λ n b. n * 10 + (b - 48)) n s)
near_from [] m n e = e
near_from (b ∷ s) m n e = near_from s (grown m b) (n * 10 + (b - 48)) (near_grown m n b e)

pub near_spelt : (s : Bytes) → Near (grown_from 0 s) (spelt s)
unfolding grown_from spelt
near_spelt s = near_from s 0 0 (inl refl)

-- over digits and decimals
pub near_both : (ds fs : Bytes) → Near (grown_from (grown_from 0 ds) fs) (spelt (ds ++ fs))
unfolding grown_from spelt
near_both ds fs =
    rw (foldl-append (λ (n b : ℕ). n * 10 + (b - 48)) 0 ds fs)
    (near_from fs (foldl grown 0 ds) (foldl (λ n b. n * 10 + (b - 48)) 0 ds) (near_from ds 0 0 (inl refl)))

-- ---- layers

far_layer : (m : Bool) (n : ℕ) → 18446744073709551400 ≤ n → ranged (some (with_sign m n)) ≡ none
unfolding ranged
far_layer true zero h = absurd (omega arith)
far_layer true (suc n) h = rw (le-ltb n (2 ^ 63) (omega arith))
far_layer false n h = rw (le-ltb n (2 ^ 63) (omega arith))

near_layer : (t : Bool) (m n : ℕ) → Near m n → ranged (some (with_sign t m)) ≡ ranged (some (with_sign t n))
near_layer t m n (inl e) = ap (λ (k : ℕ). ranged (some (with_sign t k))) e
near_layer t m n (inr g) = far_layer t m g.0 ∙ sym (far_layer t n g.1)

pub whole_some : (s : Bytes) → whole_text s ≡ true → whole_number s ≡ some (spelt s)
unfolding whole_text whole_number
whole_some [] h = clash h refl
whole_some (b ∷ s) h = rw h

pub whole_not : (s : Bytes) → whole_text s ≡ false → whole_number s ≡ none
unfolding whole_text whole_number
whole_not [] h = refl
whole_not (b ∷ s) h = rw h

module _ (v t : Bytes) (e : t ≡ unsigned v) (w : Bool) (q : w ≡ whole_text t) where
  pub layer_none : w ≡ false → None ≡ layer_told (as_integer v)
  unfolding as_integer ranged layer_told
  layer_none h = rw (sym e, whole_not t (sym q ∙ h))

  pub layer_some :
      (m : Bool) (n : ℕ) (r : Option ℤ)
      → w ≡ true
      → m ≡ negative v
      → n ≡ grown_from 0 t
      → r ≡ layer_told (ranged (some (with_sign m n)))
      → r ≡ layer_told (as_integer v)
  unfolding as_integer
  layer_some m n r h p u g =
      g
      ∙ ap layer_told
      (ap₂ (λ (k : Bool) (j : ℕ). ranged (some (with_sign k j))) p u
      ∙ near_layer (negative v) (grown_from 0 t) (spelt t) (near_spelt t)
      ∙ sym (rw (sym e, whole_some t (sym q ∙ h))))

-- ---- tag numbers

far_scaled :
    (s : Bool) (d : ℕ) (t : Bool) (p n : ℕ)
    → 18446744073709551400 ≤ p
    → n < 2 ^ 63
    → scaled s d (with_sign t p -ℤ pos n) ≡ out_of_range
unfolding scaled
far_scaled s d true p n h l = ap (scaled s d) (power_below p n) ∙ below (p + n) (omega arith)
  where
    below : (k : ℕ) → 22 < k → scaled s d (neg_ℤ (pos k)) ≡ out_of_range
    below zero h = absurd (omega arith)
    below (suc k) h = rw (lt-leb (suc k) 22 h)
far_scaled s d false p n h l = ap (scaled s d) (power_up p n (omega arith)) ∙ above (p - n) (omega arith)
  where
    above : (k : ℕ) → 22 < k → scaled s d (pos k) ≡ out_of_range
    above k h = rw (lt-leb k 22 h)

far_digits : (s : Bool) (d : ℕ) (e : ℤ) → 18446744073709551400 ≤ d → value_of (some (decimal s d e)) ≡ out_of_range
unfolding value_of
far_digits s d e h = rw (ne_eqb d 0 (λ z. omega arith), le-ltb d (2 ^ 53) (omega arith))

module _ (s t : Bool) (n : ℕ) (l : n < 2 ^ 63) where
  near_power :
      (d p q : ℕ)
      → Near p q
      → value_of (some (decimal s d (with_sign t p -ℤ pos n))) ≡ value_of (some (decimal s d (with_sign t q -ℤ pos n)))
  unfolding value_of
  near_power d p q (inl e) = ap (λ (k : ℕ). value_of (some (decimal s d (with_sign t k -ℤ pos n)))) e
  near_power d p q (inr g) = rw (far_scaled s d t p n g.0 l, far_scaled s d t q n g.1 l)

  pub near_value :
      (c d p q : ℕ)
      → Near c d
      → Near p q
      → value_of (some (decimal s c (with_sign t p -ℤ pos n))) ≡ value_of (some (decimal s d (with_sign t q -ℤ pos n)))
  near_value c d p q (inl e) g =
      ap (λ (k : ℕ). value_of (some (decimal s k (with_sign t p -ℤ pos n)))) e ∙ near_power d p q g
  near_value c d p q (inr f) g =
      far_digits s c (with_sign t p -ℤ pos n) f.0 ∙ sym (far_digits s d (with_sign t q -ℤ pos n) f.1)
