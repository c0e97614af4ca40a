-- Whole numbers: the sign bit, the size, and the test that the code makes.
use Rattle.std.proofs.Common.{◌≡◌, ℕ, ◌+◌, ◌-◌, ◌*◌, ◌/◌, ◌%◌, ◌^◌, ◌<◌, ◌≤◌, min, Bool, true, false, not, ◌&&◌, T, eqb, ltb, leb, ℤ, pos, sym, refl, ap, ◌∙◌, subst, div-lt_iff_lt-mul, div-add-mod', le-div_iff_mul-le, mul-one, mul_right_comm, arith, le→leb, ltb-false, ltb-true, lt-ltb, eq-eqb, ne_eqb, eqb-true, le-leb}
use native.Mathlib.Nat.{eq_of_mul-eq-mul_right}
use mathlib.Core.Bool.{and-true, and-false}
use lib.Ieee.{Float, nan, inf, fin, binary64, up, down, size, round, neg, lt, eq, of_int, to_unsigned, whole, in_float, in_unsigned, fits, is_nan, of_bits, to_bits}
use lib.Ieee.Exact.{HasValue}
use lib.Ieee.Back.{round_whole, Float-back_unsigned}
use lib.Ieee.Bits.{to_bits-lt}
use lib.Ieee.Fits.{down_pos, neg-fits}
use borrow.Author.Tests.{lt-leb, eqb-false}
use Rattle.std.specs.Float.{is_sign_negative, float_with_sign}
use Rattle.base.specs.Choice.{pick, by-test, clash, and_left}
use Rattle.sheet.specs.Digits.{has_minus, unsigned_of, size_of, is_whole}

-- ---- the sign bit

sign_high : (a b : ℕ) → leb (2 ^ 63) (2 ^ 63 + a + b) ≡ true
sign_high a b = le-leb (2 ^ 63) (2 ^ 63 + a + b) (omega arith)

sign_low : (a b : ℕ) → 2 ^ 63 + a + b < 2 * 2 ^ 63 → leb (2 ^ 63) (0 + a + b) ≡ false
sign_low a b h = lt-leb (2 ^ 63) (0 + a + b) (omega arith)

sign_of : (s : Bool) (m : ℕ) (e : ℤ) → T (fits binary64 (fin s m e)) → has_minus (fin s m e) ≡ s
unfolding has_minus to_bits neg
sign_of true m e p =
    let n = m * up e * 2 ^ 1074 / down e in
    let k = size n - 53 in
    sign_high (k * 2 ^ 52) (n / 2 ^ k)
sign_of false m e p =
    let n = m * up e * 2 ^ 1074 / down e in
    let k = size n - 53 in
    sign_low (k * 2 ^ 52) (n / 2 ^ k) (to_bits-lt binary64 (fin true m e) (neg-fits binary64 (fin false m e) p))

unsigned_fin : (s : Bool) (m : ℕ) (e : ℤ) → T (fits binary64 (fin s m e)) → unsigned_of (fin s m e) ≡ fin false m e
unfolding unsigned_of pick neg
unsigned_fin true m e p = rw (sign_of true m e p)
unsigned_fin false m e p = rw (sign_of false m e p)

unsigned_inf : (s : Bool) → unsigned_of (inf s) ≡ inf false
unfolding unsigned_of has_minus to_bits pick neg
unsigned_inf true = refl
unsigned_inf false = refl

unsigned_nan : unsigned_of nan ≡ nan
unfolding unsigned_of has_minus to_bits pick neg
unsigned_nan = refl

-- the sign and the size as the library gives them
pub sign_is : (x : Float) → T (fits binary64 x) → T (not (is_nan x)) → is_sign_negative x ≡ has_minus x
unfolding is_sign_negative is_nan has_minus to_bits neg
sign_is nan p h = absurd h
sign_is (inf true) p h = refl
sign_is (inf false) p h = refl
sign_is (fin s m e) p h = sym (sign_of s m e p)

pub size_is : (x : Float) → T (fits binary64 x) → float_with_sign false x ≡ unsigned_of x
unfolding float_with_sign
size_is nan p = sym unsigned_nan
size_is (inf s) p = sym (unsigned_inf s)
size_is (fin s m e) p = sym (unsigned_fin s m e p)

-- what a number is without its sign
data Unsigned : Float → Type 0 where
  not_number_lem : Unsigned nan
  endless : Unsigned (inf false)
  finite : (m : ℕ) (e : ℤ) → Unsigned (fin false m e)

unsigned_is : (x : Float) → T (fits binary64 x) → Unsigned (unsigned_of x)
unsigned_is nan p = rw unsigned_nan not_number_lem
unsigned_is (inf s) p = rw (unsigned_inf s) endless
unsigned_is (fin s m e) p = rw (unsigned_fin s m e p) (finite m e)

-- ---- sizes below 2 ^ 53

abbrev pub most : Float
most = of_bits binary64 4845873199050653696

below_most : (U D : ℕ) → ltb (U * 1) (1 * 2 ^ 53 * D) ≡ true → U < 2 ^ 53 * D
below_most U D h = let l = ltb-true (U * 1) (1 * 2 ^ 53 * D) h in omega arith

above_most : (U D : ℕ) → ltb (U * 1) (1 * 2 ^ 53 * D) ≡ false → 2 ^ 53 * D ≤ U
above_most U D h = let l = ltb-false (U * 1) (1 * 2 ^ 53 * D) h in omega arith

-- a finite number without a sign, below 2 ^ 53
record Sized (a : Float) : Type 0 where
  digits : ℕ
  power : ℤ
  is : a ≡ fin false digits power
  small : digits * up power < 2 ^ 53 * down power

sized : (a : Float) → Unsigned a → lt a most ≡ true → Sized a
unfolding lt of_bits
sized a not_number_lem h = clash h refl
sized a endless h = clash h refl
sized a (finite m e) h = record { digits = m; power = e; is = refl; small = below_most (m * up e) (down e) h }

module _ (m : ℕ) (e : ℤ) (h : m * up e < 2 ^ 53 * down e) where
  quotient : m * up e / down e < 2 ^ 53
  quotient = (div-lt_iff_lt-mul (down_pos e)).1 h

  cut_size : to_unsigned 64 (fin false m e) ≡ m * up e / down e
  unfolding to_unsigned
  cut_size = least (m * up e / down e) quotient
    where
      least : (q : ℕ) → q < 2 ^ 53 → min q (2 ^ 64 - 1) ≡ q
      least q l = omega arith

  cut_from : T (lt (fin true 1 (pos 0)) (fin false m e))
  unfolding lt
  cut_from = go (m * up e) (down e) (down_pos e)
    where
      go : (U D : ℕ) → 0 < D → T (ltb 0 (1 * 1 * D + U * 1))
      go U D p = subst T (sym (lt-ltb 0 (1 * 1 * D + U * 1) (omega arith))) tt

  cut_to : T (lt (fin false m e) (fin false 1 (pos 64)))
  unfolding lt
  cut_to = go (m * up e) (down e) h
    where
      go : (U D : ℕ) → U < 2 ^ 53 * D → T (ltb (U * 1) (1 * 2 ^ 64 * D))
      go U D p = subst T (sym (lt-ltb (U * 1) (1 * 2 ^ 64 * D) (omega arith))) tt

  -- the number that is cut equals it exactly if there is no fraction
  cut_level : (K J : ℕ) → 0 < J → K * 1 ≡ m * up e / down e * J → eqb (K * down e) (m * up e * J) ≡ eqb (m * up e % down e) 0
  cut_level K J j k = go (m * up e) (down e) (down_pos e) k
    where
      go : (U D : ℕ) → 0 < D → K * 1 ≡ U / D * J → eqb (K * D) (U * J) ≡ eqb (U % D) 0
      go U D d k =
          let l : K ≡ U / D * J = sym (mul-one K) ∙ k in
          let r : K * D ≡ U / D * D * J = ap (λ (n : ℕ). n * D) l ∙ mul_right_comm (U / D) J D in
          let w = div-add-mod' U D in
          by-test (eqb (U % D) 0)
          (λ t.
          let z = eqb-true (U % D) 0 t in
          let y : U / D * D ≡ U = omega arith in
          eq-eqb (K * D) (U * J) (r ∙ ap (λ (n : ℕ). n * J) y) ∙ sym t)
          (λ t.
          ne_eqb (K * D) (U * J)
          (λ y.
          let x : U / D * D ≡ U = eq_of_mul-eq-mul_right J j (U / D * D) U (sym r ∙ y) in
          eqb-false (U % D) 0 t (omega arith))
          ∙ sym t)

  cut_eq : (y : Float) → HasValue y false (m * up e / down e) 1 → eq y (fin false m e) ≡ eqb (m * up e % down e) 0
  unfolding eq
  cut_eq nan v = absurd v
  cut_eq (inf s) v = absurd v
  cut_eq (fin true k j) v = clash refl v.0
  cut_eq (fin false k j) v = rw (cut_level (k * up j) (down j) (down_pos j) v.1) (and-true (eqb (m * up e % down e) 0))

  cut_whole : whole binary64 (fin false m e) ≡ eqb (m * up e % down e) 0
  unfolding whole
  cut_whole =
      let q = quotient in
      let l : m * up e / down e ≤ 2 ^ 53 = omega arith in
      rw (le-leb (m * up e / down e) (2 ^ 53) l) (go (eqb (m * up e % down e) 0))
    where
      go : (b : Bool) → (b && true && true) ≡ b
      go true = refl
      go false = refl

-- ---- the code's test

module _ (x a : Float) (f : T (fits binary64 x)) (A : a ≡ unsigned_of x) where
  below : lt a most ≡ true → Sized a
  below h = sized a (rw A (unsigned_is x f)) h

  module _ (h : lt a most ≡ true) where
    pub whole_from : T (lt (fin true 1 (pos 0)) a)
    whole_from = let z = below h in rw z.is (cut_from z.digits z.power z.small)

    pub whole_to : T (lt a (fin false 1 (pos 64)))
    whole_to = let z = below h in rw z.is (cut_to z.digits z.power z.small)

    cut_is : (n : ℕ) → n ≡ to_unsigned 64 a → n ≡ (below h).digits * up (below h).power / down (below h).power
    cut_is n e = let z = below h in e ∙ ap (to_unsigned 64) z.is ∙ cut_size z.digits z.power z.small

    pub whole_float : (n : ℕ) → n ≡ to_unsigned 64 a → T (in_float binary64 (pos n))
    unfolding in_float
    whole_float n e =
        let z = below h in
        let c = cut_is n e in
        let q = quotient z.digits z.power z.small in
        le→leb n (2 ^ 53) (omega arith)

    pub whole_same : (n : ℕ) → n ≡ to_unsigned 64 a → eq (of_int binary64 (pos n)) a ≡ is_whole x
    unfolding is_whole size_of of_int
    whole_same n e =
        let z = below h in
        let c = cut_is n e in
        let q = quotient z.digits z.power z.small in
        let l : n ≤ 2 ^ 53 = omega arith in
        let k : n ≤ 9007199254740991 = omega arith in
        let v : HasValue (round binary64 false n 1) false (z.digits * up z.power / down z.power) 1 =
        rw (← c) (round_whole binary64 false n l) in
        let g : eq (round binary64 false n 1) a ≡ whole binary64 a =
        (rw z.is
        (cut_eq z.digits z.power z.small (round binary64 false n 1) v
        ∙ sym (cut_whole z.digits z.power z.small)))
        in
        let i : leb (to_unsigned 64 (unsigned_of x)) 9007199254740991 ≡ true =
        ap (λ (y : Float). leb (to_unsigned 64 y) 9007199254740991) (sym A)
        ∙ ap (λ (j : ℕ). leb j 9007199254740991) (sym e)
        ∙ le-leb n 9007199254740991 k in
        g ∙ ap (whole binary64) A ∙ sym (ap (λ (b : Bool). whole binary64 (unsigned_of x) && b) i ∙ and-true (whole binary64 (unsigned_of x)))

  pub whole_large : lt a most ≡ false → false ≡ is_whole x
  unfolding is_whole size_of whole lt of_bits to_unsigned
  whole_large h =
      sym
      (ap (λ (y : Float). whole binary64 y && leb (to_unsigned 64 y) 9007199254740991) (sym A)
      ∙ large a (rw A (unsigned_is x f)) h)
    where
      least : (U D : ℕ) → 0 < D → 2 ^ 53 * D ≤ U → leb (min (U / D) (2 ^ 64 - 1)) 9007199254740991 ≡ false
      least U D d l =
          let q : 2 ^ 53 ≤ U / D = (le-div_iff_mul-le d).1 l in
          lt-leb (min (U / D) (2 ^ 64 - 1)) 9007199254740991 (omega arith)

      large : (y : Float) → Unsigned y → lt y most ≡ false → (whole binary64 y && leb (to_unsigned 64 y) 9007199254740991) ≡ false
      large y not_number_lem h = refl
      large y endless h = refl
      large y (finite m e) h =
          rw
          (least (m * up e) (down e) (down_pos e) (above_most (m * up e) (down e) h))
          (and-false (whole binary64 (fin false m e)))

pub whole_nan : (x : Float) → true ≡ is_nan x → false ≡ is_whole x
unfolding is_whole whole is_nan
whole_nan nan h = rw unsigned_nan
whole_nan (inf s) h = clash (sym h) refl
whole_nan (fin s m e) h = clash (sym h) refl

pub whole_number_lem : (x : Float) → is_whole x ≡ true → T (not (is_nan x))
unfolding is_whole whole is_nan
whole_number_lem nan h = clash (rw unsigned_nan at h) refl
whole_number_lem (inf s) h = tt
whole_number_lem (fin s m e) h = tt

-- a whole number is below 2 ^ 53
pub whole_below : (x a : Float) → T (fits binary64 x) → a ≡ unsigned_of x → is_whole x ≡ true → lt a most ≡ true
whole_below x a f A h = by-test (lt a most) (λ t. t) (λ t. clash h (sym (whole_large x a f A t)))

-- ---- back: a whole number is the float of its size, with its sign

abbrev pub signed_float : Bool → ℕ → Float
signed_float s n = pick s (neg (of_int binary64 (pos n))) (of_int binary64 (pos n))

in_range_lem : (m : ℕ) (e : ℤ) → m * up e < 2 ^ 53 * down e → whole binary64 (fin false m e) ≡ true → T (in_unsigned binary64 64 (fin false m e))
unfolding in_unsigned
in_range_lem m e h w =
    let q = quotient m e h in
    let l : m * up e / down e < 2 ^ 64 = omega arith in
    rw (w, lt-ltb (m * up e / down e) (2 ^ 64) l) tt

neg_neg : (x : Float) → neg (neg x) ≡ x
unfolding neg
neg_neg nan = refl
neg_neg (inf true) = refl
neg_neg (inf false) = refl
neg_neg (fin true m e) = refl
neg_neg (fin false m e) = refl

with_minus : (x : Float) → x ≡ pick (has_minus x) (neg (unsigned_of x)) (unsigned_of x)
unfolding unsigned_of pick
with_minus x = by-test (has_minus x) (λ h. rw h (sym (neg_neg x))) (λ h. rw h)

unsigned_fits : (x : Float) → T (fits binary64 x) → T (fits binary64 (unsigned_of x))
unfolding unsigned_of pick
unsigned_fits x f = by-test (has_minus x) (λ h. rw h (neg-fits binary64 x f)) (λ h. rw h f)

pub whole_back : (x : Float) → T (fits binary64 x) → is_whole x ≡ true → x ≡ signed_float (has_minus x) (size_of x)
unfolding is_whole size_of
whole_back x f h =
    let a = unsigned_of x in
    let z = sized a (unsigned_is x f) (whole_below x a f refl h) in
    let w : whole binary64 a ≡ true = and_left (whole binary64 a) (leb (to_unsigned 64 a) 9007199254740991) h in
    let u : T (in_unsigned binary64 64 a) =
    rw z.is (in_range_lem z.digits z.power z.small (ap (whole binary64) (sym z.is) ∙ w)) in
    let b : of_int binary64 (pos (to_unsigned 64 a)) ≡ a = (Float-back_unsigned binary64 64 a (unsigned_fits x f) u).1 in
    with_minus x ∙ ap (λ (y : Float). pick (has_minus x) (neg y) y) (sym b)
