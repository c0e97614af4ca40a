-- The digits of a whole number, read as a tag number, are that number.
use Prim.Native.Nat.{ℕ, zero, suc, ◌+◌, ◌/◌, ◌%◌, ◌^◌, ◌<◌, ◌≤◌}
use native.Mathlib.Nat.{mul-one}
use native.Mathlib.Omega.{arith}
use mathlib.Core.Path.{◌≡◌, refl, sym, ◌∙◌, ap, ap₂}
use mathlib.Core.Bool.{Bool, true, false, ◌&&◌}
use mathlib.Core.List.{[], ◌∷◌, ◌++◌, append-nil}
use mathlib.Core.Option.{some}
use lib.Dec.{T, eqb, leb, ltb}
use lib.ListN.{length, length-append}
use lib.IntN.{pos}
use lib.Ieee.{Float, binary64, round, neg, of_int, fits}
use lib.Ieee.Back.{round_whole, whole_unique}
use lib.Ieee.Fits.{neg-fits, round-fits}
use borrow.Author.Tests.{le-leb, lt-ltb, ltb-true, ltb-false, leb-true, eqb-true}
use Rattle.base.specs.Bytes.{Bytes}
use Rattle.base.specs.Choice.{pick, by-test, and_left, and_right}
use Rattle.cascade.specs.Number.{is_digit, spelt, signed, reads, value_of, tag_number}
use Rattle.cascade.specs.NumberGrammar.{all_digits, Sign, absent, minus, Spells}
use Rattle.cascade.proofs.NumberGrammarProof.{spelt_reads}
use Rattle.cascade.proofs.NumberLaws.{neg_value, times_nearest}
use Rattle.sheet.specs.Digits.{has_minus, unsigned_of, size_of, is_whole, digits_in, natural_digits, digits_for}
use Rattle.tag_number.specs.Grown.{decimal}
use Rattle.digits.proofs.Wholes.{signed_float, whole_back}
use Rattle.digits.proofs.Written.{natural_one, natural_more, natural_spelt}

-- ---- digits only, and at least one

digit_is : (n : ℕ) → n < 10 → is_digit (48 + n) ≡ true
digit_is n h =
    let l : 48 ≤ 48 + n = omega arith in
    let m : 48 + n ≤ 57 = omega arith in
    rw (le-leb 48 (48 + n) l, le-leb (48 + n) 57 m)

all_more : (a : Bytes) (n : ℕ) → n < 10 → all_digits a ≡ true → all_digits (a ++ ((48 + n) ∷ [])) ≡ true
unfolding all_digits
all_more [] n h e = rw (digit_is n h)
all_more (b ∷ a) n h e =
    ap₂ ◌&&◌ (and_left (is_digit b) (all_digits a) e)
    (all_more a n h (and_right (is_digit b) (all_digits a) e))

all_in : (f n : ℕ) → all_digits (digits_in f (ltb n 10) n) ≡ true
unfolding digits_in pick all_digits
all_in zero n = refl
all_in (suc f) n =
    by-test (ltb n 10)
    (λ t. rw (t, digit_is n (ltb-true n 10 t)))
    (λ t. rw t (all_more (digits_in f (ltb (n / 10) 10) (n / 10)) (n % 10) (omega arith) (all_in f (n / 10))))

pub natural_digits_lem : (n : ℕ) → all_digits (natural_digits n) ≡ true
unfolding natural_digits
natural_digits_lem n = all_in (suc n) n

natural_some : (n : ℕ) → natural_digits n ≡ [] → ⊥
natural_some n e =
    let l = ap length e in
    by-test (ltb n 10)
    (λ t. let q = ap length (natural_one n (ltb-true n 10 t)) in omega arith)
    (λ t.
    let q =
    ap length (natural_more n (ltb-false n 10 t))
    ∙ length-append (natural_digits (n / 10)) ((48 + n % 10) ∷ []) in
    omega arith)

-- ---- a sign and digits

abbrev sign_bytes : Bool → Bytes
sign_bytes s = pick s (45 ∷ []) []

sign_is : (s : Bool) → Sign (sign_bytes s) s
unfolding pick
sign_is true = minus
sign_is false = absent

text_is : (x : Float) → is_whole x ≡ true → digits_for x ≡ sign_bytes (has_minus x) ++ natural_digits (size_of x)
unfolding digits_for pick
text_is x h = by-test (has_minus x) (λ s. rw (h, s)) (λ s. rw (h, s))

pub digits_spell : (x : Float) → is_whole x ≡ true → Spells (digits_for x) (decimal (has_minus x) (size_of x) (pos 0))
digits_spell x h =
    let n = size_of x in
    let e = append-nil (natural_digits n) in
    record {
      sign = sign_bytes (has_minus x);
      whole = natural_digits n;
      fraction = [];
      decimals = [];
      exponent = [];
      power = pos 0;
      text = text_is x h ∙ ap (λ (t : Bytes). sign_bytes (has_minus x) ++ t) (sym e);
      signed = sign_is (has_minus x);
      digits = natural_digits_lem n;
      fractional = absent;
      scaled = absent;
      some = λ z. natural_some n (sym e ∙ z);
      mantissa_is = sym (ap spelt e ∙ natural_spelt n);
      exponent_is = refl;
    }

-- ---- the number

signed_round : (s : Bool) (n : ℕ) → n < 2 ^ 53 → round binary64 s n 1 ≡ signed_float s n
unfolding of_int pick
signed_round false n h = refl
signed_round true n h =
    let l : n ≤ 2 ^ 53 = omega arith in
    whole_unique binary64 (round binary64 true n 1) (neg (round binary64 false n 1)) true n (round-fits binary64 true n 1)
    (neg-fits binary64 (round binary64 false n 1) (round-fits binary64 false n 1)) (round_whole binary64 true n l)
    (neg_value (round binary64 false n 1) false n 1 (round_whole binary64 false n l))

signed_zero : (s : Bool) → signed s 0 ≡ signed_float s 0
unfolding pick
signed_zero true = refl
signed_zero false = refl

value_back : (s : Bool) (n : ℕ) → n < 2 ^ 53 → value_of (some (decimal s n (pos 0))) ≡ reads (signed_float s n)
unfolding value_of
value_back s n h =
    by-test (eqb n 0)
    (λ t. rw t (ap reads (signed_zero s ∙ ap (signed_float s) (sym (eqb-true n 0 t)))))
    (λ t.
    rw (t, lt-ltb n (2 ^ 53) h)
    (times_nearest s n 0 h (omega arith)
    ∙ ap reads (ap (λ (k : ℕ). round binary64 s k 1) (mul-one n) ∙ signed_round s n h)))

size_below : (x : Float) → is_whole x ≡ true → size_of x < 2 ^ 53
unfolding is_whole
size_below x h =
    let l = leb-true (size_of x) 9007199254740991 (and_right (lib.Ieee.whole binary64 (unsigned_of x)) (leb (size_of x) 9007199254740991) h) in
    omega arith

pub digits_back : (x : Float) → T (fits binary64 x) → is_whole x ≡ true → tag_number (digits_for x) ≡ reads x
digits_back x f h =
    spelt_reads (digits_for x) (decimal (has_minus x) (size_of x) (pos 0)) (digits_spell x h)
    ∙ value_back (has_minus x) (size_of x) (size_below x h)
    ∙ ap reads (sym (whole_back x f h))
