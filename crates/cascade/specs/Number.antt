-- Numbers in tag values: an f64 as Rust's `str::parse::<f64>` reads it, an i64 as `str::parse::<i64>` does.
use Rattle.std.specs.Prelude.{ℕ, suc, ◌+◌, ◌-◌, ◌*◌, ◌^◌, Bool, false, ◌&&◌, ◌||◌, cond, eqb, leb, ltb, length, ℤ, pos, negsuc, neg_ℤ, ◌-ℤ◌, Float}
use mathlib.Core.List.{[], ◌∷◌, ◌++◌, foldl, map}
use Rattle.std.proofs.Math.Option.{Option, none, some}
use Rattle.std.specs.Float.{nan, inf, binary64}
use Rattle.std.specs.Float.Ieee.{of_int, neg, mul, div}
use Rattle.base.specs.Bytes.{Bytes, ascii, same}

-- ---- signs, digits and letters

abbrev pub is_minus : ℕ → Bool
is_minus b = eqb b 45

abbrev pub is_plus : ℕ → Bool
is_plus b = eqb b 43

abbrev pub is_dot : ℕ → Bool
is_dot b = eqb b 46

abbrev pub is_e : ℕ → Bool
is_e b = eqb b 101 || eqb b 69

abbrev pub is_digit : ℕ → Bool
is_digit b = leb 48 b && leb b 57

abbrev pub lower_case : ℕ → ℕ
lower_case b = cond (leb 65 b && leb b 90) (b + 32) b

-- an optional sign: whether it is a minus, and what follows it
unfoldable pub negative : Bytes → Bool
negative [] = false
negative (b ∷ s) = is_minus b

unfoldable pub unsigned : Bytes → Bytes
unsigned [] = []
unsigned (b ∷ s) = cond (is_minus b || is_plus b) s (b ∷ s)

-- the digits at the start, and what follows them
unfoldable pub digits : Bytes → Bytes
digits [] = []
digits (b ∷ s) = cond (is_digit b) (b ∷ digits s) []

unfoldable pub after_digits : Bytes → Bytes
after_digits [] = []
after_digits (b ∷ s) = cond (is_digit b) (after_digits s) (b ∷ s)

-- the whole number that digits spell, of any length
unfoldable pub spelt : Bytes → ℕ
spelt = foldl (λ n b. n * 10 + (b - 48)) 0

-- at least one digit, and nothing but digits
unfoldable pub whole_number : Bytes → Option ℕ
whole_number [] = none
whole_number (b ∷ s) = cond (same (after_digits (b ∷ s)) []) (some (spelt (b ∷ s))) none

abbrev pub with_sign : Bool → ℕ → ℤ
with_sign s n = cond s (neg_ℤ (pos n)) (pos n)

abbrev pub signed_number : Bool → Option ℕ → Option ℤ
signed_number s none = none
signed_number s (some n) = some (with_sign s n)

-- ---- the tag `layer`

-- from -2 ^ 63 to 2 ^ 63 - 1
abbrev pub in_i64 : ℤ → Bool
in_i64 (pos n) = ltb n (2 ^ 63)
in_i64 (negsuc n) = ltb n (2 ^ 63)

unfoldable pub ranged : Option ℤ → Option ℤ
ranged none = none
ranged (some i) = cond (in_i64 i) (some i) none

-- an optional sign, then digits only, at least one; leading zeros may stand; in range
unfoldable pub as_integer : Bytes → Option ℤ
as_integer s = ranged (signed_number (negative s) (whole_number (unsigned s)))

-- ---- tag numbers

-- ± mantissa × 10 ^ exponent: the mantissa is all the digits, the exponent is the one written less the decimals
pub record Decimal : Type 0 where
  pub minus : Bool
  pub mantissa : ℕ
  pub exponent : ℤ

-- a dot and the digits after it, if there is one, and what follows
unfoldable pub decimals : Bytes → Bytes
decimals [] = []
decimals (b ∷ s) = cond (is_dot b) (digits s) []

unfoldable pub after_decimals : Bytes → Bytes
after_decimals [] = []
after_decimals (b ∷ s) = cond (is_dot b) (after_digits s) (b ∷ s)

-- nothing, or e or E, an optional sign and at least one digit
unfoldable pub exponent_of : Bytes → Option ℤ
exponent_of [] = some (pos 0)
exponent_of (b ∷ s) = cond (is_e b) (signed_number (negative s) (whole_number (unsigned s))) none

-- at least one digit, before or behind the dot
unfoldable pub decimal_from : Bool → Bytes → Bytes → Option ℤ → Option Decimal
decimal_from s ds fs none = none
decimal_from s [] [] (some e) = none
decimal_from s (d ∷ ds) fs (some e) =
    some (record { minus = s; mantissa = spelt ((d ∷ ds) ++ fs); exponent = e -ℤ pos (length fs) })
decimal_from s [] (f ∷ fs) (some e) =
    some (record { minus = s; mantissa = spelt (f ∷ fs); exponent = e -ℤ pos (length (f ∷ fs)) })

-- what follows the sign
abbrev pub decimal_of : Bool → Bytes → Option Decimal
decimal_of s t =
    let r = after_digits t in
    decimal_from s (digits t) (decimals r) (exponent_of (after_decimals r))

pub data TagNumber : Type 0 where
  reads : Float → TagNumber
  malformed : TagNumber
  out_of_range : TagNumber

abbrev pub whole : ℕ → Float
whole n = of_int binary64 (pos n)

abbrev pub signed : Bool → ℕ → Float
signed s d = cond s (neg (whole d)) (whole d)

-- one multiplication or division by a power of ten that is exact, up to 10 ^ 22
unfoldable pub scaled : Bool → ℕ → ℤ → TagNumber
scaled s d (pos k) = cond (leb k 22) (reads (mul binary64 (signed s d) (whole (10 ^ k)))) out_of_range
scaled s d (negsuc k) = cond (leb (suc k) 22) (reads (div binary64 (signed s d) (whole (10 ^ suc k)))) out_of_range

-- 0 is a signed zero whatever the exponent; digits that make 2 ^ 53 or more are out of range
unfoldable pub value_of : Option Decimal → TagNumber
value_of none = malformed
value_of (some n) =
    cond (eqb n.mantissa 0)
    (reads (signed n.minus 0))
    (cond (ltb n.mantissa (2 ^ 53)) (scaled n.minus n.mantissa n.exponent) out_of_range)

-- after the sign inf, infinity or nan in any case, or digits
unfoldable pub unsigned_number : Bool → Bytes → TagNumber
unsigned_number s t =
    let l = map lower_case t in
    cond (same l (ascii "inf") || same l (ascii "infinity"))
    (reads (inf s))
    (cond (same l (ascii "nan")) (reads nan) (value_of (decimal_of s t)))

unfoldable pub tag_number : Bytes → TagNumber
tag_number v = unsigned_number (negative v) (unsigned v)
