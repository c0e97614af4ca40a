-- A number in a text test: which are whole, and their decimal digits as Rust prints them, "2", "-7", "0", "-0".
use Rattle.std.specs.Prelude.{ℕ, zero, suc, ◌+◌, ◌/◌, ◌%◌, ◌^◌, Bool, true, false, ◌&&◌, [], ◌∷◌, ◌++◌, leb, ltb, Float}
use Rattle.std.specs.Float.{binary64}
use Rattle.std.specs.Float.Ieee.{neg, to_unsigned, to_bits, whole}
use Rattle.base.specs.Bytes.{Bytes}
use Rattle.base.specs.Choice.{pick}

-- whether the sign bit is set, as it is in -0
unfoldable pub has_minus : Float → Bool
has_minus x = leb (2 ^ 63) (to_bits binary64 x)

-- the number without its sign, and that as a whole number, cut towards 0
unfoldable pub unsigned_of : Float → Float
unsigned_of x = pick (has_minus x) (neg x) x

unfoldable pub size_of : Float → ℕ
size_of x = to_unsigned 64 (unsigned_of x)

-- finite, without a fraction, of a size of at most 2 ^ 53 - 1; -0 is whole, NaN and infinities are not
unfoldable pub is_whole : Float → Bool
is_whole x = whole binary64 (unsigned_of x) && leb (size_of x) 9007199254740991

-- the decimal digits of a whole number, the last one behind those of its tenth; the first argument bounds how many, and the
-- second says whether there is only one, so that no more are computed
unfoldable pub digits_in : ℕ → Bool → ℕ → Bytes
digits_in zero b n = []
digits_in (suc f) true n = (48 + n) ∷ []
digits_in (suc f) false n = digits_in f (ltb (n / 10) 10) (n / 10) ++ ((48 + n % 10) ∷ [])

unfoldable pub natural_digits : ℕ → Bytes
natural_digits n = digits_in (suc n) (ltb n 10) n

-- the digits of a whole number with its sign; of any other, none
unfoldable pub digits_for : Float → Bytes
digits_for x = pick (is_whole x) (pick (has_minus x) (45 ∷ natural_digits (size_of x)) (natural_digits (size_of x))) []
