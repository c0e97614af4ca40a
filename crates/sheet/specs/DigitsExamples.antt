-- Numbers of text tests, computed: which are whole, and their digits.
use Rattle.std.specs.Prelude.{◌^◌, ◌-◌, ◌≡◌, refl, false, List, [], ◌∷◌, map, pos, negsuc, Float}
use Rattle.std.specs.Float.{nan, inf, binary64}
use Rattle.std.specs.Float.Ieee.{neg, round, of_int, to_unsigned, whole, to_bits}
use Rattle.base.specs.Bytes.{Bytes, ascii}
use Rattle.base.specs.Choice.{pick}
use Rattle.sheet.specs.Digits.{has_minus, unsigned_of, size_of, is_whole, digits_in, natural_digits, digits_for}

abbrev DigitsAre : List (Float × Bytes) → Type 0
DigitsAre cs = map (λ c. digits_for c.0) cs ≡ map (λ c. c.1) cs

pub digits_of_numbers :
    DigitsAre (
    (of_int binary64 (pos 2), ascii "2") ∷ (of_int binary64 (negsuc 6), ascii "-7") ∷ (of_int binary64 (pos 0), ascii "0") ∷
    (neg (of_int binary64 (pos 0)), ascii "-0") ∷ (of_int binary64 (pos 100), ascii "100") ∷
    (of_int binary64 (pos (2 ^ 53 - 1)), ascii "9007199254740991") ∷ (of_int binary64 (pos (2 ^ 53)), []) ∷
    (round binary64 false 5 2, []) ∷ (inf false, []) ∷ (nan, []) ∷ []
    )
unfolding has_minus unsigned_of size_of is_whole digits_in natural_digits digits_for pick of_int neg to_unsigned whole to_bits round
digits_of_numbers = refl
