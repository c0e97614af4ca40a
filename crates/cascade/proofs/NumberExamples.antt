-- Tag numbers and `layer` tags, computed: what Rust reads, what it refuses, and where 8 begins.
use Rattle.std.specs.Prelude.{◌^◌, ◌-◌, ◌≡◌, refl, List, [], ◌∷◌, map, true, false, pos, negsuc}
use Rattle.std.proofs.Math.Option.{none, some}
use Rattle.std.specs.Float.{nan, inf, binary64}
use Rattle.std.specs.Float.Ieee.{round, of_int, neg, mul, div}
use Rattle.base.specs.Bytes.{ascii, same}
use Rattle.cascade.specs.Number.{negative, unsigned, digits, after_digits, spelt, whole_number, ranged, as_integer, decimals, after_decimals, exponent_of, decimal_from, reads, malformed, out_of_range, whole, scaled, value_of, unsigned_number, tag_number}

abbrev pub Read : {A B : Type 0} → (A → B) → List (A × B) → Type 0
Read f cs = map (λ c. f c.0) cs ≡ map (λ c. c.1) cs

pub tag_numbers :
    Read tag_number (
    (ascii "5e2", reads (whole 500)) ∷ (ascii "+5.", reads (whole 5)) ∷ (ascii ".5", reads (round binary64 false 1 2)) ∷
    (ascii "-0", reads (neg (whole 0))) ∷ (ascii "-0e99999", reads (neg (whole 0))) ∷
    (ascii "1e-7", reads (round binary64 false 1 (10 ^ 7))) ∷
    (ascii "-InF", reads (inf true)) ∷ (ascii "+infinity", reads (inf false)) ∷ (ascii "-nAn", reads nan) ∷
    (ascii "", malformed) ∷ (ascii "-", malformed) ∷ (ascii ".", malformed) ∷ (ascii "e5", malformed) ∷ (ascii "1e", malformed) ∷
    (ascii "1e+", malformed) ∷ (ascii "1_0", malformed) ∷ (ascii " 1", malformed) ∷ (ascii "+-1", malformed) ∷ (ascii "0x1", malformed) ∷
    (ascii "1e23x", malformed) ∷ (ascii "9007199254740991", reads (whole (2 ^ 53 - 1))) ∷ (ascii "9007199254740992", out_of_range) ∷
    (ascii "1e22", reads (whole (10 ^ 22))) ∷ (ascii "1e23", out_of_range) ∷ (ascii "1e-22", reads (round binary64 false 1 (10 ^ 22))) ∷
    (ascii "1e-23", out_of_range) ∷ (ascii "10.00e24", reads (whole (10 ^ 25))) ∷ []
    )
unfolding same negative unsigned digits after_digits spelt whole_number decimals after_decimals exponent_of decimal_from scaled value_of
    unsigned_number tag_number of_int neg mul div round
tag_numbers = refl

pub layer_tags_lem :
    Read as_integer (
    (ascii "5", some (pos 5)) ∷ (ascii "+5", some (pos 5)) ∷ (ascii "-1", some (negsuc 0)) ∷ (ascii "-0", some (pos 0)) ∷
    (ascii "007", some (pos 7)) ∷ (ascii "", none) ∷ (ascii "-", none) ∷ (ascii "+", none) ∷ (ascii "--1", none) ∷ (ascii "+-1", none) ∷
    (ascii "1.0", none) ∷ (ascii " 1", none) ∷ (ascii "1 ", none) ∷ (ascii "9223372036854775807", some (pos (2 ^ 63 - 1))) ∷
    (ascii "9223372036854775808", none) ∷ (ascii "-9223372036854775808", some (negsuc (2 ^ 63 - 1))) ∷
    (ascii "-9223372036854775809", none) ∷ (ascii "00000000000000000000000000001", some (pos 1)) ∷ []
    )
unfolding same negative unsigned after_digits spelt whole_number ranged as_integer
layer_tags_lem = refl
