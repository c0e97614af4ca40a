-- Which texts are tag numbers and `layer` tags, as a grammar: "optional sign, at least one digit with an optional dot, optional exponent (e or E,
-- optional sign, at least one digit); or after the sign inf, infinity, nan in any case".
use Rattle.std.specs.Prelude.{ℕ, ◌≡◌, Bool, true, false, ◌&&◌, [], ◌∷◌, ◌++◌, map, length, ℤ, pos, ◌-ℤ◌, Float}
use Rattle.std.specs.Float.{nan, inf}
use Rattle.base.specs.Bytes.{Bytes, ascii}
use Rattle.cascade.specs.Number.{is_e, is_digit, lower_case, spelt, with_sign, in_i64, Decimal}

unfoldable pub all_digits : Bytes → Bool
all_digits [] = true
all_digits (b ∷ s) = is_digit b && all_digits s

-- an optional sign, and whether it is a minus
pub data Sign : Bytes → Bool → Type 0 where
  absent : Sign [] false
  plus : Sign (43 ∷ []) false
  minus : Sign (45 ∷ []) true

-- an optional dot, and the digits after it
pub data Fraction : Bytes → Bytes → Type 0 where
  absent : Fraction [] []
  dot : {fs : Bytes} → all_digits fs ≡ true → Fraction (46 ∷ fs) fs

-- an optional exponent, and its value
pub data Exponent : Bytes → ℤ → Type 0 where
  absent : Exponent [] (pos 0)
  written :
      (b : ℕ) (s : Bytes) (m : Bool) (d : ℕ) (ds : Bytes)
      → is_e b ≡ true
      → Sign s m
      → all_digits (d ∷ ds) ≡ true
      → Exponent (b ∷ (s ++ (d ∷ ds))) (with_sign m (spelt (d ∷ ds)))

-- the text v spells the decimal n
pub record Spells (v : Bytes) (n : Decimal) : Type 0 where
  pub sign : Bytes
  pub whole : Bytes
  pub fraction : Bytes
  pub decimals : Bytes
  pub exponent : Bytes
  pub power : ℤ
  pub text : v ≡ sign ++ (whole ++ (fraction ++ exponent))
  pub signed : Sign sign n.minus
  pub digits : all_digits whole ≡ true
  pub fractional : Fraction fraction decimals
  pub scaled : Exponent exponent power
  -- at least one digit
  pub some : whole ++ decimals ≡ [] → ⊥
  -- all the digits, and the exponent less the decimals
  pub mantissa_is : n.mantissa ≡ spelt (whole ++ decimals)
  pub exponent_is : n.exponent ≡ power -ℤ pos (length decimals)

-- the text v is a word, and its value
pub data Word : Bytes → Float → Type 0 where
  infinite : (s t : Bytes) (m : Bool) → Sign s m → map lower_case t ≡ ascii "inf" → Word (s ++ t) (inf m)
  infinity : (s t : Bytes) (m : Bool) → Sign s m → map lower_case t ≡ ascii "infinity" → Word (s ++ t) (inf m)
  not_number : (s t : Bytes) (m : Bool) → Sign s m → map lower_case t ≡ ascii "nan" → Word (s ++ t) nan

-- the text v is the i64 i: an optional sign and at least one digit, in range
pub record SpellsInteger (v : Bytes) (i : ℤ) : Type 0 where
  pub sign : Bytes
  pub minus : Bool
  pub first : ℕ
  pub others : Bytes
  pub text : v ≡ sign ++ (first ∷ others)
  pub signed : Sign sign minus
  pub digits : all_digits (first ∷ others) ≡ true
  pub value : i ≡ with_sign minus (spelt (first ∷ others))
  pub in_range : in_i64 i ≡ true
