-- The digits of a number as the code adds them up in 64 bits. proofs/Saturate.antt: this changes no answer.
use Rattle.std.specs.Prelude.{ℕ, ◌+◌, ◌-◌, ◌*◌, Bool, false, ltb, ℤ, Option, Some, None}
use mathlib.Core.List.{[], ◌∷◌, foldl}
use Rattle.base.specs.Bytes.{Bytes, same}
use Rattle.base.specs.Choice.{pick}
use Rattle.cascade.specs.Number.{is_e, negative, unsigned, after_digits, Decimal}

-- one digit more, and the largest number where a byte more may not fit
unfoldable pub grown : ℕ → ℕ → ℕ
grown n b = pick (ltb n 1844674407370955140) (n * 10 + (b - 48)) 18446744073709551615

unfoldable pub grown_from : ℕ → Bytes → ℕ
grown_from n s = foldl grown n s

-- at least one digit, and nothing but digits
unfoldable pub whole_text : Bytes → Bool
whole_text [] = false
whole_text (b ∷ s) = same (after_digits (b ∷ s)) []

-- the exponent behind its letter, and with it; none is 0
unfoldable pub written_power : Bytes → Option (Bool × ℕ)
written_power s = pick (whole_text (unsigned s)) (Some (negative s, grown_from 0 (unsigned s))) None

unfoldable pub power_of : Bytes → Option (Bool × ℕ)
power_of [] = Some (false, 0)
power_of (b ∷ s) = pick (is_e b) (written_power s) None

abbrev pub decimal : Bool → ℕ → ℤ → Decimal
decimal s d e = record { minus = s; mantissa = d; exponent = e }
