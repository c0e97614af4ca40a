-- Above infinity's bits stand those of NaN, which is one value.
use Rattle.std.proofs.Common.{◌≡◌, ℕ, ◌%◌, ◌^◌, ◌<◌, true, refl, sym, ap, ◌∙◌, arith}
use mathlib.Core.Bool.{true≢false}
use lib.Ieee.{Float, nan, inf, fin, is_nan, of_bits, binary64}
use lib.Ieee.Bits.{nan_bits_is, nan_bits_above}
use Rattle.std.proofs.lemmas.Bool.{lt-ltb}
use Rattle.std.proofs.lemmas.Float.{not_nan_f64_bits}
use Rattle.stdio.proofs.cases.float_at.Goals as goal

only_nan : (x : Float) → is_nan x ≡ true → nan ≡ x
unfolding is_nan
only_nan nan e = refl
only_nan (inf s) e = absurd (true≢false (sym e))
only_nan (fin s m d) e = absurd (true≢false (sym e))

above : (n : ℕ) → 0x7ff0_0000_0000_0000 < n % 2 ^ 63 → nan ≡ of_bits binary64 n
above n h = only_nan _ (sym (nan_bits_is binary64 n) ∙ nan_bits_above binary64 n ∙ lt-ltb _ _ h)

pub float_from_bits-result : goal.float_from_bits-result
float_from_bits-result c = not_nan_f64_bits _ c.if-n-le9218868437227405312.true

pub returns : goal.returns
returns c = sym (above 9221120237041090560 (omega arith)) ∙ above _ c.if-n-le9218868437227405312.false ∙ ap (of_bits binary64) c.long_at-n.ensures
