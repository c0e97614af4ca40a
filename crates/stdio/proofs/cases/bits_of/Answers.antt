-- Of all NaN the bits are those that `to_bits` gives of the one value.
use Rattle.std.proofs.Common.{◌≡◌, true, refl}
use mathlib.Core.Bool.{true≢false}
use lib.Ieee.{Float, nan, inf, fin, is_nan, to_bits, binary64}
use Rattle.stdio.proofs.cases.bits_of.Goals as goal

bits_of_nan : (x : Float) → true ≡ is_nan x → 9221120237041090560 ≡ to_bits binary64 x
unfolding is_nan to_bits
bits_of_nan nan e = refl
bits_of_nan (inf s) e = absurd (true≢false e)
bits_of_nan (fin s m d) e = absurd (true≢false e)

pub returns-then-is_nan : goal.returns-then-is_nan
returns-then-is_nan c = bits_of_nan c.args.x c.if-is_nan.ensures.value
