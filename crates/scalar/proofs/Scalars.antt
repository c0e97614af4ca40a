-- Bounds of scalar values, and the low bits of one byte.
use Prim.Native.Nat.{ℕ, ◌<◌, ◌%◌}
use native.Mathlib.Omega.{arith}
use mathlib.Core.Path.{◌≡◌}
use mathlib.Core.Bool.{true}
use lib.Dec.{ltb, leb}
use borrow.Author.Tests.{ltb-true}
use Rattle.base.specs.Choice.{by-test, and_right}
use Rattle.scalar.specs.Scalar.{is_scalar}

pub scalar_below : (k : ℕ) → is_scalar k ≡ true → k < 0x110000
unfolding is_scalar
scalar_below k e =
    by-test (ltb k 0xD800)
    (λ p. let h = ltb-true k 0xD800 p in omega arith)
    (λ p. ltb-true k 0x110000 (and_right (leb 0xE000 k) (ltb k 0x110000) (rw p at e)))

pub low_bits : (k : ℕ) → k < 0x80 → k % 128 ≡ k
low_bits k h = omega arith
