-- What the loop of is_natural keeps: the bytes that are left are the digits of the rest just where all are those of the number.
use Rattle.std.proofs.Common.{◌≡◌, ◌≤◌, take}
use Rattle.base.specs.Bytes.{same}
use Rattle.sheet.specs.Digits.{natural_digits}
use Rattle.digits.proofs.is_natural.Given as goal

abbrev pub invariant-loop-i : goal.invariant-loop-i
invariant-loop-i l = (l.rest ≤ l.n) × (same (take l.i l.v) (natural_digits l.rest) ≡ same l.v (natural_digits l.n))
