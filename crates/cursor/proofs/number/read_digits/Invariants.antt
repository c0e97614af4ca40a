use Prim.Native.Nat.{◌-◌}
use lib.ListN.{length}
use Rattle.base.proofs.Loops.{Going}
use Rattle.cursor.specs.Number.{read_digits, digits_turn, digits}
use Rattle.cursor.proofs.number.read_digits.Given as goal

abbrev pub invariant-loop-k : goal.invariant-loop-k
invariant-loop-k l = Going (digits_turn l.s) (digits l.initial.x l.initial.d) (length l.s - l.d.at) (digits l.x l.d) (read_digits l.s l.initial.d l.initial.x)

abbrev pub decreases-loop-k : goal.decreases-loop-k
decreases-loop-k l = length l.s - l.d.at
