use Rattle.base.proofs.Loops.{Going}
use Rattle.cursor.specs.Number.{pow_ten, pow_turn, power, one}
use Rattle.cursor.proofs.number.pow_ten.Given as goal

abbrev pub invariant-loop-left : goal.invariant-loop-left
invariant-loop-left l = Going pow_turn one l.left (power l.result l.base l.left) (pow_ten l.n)

abbrev pub decreases-loop-left : goal.decreases-loop-left
decreases-loop-left l = l.left
