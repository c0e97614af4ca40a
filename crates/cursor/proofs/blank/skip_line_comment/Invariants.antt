use Prim.Native.Nat.{◌-◌}
use lib.ListN.{length}
use Rattle.base.proofs.Loops.{Going}
use Rattle.cursor.specs.Blank.{skip_line_comment, line_turn}
use Rattle.cursor.proofs.blank.skip_line_comment.Given as goal

abbrev pub invariant-loop-e : goal.invariant-loop-e
invariant-loop-e l = Going (line_turn l.s) l.initial.d (length l.s - l.d.at) l.d (skip_line_comment l.s l.initial.d)

abbrev pub decreases-loop-e : goal.decreases-loop-e
decreases-loop-e l = length l.s - l.d.at
