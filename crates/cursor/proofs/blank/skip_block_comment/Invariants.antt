use Prim.Native.Nat.{◌-◌}
use lib.ListN.{length}
use Rattle.base.proofs.Loops.{Going}
use Rattle.cursor.specs.Blank.{skip_block_comment, block_turn}
use Rattle.std.specs.Prelude.{Err}
use Rattle.cursor.proofs.blank.skip_block_comment.Given as goal

abbrev pub invariant-loop-k : goal.invariant-loop-k
invariant-loop-k l = Going (block_turn l.s) (Err l.initial.d) (length l.s - l.d.at) l.d (skip_block_comment l.s l.initial.d)

abbrev pub decreases-loop-k : goal.decreases-loop-k
decreases-loop-k l = length l.s - l.d.at
