use native.Mathlib.Omega.{arith}
use Rattle.base.proofs.Loops.{going_start, going_more, going_done}
use Rattle.base.proofs.Options.{handed_on}
use Rattle.base.specs.Choice.{pick}
use Rattle.base.specs.Option.{on_result}
use Rattle.cursor.proofs.Onward.{next_on}
use Rattle.cursor.specs.Blank.{skip_block_comment}
use Rattle.cursor.proofs.blank.skip_block_comment.Goals as goal

pub loop-k-init : goal.loop-k-init
unfolding skip_block_comment
loop-k-init c = going_start _ _ _ _ _ (omega arith)

pub returns-in_err-k : goal.returns-in_err-k
unfolding on_result
returns-in_err-k c = rw (handed_on _ c.from_residual.ensures) (going_done _ _ _ _ _ _ c.loop-k.invariant (grind arith))

pub returns-in-loop-k : goal.returns-in-loop-k
unfolding on_result pick
returns-in-loop-k c = going_done _ _ _ _ _ _ c.loop-k.invariant (grind arith)

pub loop-k-smaller : goal.loop-k-smaller
loop-k-smaller c = next_on _ _ _ _ _ c.next_char.ensures c.in_ok-k.was

pub loop-k-preserved : goal.loop-k-preserved
unfolding on_result pick
loop-k-preserved c = going_more _ _ _ _ _ _ _ c.loop-k.invariant (grind arith) (next_on _ _ _ _ _ c.next_char.ensures c.in_ok-k.was)
