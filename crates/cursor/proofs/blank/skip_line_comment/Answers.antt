use native.Mathlib.Omega.{arith}
use Rattle.base.proofs.Loops.{going_start, going_more, going_done}
use Rattle.base.specs.Choice.{pick}
use Rattle.base.specs.Option.{on_result}
use Rattle.cursor.proofs.Onward.{next_on}
use Rattle.cursor.specs.Blank.{skip_line_comment}
use Rattle.cursor.proofs.blank.skip_line_comment.Goals as goal

pub loop-e-init : goal.loop-e-init
unfolding skip_line_comment
loop-e-init c = going_start _ _ _ _ _ (omega arith)

pub returns-in-Ok-eq10-default : goal.returns-in-Ok-eq10-default
unfolding on_result pick
returns-in-Ok-eq10-default c = going_done _ _ _ _ _ _ c.loop-e.invariant (grind arith)

pub returns-in-Ok-eq10-default-2 : goal.returns-in-Ok-eq10-default-2
unfolding on_result pick
returns-in-Ok-eq10-default-2 c = going_done _ _ _ _ _ _ c.loop-e.invariant (grind arith)

pub loop-e-smaller : goal.loop-e-smaller
loop-e-smaller c = search next_on

pub loop-e-preserved : goal.loop-e-preserved
unfolding on_result pick
loop-e-preserved c = going_more _ _ _ _ _ _ _ c.loop-e.invariant (grind arith) (search next_on)
