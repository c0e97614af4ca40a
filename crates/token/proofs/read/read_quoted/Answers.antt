use Rattle.std.specs.Prelude.{Err}
use mathlib.Core.Path.{ap}
use Rattle.base.specs.Turns.{done}
use native.Mathlib.Omega.{arith}
use mathlib.Core.Path.{refl, sym}
use borrow.Author.Tests.{eq-eqb}
use Rattle.base.proofs.Loops.{going_start, going_more, going_done}
use Rattle.base.specs.Choice.{pick, if_true, via}
use Rattle.cursor.proofs.Onward.{next_on}
use Rattle.base.specs.Option.{on_result, result_err, result_ok}
use Rattle.token.specs.Read.{read_quoted}
use Rattle.token.proofs.read.read_quoted.Goals as goal

pub loop-e-init : goal.loop-e-init
unfolding read_quoted
loop-e-init c = going_start _ _ _ _ _ (omega arith)

pub returns-in-Err : goal.returns-in-Err
returns-in-Err c = going_done _ _ _ _ _ _ c.loop-e.invariant (sym (result_err _ _ _ (via c.next_char.ensures c.in-Err.is) (ap (λ e. done (Err e)) c.lexer_error.ensures)))

pub returns-in-Ok-eq34-default : goal.returns-in-Ok-eq34-default
returns-in-Ok-eq34-default c = going_done _ _ _ _ _ _ c.loop-e.invariant (sym (result_ok _ _ _ (via c.next_char.ensures c.in-Ok-eq34-default.is) (if_true _ _ _ (eq-eqb _ _ c.in-Ok-eq34-default.field-0-0-test) refl)))

pub loop-e-smaller : goal.loop-e-smaller
loop-e-smaller c = search next_on

pub loop-e-preserved : goal.loop-e-preserved
unfolding on_result pick
loop-e-preserved c = going_more _ _ _ _ _ _ _ c.loop-e.invariant (grind arith) (search next_on)
