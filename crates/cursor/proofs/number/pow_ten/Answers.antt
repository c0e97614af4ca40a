use native.Mathlib.Omega.{arith}
use mathlib.Core.Path.{refl, sym}
use borrow.Author.Tests.{eq-eqb, ne_eqb}
use Rattle.base.proofs.Loops.{going_start, going_more, going_done}
use Rattle.base.specs.Choice.{if_false, if_true}
use Rattle.cursor.specs.Number.{pow_ten}
use Rattle.cursor.proofs.number.pow_ten.Goals as goal

pub loop-left-init : goal.loop-left-init
unfolding pow_ten
loop-left-init c = going_start _ _ _ _ _ (omega arith)

pub returns-then-left-eq0 : goal.returns-then-left-eq0
returns-then-left-eq0 c = going_done _ _ _ _ _ _ c.loop-left.invariant (sym (rw (sym c.times_odd-result.ensures) (if_true _ _ _ (eq-eqb _ _ c.if-left-eq0.true) refl)))

pub loop-left-preserved : goal.loop-left-preserved
loop-left-preserved c = going_more _ _ _ _ _ _ _ c.loop-left.invariant (sym (rw (sym c.times_odd-result.ensures) (if_false _ _ _ (ne_eqb _ _ c.if-left-eq0.false) refl))) (omega arith)
