use native.Mathlib.Omega.{arith}
use mathlib.Core.Path.{refl, sym}
use Rattle.base.proofs.Loops.{going_start, going_more, going_done}
use Rattle.base.specs.Choice.{if_false, if_true, via}
use Rattle.base.specs.Option.{option_none, option_some, result_err, result_ok}
use Rattle.cursor.proofs.Onward.{next_on}
use Rattle.cursor.specs.Number.{read_digits}
use Rattle.cursor.proofs.number.read_digits.Goals as goal

pub loop-k-init : goal.loop-k-init
unfolding read_digits
loop-k-init c = going_start _ _ _ _ _ (omega arith)

pub returns-in_default : goal.returns-in_default
returns-in_default c = going_done _ _ _ _ _ _ c.loop-k.invariant (sym (result_err _ _ _ (via c.next_char.ensures c.in_default.is) refl))

pub loop-k-smaller : goal.loop-k-smaller
loop-k-smaller c = search next_on

pub loop-k-preserved : goal.loop-k-preserved
loop-k-preserved c = going_more _ _ _ _ _ _ _ c.loop-k.invariant (sym (result_ok _ _ _ (via c.next_char.ensures c.in-Ok.is) (option_none _ _ _ (via c.to_digit.ensures c.in-None.is) (rw (sym c.takes_dot.ensures) (if_true _ _ _ c.if-takes_dot.true (rw (sym c.dotted-x.ensures) refl)))))) (search next_on)

pub returns-in-None-2 : goal.returns-in-None-2
returns-in-None-2 c = going_done _ _ _ _ _ _ c.loop-k.invariant (sym (result_ok _ _ _ (via c.next_char.ensures c.in-Ok.is) (option_none _ _ _ (via c.to_digit.ensures c.in-None.is) (rw (sym c.takes_dot.ensures) (if_false _ _ _ c.if-takes_dot.false refl)))))

pub loop-k-smaller-in-Some : goal.loop-k-smaller-in-Some
loop-k-smaller-in-Some c = search next_on

pub loop-k-preserved-in-Some : goal.loop-k-preserved-in-Some
loop-k-preserved-in-Some c = going_more _ _ _ _ _ _ _ c.loop-k.invariant (sym (result_ok _ _ _ (via c.next_char.ensures c.in-Ok.is) (option_some _ _ _ (via c.to_digit.ensures c.in-Some.is) (rw (sym c.digit_added-x.ensures) refl)))) (search next_on)
