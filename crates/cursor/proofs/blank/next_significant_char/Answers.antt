use native.Mathlib.Omega.{arith}
use mathlib.Core.Path.{refl, sym}
use borrow.Author.Tests.{eq-eqb, ne_eqb}
use Rattle.base.proofs.Loops.{going_start, going_more, going_done}
use Rattle.base.proofs.Options.{handed_on, ok_is}
use Rattle.base.specs.Choice.{if_false, if_true, via}
use Rattle.base.specs.Option.{on_option, result_err, result_ok}
use Rattle.cursor.proofs.Onward.{next_on}
use Rattle.cursor.proofs.Reaching.{skipped_on}
use Rattle.cursor.specs.Blank.{next_significant_char}
use Rattle.cursor.proofs.blank.next_significant_char.Goals as goal

pub loop-e-init : goal.loop-e-init
unfolding next_significant_char
loop-e-init c = going_start _ _ _ _ _ (omega arith)

pub returns-in-Err : goal.returns-in-Err
returns-in-Err c = going_done _ _ _ _ _ _ c.loop-e.invariant (sym (result_err _ _ _ (via c.next_char.ensures c.in-Err.is) refl))

pub loop-e-smaller-in-Ok : goal.loop-e-smaller-in-Ok
loop-e-smaller-in-Ok c = search next_on

pub loop-e-preserved-in-Ok : goal.loop-e-preserved-in-Ok
loop-e-preserved-in-Ok c = going_more _ _ _ _ _ _ _ c.loop-e.invariant (sym (result_ok _ _ _ (via c.next_char.ensures c.in-Ok.is) (rw (sym c.is_white_space.ensures) (if_true _ _ _ c.if-is_white_space.true refl)))) (search next_on)

pub returns-in_err-try_skip_comment-in-Ok-eq47-default : goal.returns-in_err-try_skip_comment-in-Ok-eq47-default
returns-in_err-try_skip_comment-in-Ok-eq47-default c = rw (handed_on _ c.from_residual.ensures) (going_done _ _ _ _ _ _ c.loop-e.invariant (sym (result_ok _ _ _ (via c.next_char.ensures c.in-Ok.is) (rw (sym c.is_white_space.ensures) (if_false _ _ _ c.if-is_white_space.false (if_true _ _ _ (eq-eqb _ _ c.in-Ok-eq47-default.field-0-0-test) (result_err _ _ _ (via c.try_skip_comment.ensures c.in_err-try_skip_comment-in-Ok-eq47-default.was) refl)))))))

pub returns-in-None : goal.returns-in-None
unfolding on_option
returns-in-None c = going_done _ _ _ _ _ _ c.loop-e.invariant (sym (result_ok _ _ _ (via c.next_char.ensures c.in-Ok.is) (rw (sym c.is_white_space.ensures) (if_false _ _ _ c.if-is_white_space.false (if_true _ _ _ (eq-eqb _ _ c.in-Ok-eq47-default.field-0-0-test) (result_ok _ _ _ (via c.try_skip_comment.ensures (ok_is c.in_ok-try_skip_comment-in-Ok-eq47-default.was c.in-None.is)) (rw c.in-Ok-eq47-default.field-0-0-test refl)))))))

pub loop-e-smaller : goal.loop-e-smaller
loop-e-smaller c = skipped_on _ _ _ _ _ _ _ c.next_char.ensures c.in-Ok.is c.try_skip_comment.ensures (ok_is c.in_ok-try_skip_comment-in-Ok-eq47-default.was c.in-Some.is)

pub loop-e-preserved : goal.loop-e-preserved
unfolding on_option
loop-e-preserved c = going_more _ _ _ _ _ _ _ c.loop-e.invariant (sym (result_ok _ _ _ (via c.next_char.ensures c.in-Ok.is) (rw (sym c.is_white_space.ensures) (if_false _ _ _ c.if-is_white_space.false (if_true _ _ _ (eq-eqb _ _ c.in-Ok-eq47-default.field-0-0-test) (result_ok _ _ _ (via c.try_skip_comment.ensures (ok_is c.in_ok-try_skip_comment-in-Ok-eq47-default.was c.in-Some.is)) refl)))))) (skipped_on _ _ _ _ _ _ _ c.next_char.ensures c.in-Ok.is c.try_skip_comment.ensures (ok_is c.in_ok-try_skip_comment-in-Ok-eq47-default.was c.in-Some.is))

pub returns-in-Ok-2 : goal.returns-in-Ok-2
returns-in-Ok-2 c = going_done _ _ _ _ _ _ c.loop-e.invariant (sym (result_ok _ _ _ (via c.next_char.ensures c.in-Ok.is) (rw (sym c.is_white_space.ensures) (if_false _ _ _ c.if-is_white_space.false (if_false _ _ _ (ne_eqb _ _ c.in-Ok-2.k-test.1) refl)))))
