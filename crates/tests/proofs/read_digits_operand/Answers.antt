use Rattle.std.proofs.Common.{◌∙◌}
use Rattle.input.proofs.TokenLaws.{bracket_expected}
use mathlib.Core.Path.{refl}
use native.Mathlib.Omega.{arith}
use Rattle.base.specs.Choice.{via}
use Rattle.keep.proofs.Laws.{another, beyond, yes_way, no_way, widen}
use Rattle.keep.specs.Answers.{Reads, refuses}
use Rattle.tests.proofs.Rows.{digits_row}
use Rattle.tests.proofs.read_digits_operand.Goals as goal
use Rattle.base.proofs.Options.{handed_on}

pub returns-in_err-d-clause-read : goal.returns-in_err-d-clause-read
returns-in_err-d-clause-read c = rw (handed_on _ c.from_residual.ensures) (λ op w. another (Reads _ _ _ _ _) _ _ _ _ _ _ (via (c.expect.ensures ∙ bracket_expected _ _ _) c.in_err-d.was) (refuses refl))

pub returns-then-is_whole-clause-read : goal.returns-then-is_whole-clause-read
returns-then-is_whole-clause-read c = λ op w. beyond (Reads _ _ _ _ _) _ _ _ _ _ _ (via (c.expect.ensures ∙ bracket_expected _ _ _) c.in_ok-d.was) (λ m1. yes_way (Reads _ _ _ _ _) _ _ _ (via c.is_whole.ensures c.if-is_whole.true) (widen (omega arith) (c.store_number_test.ensures.read _ _ (digits_row c.args.text.bundle.now op c.args.key c.args.x w))))

pub returns-clause-read : goal.returns-clause-read
returns-clause-read c = λ op w. beyond (Reads _ _ _ _ _) _ _ _ _ _ _ (via (c.expect.ensures ∙ bracket_expected _ _ _) c.in_ok-d.was) (λ m1. no_way (Reads _ _ _ _ _) _ _ _ (via c.is_whole.ensures c.if-is_whole.false) (refuses c.refuse_reached.ensures))
