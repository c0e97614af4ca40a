use Rattle.std.proofs.Common.{◌∙◌}
use Rattle.input.proofs.TokenLaws.{bracket_expected}
use mathlib.Core.Path.{refl}
use native.Mathlib.Omega.{arith}
use Rattle.base.specs.Choice.{via}
use Rattle.keep.proofs.Laws.{another, beyond, widen}
use Rattle.keep.specs.Answers.{Reads, refuses}
use Rattle.tests.proofs.Rows.{word_row_lem}
use Rattle.tests.proofs.read_word_operand.Goals as goal
use Rattle.base.proofs.Options.{handed_on}

pub returns-in_err-d-clause-read : goal.returns-in_err-d-clause-read
returns-in_err-d-clause-read c = rw (handed_on _ c.from_residual.ensures) (λ op w. another (Reads _ _ _ _ _) _ _ _ _ _ _ (via (c.expect.ensures ∙ bracket_expected _ _ _) c.in_err-d.was) (refuses refl))

pub returns-clause-read : goal.returns-clause-read
returns-clause-read c = λ op w. beyond (Reads _ _ _ _ _) _ _ _ _ _ _ (via (c.expect.ensures ∙ bracket_expected _ _ _) c.in_ok-d.was) (λ m1. widen (omega arith) (c.store_test.ensures.read _ _ (word_row_lem c.args.text.bundle.now op c.args.key c.args.b c.args.store.now.tally.number w)))
