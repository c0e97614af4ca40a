use Rattle.std.proofs.Common.{◌∙◌}
use Rattle.input.proofs.TokenLaws.{bracket_expected}
use mathlib.Core.Path.{refl}
use native.Mathlib.Omega.{arith}
use Rattle.base.specs.Choice.{via}
use Rattle.keep.proofs.Laws.{another, beyond, no_figure, a_figure, widen}
use Rattle.keep.specs.Answers.{Reads, refuses}
use Rattle.tests.proofs.Rows.{numeric_row}
use Rattle.tests.proofs.read_number.Goals as goal
use Rattle.base.proofs.Options.{handed_on}

pub returns-in_err-x-clause-read : goal.returns-in_err-x-clause-read
returns-in_err-x-clause-read c = rw (handed_on _ c.from_residual.ensures) (λ op w. no_figure (Reads _ _ _ _ _) _ _ _ _ _ (via c.read_figure.ensures c.in_err-x.was) (refuses refl))

pub returns-in_err-f-clause-read : goal.returns-in_err-f-clause-read
returns-in_err-f-clause-read c = rw (handed_on _ c.from_residual-in_err-f.ensures) (λ op w. a_figure (Reads _ _ _ _ _) _ _ _ _ _ (via c.read_figure.ensures c.in_ok-x.was) (λ m1. another (Reads _ _ _ _ _) _ _ _ _ _ _ (via (c.expect.ensures ∙ bracket_expected _ _ _) c.in_err-f.was) (refuses refl)))

pub returns-clause-read : goal.returns-clause-read
returns-clause-read c = λ op w. a_figure (Reads _ _ _ _ _) _ _ _ _ _ (via c.read_figure.ensures c.in_ok-x.was) (λ m1. beyond (Reads _ _ _ _ _) _ _ _ _ _ _ (via (c.expect.ensures ∙ bracket_expected _ _ _) c.in_ok-f.was) (λ m2. widen (omega arith) (c.store_number_test.ensures.read _ _ (numeric_row c.args.text.bundle.now op c.args.key c.in_ok-x.x w))))
