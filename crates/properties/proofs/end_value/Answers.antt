use Rattle.std.proofs.Common.{◌∙◌}
use Rattle.input.proofs.TokenLaws.{semicolon_expected}
use mathlib.Core.Path.{refl}
use native.Mathlib.Omega.{arith}
use Rattle.base.specs.Choice.{via}
use Rattle.keep.proofs.Laws.{another, beyond}
use Rattle.properties.specs.Answers.{Values, bad_value, good_value}
use Rattle.properties.proofs.end_value.Goals as goal
use Rattle.base.proofs.Options.{handed_on}

pub returns-in_err-d : goal.returns-in_err-d
returns-in_err-d c = rw (handed_on _ c.from_residual.ensures) (λ τ v e. another (Values _ _ _ _ _) _ _ _ _ _ _ (via (c.expect.ensures ∙ semicolon_expected _ _ _) c.in_err-d.was) (bad_value refl))

pub returns : goal.returns
returns c = λ τ v e. beyond (Values _ _ _ _ _) _ _ _ _ _ _ (via (c.expect.ensures ∙ semicolon_expected _ _ _) c.in_ok-d.was) (λ m1. good_value v _ (omega arith) e)
