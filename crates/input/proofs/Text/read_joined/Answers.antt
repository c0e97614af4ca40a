use Rattle.input.specs.Text.{joined_of}
use Rattle.base.specs.Choice.{via}
use mathlib.Core.Path.{refl}
use Rattle.input.proofs.Text.read_joined.Goals as goal
use Rattle.base.specs.Option.{result_err, result_ok}
use Rattle.std.proofs.Common.{◌∙◌}
use Rattle.base.proofs.Options.{handed_on}

pub returns-in_err-b : goal.returns-in_err-b
unfolding joined_of
returns-in_err-b c = handed_on _ c.from_residual.ensures ∙ result_err _ _ _ (via c.read_identifier.ensures c.in_err-b.was) refl

pub returns-in_err-t : goal.returns-in_err-t
unfolding joined_of
returns-in_err-t c = handed_on _ c.from_residual-in_err-t.ensures ∙ result_ok _ _ _ (via c.read_identifier.ensures c.in_ok-b.was) (result_err _ _ _ (via c.read_mandatory_token.ensures c.in_err-t.was) refl)

pub returns : goal.returns
unfolding joined_of
returns c = result_ok _ _ _ (via c.read_identifier.ensures c.in_ok-b.was) (result_ok _ _ _ (via c.read_mandatory_token.ensures c.in_ok-t.was) refl)
