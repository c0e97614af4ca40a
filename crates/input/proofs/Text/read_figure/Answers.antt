use Rattle.input.proofs.TokenLaws.{not_number_lem, got_known}
use Rattle.input.specs.Text.{figure_of, token_of}
use Rattle.grammar.specs.View.{on_number}
use Rattle.base.specs.Choice.{via}
use mathlib.Core.Path.{◌≡◌, refl, ap}
use mathlib.Core.List.{[], ◌∷◌}
use borrow.Enum.Refused.{opened}
use Rattle.input.proofs.Text.read_figure.Goals as goal
use Rattle.std.specs.Prelude.{Err}
use Rattle.base.specs.Option.{result_err, result_ok}
use Rattle.std.proofs.Common.{◌∙◌}
use Rattle.base.proofs.Options.{handed_on}

pub returns-in_err-t : goal.returns-in_err-t
unfolding figure_of
returns-in_err-t c = handed_on _ c.from_residual.ensures ∙ result_err _ _ _ (via c.read_mandatory_token.ensures c.in_err-t.was) refl

pub returns-in-Number : goal.returns-in-Number
unfolding figure_of on_number token_of
returns-in-Number c = got_known _ _ _ (via c.read_mandatory_token.ensures c.in_ok-t.was) c.in-Number.is refl

pub returns-in_default : goal.returns-in_default
unfolding figure_of
returns-in_default c = result_ok _ _ _ (via c.read_mandatory_token.ensures c.in_ok-t.was) (not_number_lem _ (3 ∷ []) _ (opened c.in_default.in_default-own.keys2) (◌≡◌ _) _ _ tt (ap Err c.refuse.ensures))
