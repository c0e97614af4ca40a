use Rattle.input.proofs.TokenLaws.{not_identifier, got_known}
use Rattle.input.specs.Text.{word_of, token_of}
use Rattle.grammar.specs.View.{on_identifier}
use Rattle.base.specs.Choice.{via}
use mathlib.Core.Path.{◌≡◌, refl, ap}
use mathlib.Core.List.{[], ◌∷◌}
use borrow.Enum.Refused.{opened}
use Rattle.input.proofs.Text.read_identifier.Goals as goal
use Rattle.std.specs.Prelude.{Err}
use Rattle.base.specs.Option.{result_err, result_ok}
use Rattle.std.proofs.Common.{◌∙◌}
use Rattle.base.proofs.Options.{handed_on}

pub returns-in_err-t : goal.returns-in_err-t
unfolding word_of
returns-in_err-t c = handed_on _ c.from_residual.ensures ∙ result_err _ _ _ (via c.read_mandatory_token.ensures c.in_err-t.was) refl

pub returns-in-Identifier : goal.returns-in-Identifier
unfolding word_of on_identifier token_of
returns-in-Identifier c = got_known _ _ _ (via c.read_mandatory_token.ensures c.in_ok-t.was) c.in-Identifier.is refl

pub returns-in_default : goal.returns-in_default
unfolding word_of
returns-in_default c = result_ok _ _ _ (via c.read_mandatory_token.ensures c.in_ok-t.was) (not_identifier _ (1 ∷ []) _ (opened c.in_default.in_default-own.keys2) (◌≡◌ _) _ _ tt (ap Err c.refuse.ensures))
