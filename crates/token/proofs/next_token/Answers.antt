use Rattle.std.specs.Prelude.{Err}
use mathlib.Core.Path.{refl, ap, ◌∙◌}
use Rattle.std.proofs.Common.{rules}
use Rattle.base.proofs.Options.{handed_on, mapped_ok, mapped_err}
use Rattle.base.specs.Choice.{via}
use Rattle.base.specs.Option.{result_err, result_ok}
use Rattle.cursor.specs.Elim.{Significant-Ended, Significant-Found}
use Rattle.token_kind.specs.Reason.{open_comment, lexer_error}
use Rattle.token.specs.Step.{step_of}
use Rattle.token.proofs.next_token.Goals as goal

pub returns-in_err-d : goal.returns-in_err-d
unfolding step_of
returns-in_err-d c =
    let m = mapped_err c.next_significant_char.result c.map_err.result _ (lexer_error open_comment) (λ d e p. search rules) c.map_err.ensures.cases c.in_err-d.was in
    handed_on _ c.from_residual.ensures ∙ result_err _ _ _ (via c.next_significant_char.ensures m.1.0) (ap Err m.1.1)

pub returns-in-Ended : goal.returns-in-Ended
unfolding step_of
returns-in-Ended c = result_ok _ _ _ (via c.next_significant_char.ensures (mapped_ok _ _ _ c.map_err.ensures.cases c.in_ok-d.was)) (Significant-Ended _ _ _ c.in-Ended.is refl)

pub returns-in_err-token-in-Found : goal.returns-in_err-token-in-Found
unfolding step_of
returns-in_err-token-in-Found c = result_ok _ _ _ (via c.next_significant_char.ensures (mapped_ok _ _ _ c.map_err.ensures.cases c.in_ok-d.was)) (Significant-Found _ _ _ c.in-Found.is (result_err _ _ _ (via c.read_token.ensures c.in_err-token-in-Found.was) (handed_on _ c.from_residual-in_err-token-in-Found.ensures)))

pub returns-in_ok-token-in-Found : goal.returns-in_ok-token-in-Found
unfolding step_of
returns-in_ok-token-in-Found c = result_ok _ _ _ (via c.next_significant_char.ensures (mapped_ok _ _ _ c.map_err.ensures.cases c.in_ok-d.was)) (Significant-Found _ _ _ c.in-Found.is (result_ok _ _ _ (via c.read_token.ensures c.in_ok-token-in-Found.was) refl))
