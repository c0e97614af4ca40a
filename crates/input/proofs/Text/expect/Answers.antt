use Rattle.input.specs.Text.{expected_of}
use Rattle.input.proofs.TokenLaws.{cond_true, cond_false}
use Rattle.base.specs.Choice.{via}
use Rattle.base.specs.Option.{result_err, result_ok}
use Rattle.base.proofs.Options.{handed_on}
use Rattle.std.proofs.Common.{◌∙◌}
use Rattle.std.specs.Prelude.{Err}
use mathlib.Core.Path.{refl, ap, sym}
use Rattle.input.proofs.Text.expect.Goals as goal

pub returns-in_err-u : goal.returns-in_err-u
unfolding expected_of
returns-in_err-u c = handed_on _ c.from_residual.ensures ∙ result_err _ _ _ (via c.read_mandatory_token.ensures c.in_err-u.was) refl

pub returns-then-eq : goal.returns-then-eq
unfolding expected_of
returns-then-eq c = result_ok _ _ _ (via c.read_mandatory_token.ensures c.in_ok-u.was) (cond_true _ _ _ (sym c.eq.ensures ∙ c.if-eq.true) refl)

pub returns : goal.returns
unfolding expected_of
returns c = result_ok _ _ _ (via c.read_mandatory_token.ensures c.in_ok-u.was) (cond_false _ _ _ (sym c.eq.ensures ∙ c.if-eq.false) (ap Err c.refuse.ensures))
