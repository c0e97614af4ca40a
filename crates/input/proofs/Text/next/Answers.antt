use Rattle.input.proofs.Placing.{next_fits, took_same}
use Rattle.input.specs.Text.{text_of, next_of}
use Rattle.token.specs.Step.{step_of}
use Rattle.token.specs.Elim.{Step-End, Step-Took}
use Rattle.base.proofs.Options.{handed_on, ok_is}
use Rattle.base.specs.Choice.{via}
use Rattle.base.specs.Option.{result_err, result_ok}
use native.Mathlib.Omega.{arith}
use mathlib.Core.Path.{refl, ap, ◌∙◌}
use Rattle.input.proofs.Text.next.Goals as goal

pub returns-in_err-d : goal.returns-in_err-d
unfolding text_of next_of
returns-in_err-d c = result_err _ _ _ (via (c.next_token.ensures ∙ ap (λ s. step_of s c.args.c) c.part.ensures) c.in_err-d.was) (handed_on _ c.from_residual.ensures)

pub placed-requires : goal.placed-requires
placed-requires c = next_fits c.args.self.bundle.now _ _ _ _ _ _ (omega arith) (via (c.next_token.ensures ∙ ap (λ s. step_of s c.args.c) c.part.ensures) (ok_is c.in_ok-d.was c.in-Took.is))

pub returns-in-End : goal.returns-in-End
unfolding text_of next_of
returns-in-End c = result_ok _ _ _ (via (c.next_token.ensures ∙ ap (λ s. step_of s c.args.c) c.part.ensures) c.in_ok-d.was) (Step-End _ _ _ c.in-End.is refl)

pub returns-in-Took : goal.returns-in-Took
unfolding text_of next_of
returns-in-Took c = result_ok _ _ _ (via (c.next_token.ensures ∙ ap (λ s. step_of s c.args.c) c.part.ensures) c.in_ok-d.was) (Step-Took _ _ _ c.in-Took.is (took_same _ _ _ c.placed.ensures))
