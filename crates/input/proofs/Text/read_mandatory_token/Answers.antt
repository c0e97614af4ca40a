use Rattle.input.specs.Text.{mandatory_of, error_at}
use Rattle.token.specs.Elim.{Step-End, Step-Took}
use Rattle.base.specs.Choice.{via}
use Rattle.base.specs.Option.{result_err, result_ok}
use Rattle.std.proofs.Common.{rules}
use mathlib.Core.Path.{refl, ap, ◌∙◌}
use Rattle.base.proofs.Options.{handed_on, mapped_ok, mapped_err}
use Rattle.input.proofs.Text.read_mandatory_token.Goals as goal
use Rattle.std.specs.Prelude.{Err}

pub returns-in_err-d : goal.returns-in_err-d
unfolding mandatory_of
returns-in_err-d c =
    let m = mapped_err c.next.result c.map_err.result _ (error_at c.args.self.source) (λ d e p. search rules) c.map_err.ensures.cases c.in_err-d.was in
    handed_on _ c.from_residual.ensures ∙ result_err _ _ _ (via c.next.ensures m.1.0) (ap Err m.1.1)

pub returns-in-End : goal.returns-in-End
unfolding mandatory_of
returns-in-End c = result_ok _ _ _ (via c.next.ensures (mapped_ok _ _ _ c.map_err.ensures.cases c.in_ok-d.was)) (Step-End _ _ _ c.in-End.is (ap Err c.refuse_reached.ensures))

pub returns-in-Took : goal.returns-in-Took
unfolding mandatory_of
returns-in-Took c = result_ok _ _ _ (via c.next.ensures (mapped_ok _ _ _ c.map_err.ensures.cases c.in_ok-d.was)) (Step-Took _ _ _ c.in-Took.is refl)
