use mathlib.Core.Path.{refl, ap, ◌∙◌}
use Rattle.std.specs.Prelude.{Err}
use Rattle.std.proofs.Common.{rules}
use Rattle.base.proofs.Options.{handed_on, mapped_ok, mapped_err, ok_is}
use Rattle.walk.specs.Run.{told}
use Rattle.walk.proofs.WalkLaws.{hit}
use Rattle.walk.proofs.Walk.visit.Goals as goal

pub returns-in_err-map_err-clause-hit : goal.returns-in_err-map_err-clause-hit
returns-in_err-map_err-clause-hit c = let w = c.args.self.now in
    let m = mapped_err c.matches-fits.result c.map_err.result _ (λ _. 8) (λ d e p. search rules) c.map_err.ensures.cases c.in_err-map_err.was in
    hit _ _ _ _ _ _ _ _ c.matches-fits.ensures _ _ m.1.0 (ap (λ r. told r w.count w.rows.now) (handed_on _ c.from_residual.ensures ∙ ap Err m.1.1))

pub returns-then-not-branch-clause-hit : goal.returns-then-not-branch-clause-hit
returns-then-not-branch-clause-hit c =
    hit _ _ _ _ _ _ _ _ c.matches-fits.ensures _ _ (ok_is (mapped_ok _ _ _ c.map_err.ensures.cases c.in_ok-map_err.was) c.if-not-branch.true) refl

pub returns-clause-hit : goal.returns-clause-hit
returns-clause-hit c =
    hit _ _ _ _ _ _ _ _ c.matches-fits.ensures _ _ (ok_is (mapped_ok _ _ _ c.map_err.ensures.cases c.in_ok-map_err.was) c.if-not-branch.false) c.step.ensures.step
