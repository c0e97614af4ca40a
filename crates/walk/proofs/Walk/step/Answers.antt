use native.Mathlib.Omega.{arith}
use mathlib.Core.Path.{refl, ◌∙◌, ap}
use Rattle.walk.specs.Rows.{numbers_in}
use Rattle.walk.proofs.LayerLaws.{step_found, step_made, step_full}
use Rattle.walk.proofs.RowLaws.{below_some, below_out}
use Rattle.walk.proofs.WalkLaws.{as_given}
use Rattle.walk.specs.Run.{touch_of}
use Rattle.walk.specs.Walking.{names, layers}
use Rattle.walk.proofs.Walk.step.Goals as goal

pub returns-in-Some-clause-step : goal.returns-in-Some-clause-step
returns-in-Some-clause-step c = let w = c.args.self.now in
    let b = below_some _ _ _ _ c.find.ensures c.in-Some.is in
    step_found _ _ w.rows.now w.count _ c.args.s _ b.0 _ b.1 c.touch.ensures.touch

pub returns-then-n-lt32-clause-step : goal.returns-then-n-lt32-clause-step
returns-then-n-lt32-clause-step c = let w = c.args.self.now in
    let made = c.make.new.self in
    step_made _ _ w.rows.now w.count _ c.args.s (numbers_in c.args.ps)
    refl _ (below_out _ _ _ c.find.ensures c.in_default.is) (omega arith) _ c.make.ensures.row
    (c.touch-then-n-lt32.ensures.touch
    ∙ as_given (λ N L V R. touch_of N L made.rows.now made.count w.count c.args.s (numbers_in c.args.ps)) made w c.make.ensures.same
    ∙ ap (λ n. touch_of (names w) (layers w) made.rows.now n w.count c.args.s (numbers_in c.args.ps)) c.make.ensures.count)

pub returns-clause-step : goal.returns-clause-step
returns-clause-step c = let w = c.args.self.now in
    step_full _ _ w.rows.now w.count _ c.args.s (numbers_in c.args.ps)
    refl _ (below_out _ _ _ c.find.ensures c.in_default.is) (omega arith) refl
