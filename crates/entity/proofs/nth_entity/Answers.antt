-- The loop of nth_entity passes one entity a turn, and the last one is answered.
use Prim.Native.Nat.{ℕ, ◌-◌}
use native.Mathlib.Omega.{arith}
use mathlib.Core.Path.{◌∙◌, ap}
use Rattle.base.specs.Choice.{via}
use Rattle.entity.specs.Layout.{nth_from}
use Rattle.entity.proofs.Nth.{nth_none, nth_here, nth_later}
use Rattle.group.proofs.Runs.{less_one}
use Rattle.entity.proofs.nth_entity.Goals as goal

pub returns-in_err-e : goal.returns-in_err-e
returns-in_err-e c = c.from_residual.ensures ∙ nth_none c.args.sort c.args.s.now c.loop.at (c.args.k - c.loop.counter) (via c.entity_at.ensures c.in_err-e.was) ∙ c.loop.invariant

pub loop-preserved : goal.loop-preserved
loop-preserved c =
    ap (λ (n : ℕ). nth_from n c.args.sort c.args.s.now c.in_ok-e.e.end) (less_one c.args.k c.loop.counter)
    ∙ nth_later c.args.sort c.args.s.now c.loop.at (c.args.k - c.loop.counter) _ (via c.entity_at.ensures c.in_ok-e.was) (λ z. omega arith)
    ∙ c.loop.invariant

pub returns-in_err-e-2 : goal.returns-in_err-e-2
returns-in_err-e-2 c = c.from_residual-in_err-e-2.ensures ∙ nth_none c.args.sort c.args.s.now c.loop.at (c.args.k - c.loop.counter) (via c.entity_at-2.ensures c.in_err-e-2.was) ∙ c.loop.invariant

pub returns : goal.returns
returns c = nth_here c.args.sort c.args.s.now c.loop.at (c.args.k - c.loop.counter) _ (via c.entity_at-2.ensures c.in_ok-e-2.was) (omega arith) ∙ c.loop.invariant
