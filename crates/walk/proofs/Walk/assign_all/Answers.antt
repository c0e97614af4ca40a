use native.Mathlib.Omega.{arith}
use mathlib.Core.Path.{refl, sym, ◌∙◌, ap}
use Rattle.base.proofs.Options.{handed_on}
use Rattle.walk.specs.Rows.{numbers_in}
use Rattle.walk.specs.Run.{assign_at, assign_all, going}
use Rattle.walk.specs.Walking.{names}
use Rattle.walk.specs.declared.Walk.{Walk}
use Rattle.std.proofs.Math.Nat.{sub-zero}
use Rattle.walk.proofs.LayerLaws.{all_end, all_stop, all_next, told_stop}
use Rattle.walk.proofs.WalkLaws.{as_given}
use Rattle.walk.proofs.Walk.assign_all.Goals as goal

pub loop-i-init : goal.loop-i-init
loop-i-init c = let w = c.args.self.now in
    (ap (λ k. assign_all (names w) w.rows.now w.count 0 k (numbers_in c.args.ps)) (sub-zero w.count), (refl, refl))

pub returns-in_err-assign : goal.returns-in_err-assign
returns-in_err-assign c =
    let loop = c.loop-i in
    let w = c.args.self.now in
    record {
      all = told_stop _ _ _ _ _ refl (handed_on _ c.from_residual.ensures)
          ∙ sym
          (all_stop _ loop.self.rows.now w.count loop.i _ (omega (arith, ap (λ (w : Walk). w.count) c.self.view_is)) _ _ _
          (c.assign.ensures.assign ∙ ap (λ m. assign_at (names loop.self) loop.self.rows.now m loop.i (numbers_in c.args.ps)) loop.invariant.1.0
          ∙ as_given (λ N L V R. assign_at N loop.self.rows.now w.count loop.i (numbers_in c.args.ps)) loop.self w loop.invariant.1.1)
          _ c.in_err-assign.was)
          ∙ loop.invariant.0;
      same = c.assign.ensures.same ∙ loop.invariant.1.1;
    }

pub loop-i-preserved : goal.loop-i-preserved
loop-i-preserved c =
    let loop = c.loop-i in
    let w = c.args.self.now in (
      sym
          (all_next _ loop.self.rows.now w.count loop.i _ (omega (arith, ap (λ (w : Walk). w.count) c.self.view_is)) _ _ _
          (c.assign.ensures.assign ∙ ap (λ m. assign_at (names loop.self) loop.self.rows.now m loop.i (numbers_in c.args.ps)) loop.invariant.1.0
          ∙ as_given (λ N L V R. assign_at N loop.self.rows.now w.count loop.i (numbers_in c.args.ps)) loop.self w loop.invariant.1.1)
          _ c.in_ok-assign.was)
          ∙ loop.invariant.0,
      (c.assign.ensures.count ∙ loop.invariant.1.0, c.assign.ensures.same ∙ loop.invariant.1.1),
    )

pub returns : goal.returns
returns c =
    let loop = c.loop-i in
    let w = c.args.self.now in
    record {
      all = ap (λ m. going m loop.self.rows.now) loop.invariant.1.0 ∙ sym (all_end _ loop.self.rows.now w.count loop.i _ (omega (arith, ap (λ (w : Walk). w.count) c.self.view_is))) ∙ loop.invariant.0;
      same = loop.invariant.1.1;
    }
