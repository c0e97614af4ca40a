use Rattle.walk.proofs.WalkLaws.{zeroed, maps_broken, maps_bad, maps_walked}
use lib.ListN.{length}
use native.Mathlib.Omega.{arith}
use Rattle.std.proofs.Common.{ap, sym, ◌∙◌}
use Rattle.std.specs.Prelude.{ℕ, Result}
use Rattle.base.specs.declared.refusal.Refusal.{Refusal}
use Rattle.base.proofs.Options.{handed_on}
use Rattle.walk.proofs.property_maps.Goals as goal

pub returns-in_err-judge : goal.returns-in_err-judge
returns-in_err-judge c = let a = c.args in record {
  maps_after = maps_broken a.tables.now.bundle.now a.tables.now.rules.now a.tables.now.selectors.now a.tables.now.tests.now a.tables.now.properties.now
      a.tables.now.numbers.now a.n a.zoom a.entity.now _ c.judge.ensures _ _
      (zeroed (length a.maps.now) _ (c.fill.ensures.after (λ y e. e)) (omega arith)) _ c.in_err-judge.was (handed_on _ c.from_residual.ensures);
  few = rw (handed_on _ c.from_residual.ensures) tt;
}

pub returns-in_err-range : goal.returns-in_err-range
returns-in_err-range c = let a = c.args in record {
  maps_after = maps_bad a.tables.now.bundle.now a.tables.now.rules.now a.tables.now.selectors.now a.tables.now.tests.now a.tables.now.properties.now
      a.tables.now.numbers.now a.n a.zoom a.entity.now _ c.judge.ensures _ _ _ c.in_ok-judge.was _ c.single_entity.ensures
      (zeroed (length a.maps.now) _ (c.fill.ensures.after (λ y e. e)) (omega arith)) _ c.in_err-range.was
      (handed_on _ c.from_residual-in_err-range.ensures);
  few = rw (handed_on _ c.from_residual-in_err-range.ensures) tt;
}

pub walk_cleared-requires : goal.walk_cleared-requires
walk_cleared-requires c = zeroed (length c.args.maps.now) _ (c.fill.ensures.after (λ y e. e)) (omega arith)

pub returns-in_err-m : goal.returns-in_err-m
returns-in_err-m c = let a = c.args in record {
  maps_after = maps_walked a.tables.now.bundle.now a.tables.now.rules.now a.tables.now.selectors.now a.tables.now.tests.now a.tables.now.properties.now
      a.tables.now.numbers.now a.n a.zoom a.entity.now _ c.judge.ensures _ _ _ c.in_ok-judge.was _ c.single_entity.ensures _ c.in_ok-range.was
      (ap (λ (r : Result ℕ Refusal). (r, c.walk_cleared.new.maps)) (handed_on _ c.from_residual-in_err-m.ensures ∙ sym c.in_err-m.was) ∙ c.walk_cleared.ensures);
  few = rw (handed_on _ c.from_residual-in_err-m.ensures) tt;
}

pub returns : goal.returns
returns c = let a = c.args in record {
  maps_after = maps_walked a.tables.now.bundle.now a.tables.now.rules.now a.tables.now.selectors.now a.tables.now.tests.now a.tables.now.properties.now
      a.tables.now.numbers.now a.n a.zoom a.entity.now _ c.judge.ensures _ _ _ c.in_ok-judge.was _ c.single_entity.ensures _ c.in_ok-range.was
      (rw c.m.view_is (ap (λ (r : Result ℕ Refusal). (r, c.walk_cleared.new.maps)) (sym c.in_ok-m.was) ∙ c.walk_cleared.ensures));
  few = c.m.invariant;
}
