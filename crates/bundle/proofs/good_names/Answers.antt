-- The loop of good_names, by what stands at each place.
use Rattle.std.proofs.Common.{◌∙◌, ap, map}
use Rattle.group.specs.Pair.{named}
use Rattle.bundle.proofs.Names.{good_end, good_not, good_next}
use Rattle.bundle.proofs.good_names.Goals as goal

pub returns-then-not-good_name : goal.returns-then-not-good_name
returns-then-not-good_name c = good_not _ _ _ (ap (map (named c.args.s.now)) c.in-Some.ensures.steps) _ _ c.part.ensures c.good_name.ensures c.if-not-good_name.true ∙ c.loop-a.invariant.1

pub loop-a-preserved : goal.loop-a-preserved
loop-a-preserved c = ((tt, tt), good_next _ _ _ (ap (map (named c.args.s.now)) c.in-Some.ensures.steps) _ _ c.part.ensures c.good_name.ensures c.if-not-good_name.false ∙ c.loop-a.invariant.1)

pub returns : goal.returns
returns c = good_end _ (ap (map (named c.args.s.now)) c.in_default.ensures.steps.0) ∙ c.loop-a.invariant.1
