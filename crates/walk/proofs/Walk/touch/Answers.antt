use Rattle.walk.proofs.LayerLaws.{touch_all, touch_one}
use Rattle.walk.proofs.Walk.touch.Goals as goal

pub returns-then-is_layer-clause-touch : goal.returns-then-is_layer-clause-touch
returns-then-is_layer-clause-touch c = let w = c.args.self.now in
    touch_all _ _ w.rows.now w.count c.args.j c.args.s _ _ c.is_layer.ensures _ c.if-is_layer.true c.assign_all.ensures.all

pub returns-clause-touch : goal.returns-clause-touch
returns-clause-touch c = let w = c.args.self.now in
    touch_one _ _ w.rows.now w.count c.args.j c.args.s _ _ c.is_layer.ensures _ c.if-is_layer.false c.assign.ensures.assign
