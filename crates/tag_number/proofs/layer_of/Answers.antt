use Rattle.tag_number.proofs.Layers.{layer_down, layer_tried}
use Rattle.tag_number.proofs.layer_of.Goals as goal

pub returns-then-minus : goal.returns-then-minus
returns-then-minus c = layer_down c.args.n c.args.minus _ c.if-minus.true c.checked_sub_unsigned.ensures

pub returns : goal.returns
returns c = layer_tried c.args.n c.args.minus c.try_from.result _ c.if-minus.false c.try_from.ensures c.ok.ensures.value
