-- The tag `layer`, absent or there.
use Rattle.std.proofs.Common.{◌∙◌}
use Rattle.styles.proofs.StylesLaws.{layer_absent, layer_there}
use Rattle.styles.proofs.parts.tag_layer.Goals as goal

pub returns-in_err-v : goal.returns-in_err-v
returns-in_err-v c = c.from_residual.ensures ∙ layer_absent c.args.entity.bytes.now c.args.entity.range _ c.get_by_key.ensures c.in_err-v.was

pub returns : goal.returns
returns c = layer_there c.args.entity.bytes.now c.args.entity.range _ c.get_by_key.ensures _ c.in_ok-v.was _ c.part.ensures _ c.layer_tag.ensures
