use Rattle.tag_number.proofs.Saturate.{layer_none, layer_some}
use Rattle.tag_number.proofs.layer_tag.Goals as goal

pub returns-then-is_whole_text : goal.returns-then-is_whole_text
returns-then-is_whole_text c = layer_some
    c.args.v.now _
    c.split_sign-minus.ensures.rest _
    c.is_whole_text.ensures _ _ _ c.if-is_whole_text.true
    c.split_sign-minus.ensures.minus c.spell.ensures c.layer_of.ensures

pub returns : goal.returns
returns c = layer_none c.args.v.now _ c.split_sign-minus.ensures.rest _
    c.is_whole_text.ensures c.if-is_whole_text.false
