use Rattle.canvas.proofs.CanvasLaws.{color_named_lem, color_other}
use Rattle.canvas.proofs.color_at.Goals as goal

pub returns-then-same_bytes : goal.returns-then-same_bytes
returns-then-same_bytes c = let a = c.args in
    color_named_lem a.tables.now.bundle.now a.tables.now.properties.now a.tables.now.numbers.now a.name.now a.p _
    c.range_of.ensures _ c.part-named.ensures
    _ c.same_bytes.ensures c.if-same_bytes.true _ _
    c.property_value.ensures c.shade_of.ensures

pub returns : goal.returns
returns c = let a = c.args in
    color_other a.tables.now.bundle.now a.tables.now.properties.now a.tables.now.numbers.now a.name.now a.p _
    c.range_of.ensures _ c.part-named.ensures _ c.same_bytes.ensures c.if-same_bytes.false
