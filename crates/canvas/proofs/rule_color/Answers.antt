use Rattle.canvas.proofs.CanvasLaws.{rule_canvas, rule_other}
use Rattle.canvas.proofs.rule_color.Goals as goal

pub returns-then-any_canvas : goal.returns-then-any_canvas
returns-then-any_canvas c = let a = c.args in
    rule_canvas a.tables.now.bundle.now a.tables.now.rules.now a.tables.now.selectors.now a.tables.now.properties.now a.tables.now.numbers.now a.name.now a.r _
    c.range_of.ensures _ c.any_canvas.ensures c.if-any_canvas.true _ _
    c.range_of-then-any_canvas.ensures c.first_color.ensures

pub returns : goal.returns
returns c = let a = c.args in
    rule_other a.tables.now.bundle.now a.tables.now.rules.now a.tables.now.selectors.now a.tables.now.properties.now a.tables.now.numbers.now a.name.now a.r _
    c.range_of.ensures _ c.any_canvas.ensures c.if-any_canvas.false
