use mathlib.Core.Path.{◌∙◌}
use Rattle.canvas.specs.Canvas.{or_color}
use Rattle.canvas.proofs.CanvasLaws.{colors_end, colors_step}
use Rattle.canvas.proofs.first_color.Goals as goal

pub loop-p-preserved : goal.loop-p-preserved
unfolding or_color
loop-p-preserved c = let a = c.args in
    colors_step a.tables.now.bundle.now a.tables.now.properties.now a.tables.now.numbers.now a.name.now a.range.to c.loop-p.p
    c.loop-p-test.true _ c.color_at.ensures _ c.in_default.is
    ∙ c.loop-p.invariant

pub returns-in-Some : goal.returns-in-Some
unfolding or_color
returns-in-Some c = let a = c.args in
    colors_step a.tables.now.bundle.now a.tables.now.properties.now a.tables.now.numbers.now a.name.now a.range.to
    c.loop-p.p
    c.loop-p-test.true _ c.color_at.ensures _ c.in-Some.is
    ∙ c.loop-p.invariant

pub returns : goal.returns
returns c = let a = c.args in
    colors_end a.tables.now.bundle.now a.tables.now.properties.now a.tables.now.numbers.now a.name.now a.range.to c.loop-p.p c.loop-p-test.false
    ∙ c.loop-p.invariant
