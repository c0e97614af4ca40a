use mathlib.Core.Path.{◌∙◌, ap}
use Rattle.std.proofs.Math.Nat.{sub-zero}
use Rattle.decode.specs.Decode.{places}
use Rattle.canvas.specs.Canvas.{or_color, rules_color}
use Rattle.canvas.proofs.CanvasLaws.{rules_end, rules_step}
use Rattle.canvas.proofs.rules_color.Goals as goal

pub loop-r-init : goal.loop-r-init
loop-r-init c = let a = c.args in
    ap
    (λ n. rules_color a.tables.now.bundle.now a.tables.now.rules.now a.tables.now.selectors.now a.tables.now.properties.now a.tables.now.numbers.now a.name.now (places 0 n))
    (sub-zero a.total)

pub loop-r-preserved : goal.loop-r-preserved
unfolding or_color
loop-r-preserved c = let a = c.args in
    rules_step a.tables.now.bundle.now a.tables.now.rules.now a.tables.now.selectors.now a.tables.now.properties.now a.tables.now.numbers.now a.name.now a.total
    c.loop-r.r c.loop-r-test.true _ _
    c.rule_color.ensures c.in_default.is
    ∙ c.loop-r.invariant

pub returns-in-Some : goal.returns-in-Some
unfolding or_color
returns-in-Some c = let a = c.args in
    rules_step a.tables.now.bundle.now a.tables.now.rules.now a.tables.now.selectors.now a.tables.now.properties.now a.tables.now.numbers.now a.name.now a.total
    c.loop-r.r c.loop-r-test.true _ _
    c.rule_color.ensures c.in-Some.is
    ∙ c.loop-r.invariant

pub returns : goal.returns
returns c = let a = c.args in
    rules_end a.tables.now.bundle.now a.tables.now.rules.now a.tables.now.selectors.now a.tables.now.properties.now a.tables.now.numbers.now a.name.now a.total
    c.loop-r.r c.loop-r-test.false
    ∙ c.loop-r.invariant
