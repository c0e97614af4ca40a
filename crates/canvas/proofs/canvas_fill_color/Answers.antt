use Rattle.base.proofs.Options.{handed_on}
use Rattle.valid.proofs.Judged.{judged_err, judged_ok}
use Rattle.canvas.proofs.CanvasLaws.{canvas_broken, canvas_colored}
use Rattle.std.proofs.Common.{◌∙◌}
use Rattle.canvas.proofs.canvas_fill_color.Goals as goal

pub returns-in_err-judge : goal.returns-in_err-judge
returns-in_err-judge c = let a = c.args in
    let j = judged_err _ _ c.judge.ensures c.in_err-judge.was in
    handed_on _ c.from_residual.ensures
    ∙ canvas_broken a.tables.now.bundle.now a.tables.now.rules.now a.tables.now.selectors.now a.tables.now.tests.now a.tables.now.properties.now a.tables.now.numbers.now a.n
    a.style_type j.0 _ j.1

pub returns-in-Josm : goal.returns-in-Josm
returns-in-Josm c = let a = c.args in
    let j = judged_ok _ _ c.judge.ensures c.in_ok-judge.was in
    canvas_colored a.tables.now.bundle.now a.tables.now.rules.now a.tables.now.selectors.now a.tables.now.tests.now a.tables.now.properties.now a.tables.now.numbers.now a.n
    a.style_type j.0 _ _ c.in-Josm.is c.rules_color.ensures

pub returns-in-MapsMe : goal.returns-in-MapsMe
returns-in-MapsMe c = let a = c.args in
    let j = judged_ok _ _ c.judge.ensures c.in_ok-judge.was in
    canvas_colored a.tables.now.bundle.now a.tables.now.rules.now a.tables.now.selectors.now a.tables.now.tests.now a.tables.now.properties.now a.tables.now.numbers.now a.n
    a.style_type j.0 _ _ c.in-MapsMe.is c.rules_color-in-MapsMe.ensures
