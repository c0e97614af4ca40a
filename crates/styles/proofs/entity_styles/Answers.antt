use Rattle.base.proofs.Options.{handed_on}
use Rattle.valid.proofs.Judged.{judged_err, judged_ok}
use Rattle.styles.proofs.StylesLaws.{styles_broken, styles_bad, styles_walked}
use Rattle.std.proofs.Common.{◌∙◌}
use Rattle.styles.proofs.entity_styles.Goals as goal

pub returns-in_err-judge : goal.returns-in_err-judge
returns-in_err-judge c = let a = c.args in
    let j = judged_err _ _ c.judge.ensures c.in_err-judge.was in
    handed_on _ c.from_residual.ensures
    ∙ styles_broken a.tables.now.bundle.now a.tables.now.rules.now a.tables.now.selectors.now a.tables.now.tests.now a.tables.now.properties.now a.tables.now.numbers.now a.n
    a.zoom a.settings a.entity.now j.0 _ j.1

pub returns-in_err-range : goal.returns-in_err-range
returns-in_err-range c = let a = c.args in
    let j = judged_ok _ _ c.judge.ensures c.in_ok-judge.was in
    handed_on _ c.from_residual-in_err-range.ensures
    ∙ styles_bad a.tables.now.bundle.now a.tables.now.rules.now a.tables.now.selectors.now a.tables.now.tests.now a.tables.now.properties.now a.tables.now.numbers.now a.n
    a.zoom a.settings a.entity.now j.0 _
    c.single_entity.ensures _
    c.in_err-range.was

pub returns : goal.returns
returns c = let a = c.args in
    let j = judged_ok _ _ c.judge.ensures c.in_ok-judge.was in
    styles_walked a.tables.now.bundle.now a.tables.now.rules.now a.tables.now.selectors.now a.tables.now.tests.now a.tables.now.properties.now a.tables.now.numbers.now a.n
    a.zoom a.settings a.entity.now j.0 _
    c.single_entity.ensures _
    c.in_ok-range.was _ c.walked_styles.ensures
