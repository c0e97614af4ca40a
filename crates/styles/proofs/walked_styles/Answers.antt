use mathlib.Core.Path.{◌∙◌}
use Rattle.base.proofs.Options.{handed_on}
use Rattle.styles.proofs.StylesLaws.{walked_refused, walked_filled}
use Rattle.styles.proofs.walked_styles.Goals as goal

pub returns-in_err-m : goal.returns-in_err-m
returns-in_err-m c = let a = c.args in
    handed_on _ c.from_residual.ensures
    ∙ walked_refused a.tables.now.bundle.now a.tables.now.rules.now a.tables.now.selectors.now a.tables.now.tests.now a.tables.now.properties.now a.tables.now.numbers.now a.total
    a.zoom a.settings a.entity.bytes.now a.entity.range _ _
    c.walk_entity.ensures _ c.in_err-m.was

pub returns : goal.returns
returns c = let a = c.args in
    walked_filled a.tables.now.bundle.now a.tables.now.rules.now a.tables.now.selectors.now a.tables.now.tests.now a.tables.now.properties.now a.tables.now.numbers.now a.total
    a.zoom a.settings a.entity.bytes.now a.entity.range _ _
    c.walk_entity.ensures _
    c.in_ok-m.was _ c.tag_layer.ensures _
    c.filled_layers.ensures
