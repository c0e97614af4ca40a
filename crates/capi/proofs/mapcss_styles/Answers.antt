use mathlib.Core.Path.{ap₂, ◌∙◌}
use Rattle.capi.proofs.AnswerLaws.{styles_told}
use Rattle.styles.specs.Styles.{styles_of}
use Rattle.capi.proofs.mapcss_styles.Goals as goal

pub returns : goal.returns
returns c = let a = c.args in
    let t = c.store_layers.ensures in
    styles_told
    (c.entity_styles-x.ensures
    ∙ ap₂
    (λ n s.
    styles_of a.bundle.now a.rules.now a.selectors.now a.tests.now a.properties.now
    a.numbers.now n a.zoom s a.entity.now)
    c.counts_at.ensures c.settings_of.ensures)
    c.styled_layers.ensures.layers
    c.styled_layers.ensures.few
    t.words_after
    t.floats_after
    t.layers_after
    c.told_styles.ensures
    c.tell.ensures.kind c.tell.ensures.stored_words
