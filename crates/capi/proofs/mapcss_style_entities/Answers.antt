use mathlib.Core.Path.{ap₂, ◌∙◌}
use lib.ListN.{length}
use Rattle.capi.proofs.AnswerLaws.{list_told}
use Rattle.drawing.specs.Lists.{nodes_of}
use Rattle.capi.proofs.mapcss_style_entities.Goals as goal

pub returns : goal.returns
returns c = let a = c.args in
    list_told
    (c.style_entities.ensures
    ∙ ap₂
    (λ n s.
    nodes_of a.bundle.now a.rules.now a.selectors.now a.tests.now a.properties.now
    a.numbers.now n a.zoom s (length a.list.now) a.nodes.now)
    c.counts_at.ensures c.settings_of.ensures)
    c.told_count.ensures
    c.tell.ensures.kind c.tell.ensures.stored_words
