use mathlib.Core.Path.{ap, ap₂, ◌∙◌}
use Rattle.capi.proofs.AnswerLaws.{told_five}
use Rattle.answers.specs.Answers.{told_canvas}
use Rattle.canvas.specs.Canvas.{canvas_of}
use Rattle.capi.proofs.mapcss_canvas_color.Goals as goal

pub returns : goal.returns
returns c = let a = c.args in
    told_five
    (c.told_canvas.ensures
    ∙ ap told_canvas
    (c.canvas_fill_color.ensures
    ∙ ap₂ (λ n t. canvas_of a.bundle.now a.rules.now a.selectors.now a.tests.now a.properties.now a.numbers.now n t)
    c.counts_at.ensures c.type_of.ensures))
    c.tell.ensures.kind c.tell.ensures.stored_words
