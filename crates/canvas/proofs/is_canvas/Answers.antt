use mathlib.Core.Path.{◌∙◌, ap}
use Rattle.table.specs.Kind.{object_kind}
use Rattle.canvas.proofs.CanvasLaws.{canvas_there, canvas_other}
use Rattle.canvas.proofs.is_canvas.Goals as goal

pub returns-in-Canvas : goal.returns-in-Canvas
returns-in-Canvas c = canvas_there _ _ (c.of.ensures ∙ ap object_kind c.word_of.ensures) c.in-Canvas.is

pub returns-in_default : goal.returns-in_default
returns-in_default c = canvas_other _ _ (c.of.ensures ∙ ap object_kind c.word_of.ensures) c.in_default.not-Canvas
