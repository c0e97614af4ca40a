use mathlib.Core.Path.{◌∙◌, refl}
use Rattle.base.proofs.Options.{handed_on, or_some, or_none, or_err}
use Rattle.base.specs.Choice.{via}
use Rattle.properties.specs.Answers.{Values, bad_value}
use Rattle.properties.proofs.ValueLaws.{no_reference, reference}
use Rattle.grammar.specs.Reading.{colored}
use Rattle.properties.proofs.read_reference.Goals as goal

pub returns-in_err-i : goal.returns-in_err-i
returns-in_err-i c = rw (handed_on _ c.from_residual.ensures) (λ τ. no_reference c.args.text.bundle.now c.args.store.now.colors.now c.args.name (Values _ _ _ _ _) _ _ _ (via c.find_color.ensures (or_none c.ok_or.ensures.ok_part c.in_err-i.was)) (bad_value (or_err _ c.ok_or.ensures.value c.in_err-i.was ∙ c.refuse_reached.ensures)))

pub returns : goal.returns
returns c = λ τ. reference c.args.text.bundle.now c.args.store.now.colors.now c.args.name (Values _ _ _ _ _) _ _ _ (via c.find_color.ensures (or_some c.ok_or.ensures.ok_part c.in_ok-i.was)) c.color_at.ensures (c.end_value.ensures τ (colored _) refl)
