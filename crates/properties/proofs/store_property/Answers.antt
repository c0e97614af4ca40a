use mathlib.Core.Path.{◌∙◌}
use Rattle.base.proofs.Options.{handed_on, or_some, or_none, or_err}
use native.Mathlib.Omega.{arith}
use Rattle.base.specs.Choice.{via_with}
use Rattle.properties.specs.Answers.{Leads, stops, leads}
use Rattle.properties.proofs.ValueLaws.{no_room_property, room_property}
use Rattle.properties.proofs.store_property.Goals as goal

pub returns-in_err-ok_or-clause-read : goal.returns-in_err-ok_or-clause-read
returns-in_err-ok_or-clause-read c = rw (handed_on _ c.from_residual.ensures) (λ bundle x K e. no_room_property (Leads _ _ _ _ _ _) _ c.args.source _ _ _ c.args.c _ _ e (via_with c.keep_property.ensures.kept (or_none c.ok_or.ensures.ok_part c.in_err-ok_or.was)) (stops (or_err _ c.ok_or.ensures.value c.in_err-ok_or.was ∙ c.refuse_reached.ensures)))

pub returns-clause-read : goal.returns-clause-read
returns-clause-read c = λ bundle x K e. room_property (Leads _ _ _ _ _ _) _ c.args.source _ _ _ c.args.c _ _ e (via_with c.keep_property.ensures.kept (or_some c.ok_or.ensures.ok_part c.in_ok-ok_or.was)) (leads x _ (omega arith))
