use mathlib.Core.Path.{◌∙◌}
use Rattle.base.proofs.Options.{handed_on, or_some, or_none, or_err}
use Rattle.keep.proofs.Laws.{room_number, no_room_number}
use Rattle.properties.specs.Answers.{Values, bad_value, good_value}
use Rattle.base.specs.Choice.{via_with}
use native.Mathlib.Omega.{arith}
use mathlib.Core.Path.{refl}
use Rattle.properties.proofs.eval.store_delta.Goals as goal

pub returns-in_err-ok_or-clause-read : goal.returns-in_err-ok_or-clause-read
returns-in_err-ok_or-clause-read c = rw (handed_on _ c.from_residual.ensures) (λ bundle. no_room_number (Values _ _ _ _ _) _ c.args.source _ c.args.c _ _ (via_with c.keep_number.ensures.kept (or_none c.ok_or.ensures.ok_part c.in_err-ok_or.was)) (bad_value (or_err _ c.ok_or.ensures.value c.in_err-ok_or.was ∙ c.refuse_reached.ensures)))

pub returns-clause-read : goal.returns-clause-read
returns-clause-read c = λ bundle. room_number (Values _ _ _ _ _) _ c.args.source _ c.args.c _ _ (via_with c.keep_number.ensures.kept (or_some c.ok_or.ensures.ok_part c.in_ok-ok_or.was)) (good_value _ _ (omega arith) refl)
