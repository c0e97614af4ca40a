use mathlib.Core.Path.{◌∙◌}
use Rattle.base.proofs.Options.{handed_on, or_some, or_none, or_err}
use native.Mathlib.Omega.{arith}
use Rattle.base.specs.Choice.{via_with}
use Rattle.base.specs.Option.{on_result}
use Rattle.rules.specs.Rules.{Selects, no_selector, one_selector}
use Rattle.rules.proofs.RuleLaws.{no_room_selector, room_selector}
use Rattle.rules.proofs.store_selector.Goals as goal

pub returns-in_err-ok_or-clause-read : goal.returns-in_err-ok_or-clause-read
unfolding on_result
returns-in_err-ok_or-clause-read c = rw (handed_on _ c.from_residual.ensures) (λ bundle σ more h. no_room_selector (Selects _ _ _ _ _) _ c.args.source _ _ _ _ _ c.args.c _ _ h (via_with (rw c.number.ensures at c.keep_selector.ensures.kept) (or_none c.ok_or.ensures.ok_part c.in_err-ok_or.was)) (no_selector (or_err _ c.ok_or.ensures.value c.in_err-ok_or.was ∙ c.refuse_reached.ensures)))

pub returns-clause-read : goal.returns-clause-read
unfolding on_result
returns-clause-read c = λ bundle σ more h. room_selector (Selects _ _ _ _ _) _ c.args.source _ _ _ _ _ c.args.c _ _ h (via_with (rw c.number.ensures at c.keep_selector.ensures.kept) (or_some c.ok_or.ensures.ok_part c.in_ok-ok_or.was)) (one_selector _ _ (omega arith))
