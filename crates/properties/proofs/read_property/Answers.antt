use Rattle.std.proofs.Common.{◌∙◌}
use Rattle.input.proofs.TokenLaws.{colon_expected}
use mathlib.Core.Path.{refl}
use native.Mathlib.Omega.{arith}
use Rattle.base.specs.Choice.{via}
use Rattle.keep.proofs.Laws.{another, beyond}
use Rattle.properties.specs.Answers.{Leads, stops}
use Rattle.properties.proofs.ValueLaws.{after_bad, after_good, widen_leads}
use Rattle.properties.proofs.read_property.Goals as goal
use Rattle.base.proofs.Options.{handed_on}

pub returns-in_err-d-clause-read : goal.returns-in_err-d-clause-read
returns-in_err-d-clause-read c = rw (handed_on _ c.from_residual.ensures) (λ k K h. another (Leads _ _ _ _ _ _) _ _ _ _ _ _ (via (c.expect.ensures ∙ colon_expected _ _ _) c.in_err-d.was) (stops refl))

pub returns-in_err-value-clause-read : goal.returns-in_err-value-clause-read
returns-in_err-value-clause-read c = rw (handed_on _ c.from_residual-in_err-value.ensures) (λ k K h. beyond (Leads _ _ _ _ _ _) _ _ _ _ _ _ (via (c.expect.ensures ∙ colon_expected _ _ _) c.in_ok-d.was) (λ m1. after_bad (Leads _ _ _ _ _ _) _ (c.read_property_value.ensures.read k (omega arith)) c.in_err-value.was (λ e τ p. stops p)))

pub returns-clause-read : goal.returns-clause-read
returns-clause-read c = λ k K h. beyond (Leads _ _ _ _ _ _) _ _ _ _ _ _ (via (c.expect.ensures ∙ colon_expected _ _ _) c.in_ok-d.was) (λ m1. after_good (Leads _ _ _ _ _ _) _ (c.read_property_value.ensures.read k (omega arith)) c.in_ok-value.was (λ x l w. widen_leads (omega arith) (c.store_property.ensures.read c.args.text.bundle.now x K w)))
