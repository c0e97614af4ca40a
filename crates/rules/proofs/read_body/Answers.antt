use native.Mathlib.Omega.{arith}
use Rattle.keep.proofs.Laws.{widen}
use Rattle.keep.specs.Answers.{Reads, refuses}
use Rattle.properties.proofs.ValueLaws.{after_refused, after_done}
use Rattle.rules.proofs.read_body.Goals as goal
use Rattle.base.proofs.Options.{handed_on}

pub returns-in_err-d-clause-read : goal.returns-in_err-d-clause-read
returns-in_err-d-clause-read c = rw (handed_on _ c.from_residual.ensures) (λ k ss h. after_refused (Reads _ _ _ _ _) _ (c.read_properties.ensures.read k h) c.in_err-d.was (λ e τ p. refuses p))

pub returns-clause-read : goal.returns-clause-read
returns-clause-read c = λ k ss h. after_done (Reads _ _ _ _ _) _ (c.read_properties.ensures.read k h) c.in_ok-d.was (λ x l. widen (omega arith) (c.store_rule.ensures.read c.args.text.bundle.now ss x))
