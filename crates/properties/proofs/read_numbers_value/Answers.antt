use mathlib.Core.Path.{refl}
use native.Mathlib.Omega.{arith}
use Rattle.properties.specs.Answers.{Values, bad_value, good_value}
use Rattle.properties.proofs.ValueLaws.{after_refused, after_done}
use Rattle.properties.proofs.read_numbers_value.Goals as goal
use Rattle.base.proofs.Options.{handed_on}

pub returns-in_err-d-clause-read : goal.returns-in_err-d-clause-read
returns-in_err-d-clause-read c = rw (handed_on _ c.from_residual.ensures) (λ k h. after_refused (Values _ _ _ _ _) _ (c.read_number_list.ensures.read k h) c.in_err-d.was (λ e τ p. bad_value p))

pub returns-clause-read : goal.returns-clause-read
returns-clause-read c = λ k h. after_done (Values _ _ _ _ _) _ (c.read_number_list.ensures.read k h) c.in_ok-d.was (λ x l. good_value _ _ (omega arith) refl)
