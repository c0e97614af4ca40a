use mathlib.Core.Path.{refl}
use native.Mathlib.Omega.{arith}
use Rattle.base.specs.Choice.{via}
use Rattle.keep.proofs.Laws.{no_word, a_word}
use Rattle.properties.specs.Answers.{Values, bad_value}
use Rattle.properties.proofs.ValueLaws.{widen_value}
use Rattle.properties.proofs.read_joined_value.Goals as goal
use Rattle.base.proofs.Options.{handed_on}

pub returns-in_err-b : goal.returns-in_err-b
returns-in_err-b c = rw (handed_on _ c.from_residual.ensures) (λ τ. no_word (Values _ _ _ _ _) _ _ _ _ _ (via c.read_identifier.ensures c.in_err-b.was) (bad_value refl))

pub returns : goal.returns
returns c = λ τ. a_word (Values _ _ _ _ _) _ _ _ _ _ (via c.read_identifier.ensures c.in_ok-b.was) (λ m1. widen_value (omega arith) (c.end_value.ensures τ _ refl))
