use mathlib.Core.Path.{refl}
use native.Mathlib.Omega.{arith}
use Rattle.base.specs.Choice.{via}
use Rattle.keep.proofs.Laws.{no_word, a_word}
use Rattle.rules.specs.Rules.{Parts, bad_part, is_layer}
use Rattle.rules.proofs.read_layer.Goals as goal
use Rattle.base.proofs.Options.{handed_on}

pub returns-in_err-a : goal.returns-in_err-a
returns-in_err-a c = rw (handed_on _ c.from_residual.ensures) (λ τ w. no_word (Parts _ _ _ _ _) _ _ _ _ _ (via c.read_identifier.ensures c.in_err-a.was) (bad_part refl))

pub returns : goal.returns
returns c = λ τ w. a_word (Parts _ _ _ _ _) _ _ _ _ _ (via c.read_identifier.ensures c.in_ok-a.was) (λ m1. is_layer _ _ (omega arith))
