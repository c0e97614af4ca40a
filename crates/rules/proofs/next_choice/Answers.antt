use mathlib.Core.Path.{refl}
use native.Mathlib.Omega.{arith}
use Rattle.base.specs.Choice.{via}
use Rattle.keep.proofs.Laws.{no_token, got}
use Rattle.rules.specs.Rules.{Chooses, unchosen, next_chosen}
use Rattle.rules.proofs.next_choice.Goals as goal
use Rattle.base.proofs.Options.{handed_on}

pub returns-in_err-t : goal.returns-in_err-t
returns-in_err-t c = rw (handed_on _ c.from_residual.ensures) (λ tables L N σ. no_token (Chooses _ _ _ _ _ _ _) _ _ _ _ _ (via c.read_mandatory_token.ensures c.in_err-t.was) (unchosen refl))

pub returns : goal.returns
returns c = λ tables L N σ. got (Chooses _ _ _ _ _ _ _) _ _ _ _ _ (via c.read_mandatory_token.ensures c.in_ok-t.was) (λ m1. next_chosen σ _ _ _ (omega arith))
