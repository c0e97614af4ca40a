use native.Mathlib.Omega.{arith}
use Rattle.keep.proofs.Laws.{yes_way, no_way}
use Rattle.rules.specs.Rules.{Chooses, unchosen, last_chosen}
use Rattle.rules.proofs.RuleLaws.{after_unselected, after_selected, widen_choice}
use Rattle.rules.proofs.read_choice.Goals as goal
use Rattle.base.proofs.Options.{handed_on}

pub returns-then-more-clause-read : goal.returns-then-more-clause-read
returns-then-more-clause-read c = λ k y L N e h. after_selected (Chooses _ _ _ _ _ _ _) _ (c.read_selector.ensures.read k y e h) c.in_ok-more.was (λ σ l. yes_way (Chooses _ _ _ _ _ _ _) _ _ _ c.if-more.true (widen_choice (omega arith) (c.next_choice.ensures _ L N σ)))

pub returns-in_err-more-clause-read : goal.returns-in_err-more-clause-read
returns-in_err-more-clause-read c = rw (handed_on _ c.from_residual.ensures) (λ k y L N e h. after_unselected (Chooses _ _ _ _ _ _ _) _ (c.read_selector.ensures.read k y e h) c.in_err-more.was (λ e τ p. unchosen p))

pub returns-clause-read : goal.returns-clause-read
returns-clause-read c = λ k y L N e h. after_selected (Chooses _ _ _ _ _ _ _) _ (c.read_selector.ensures.read k y e h) c.in_ok-more.was (λ σ l. no_way (Chooses _ _ _ _ _ _ _) _ _ _ c.if-more.false (last_chosen σ _ (omega arith)))
