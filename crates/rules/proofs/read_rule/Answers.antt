use Rattle.properties.proofs.Turns.{goes_start, goes_end, goes_on}
use Rattle.properties.proofs.ValueLaws.{after_reads}
use Rattle.rules.proofs.RuleLaws.{start_bad, start_body, start_colors, choice_none, choice_last, choice_next, choice_moves, rule_starts, rule_chooses, body_colors}
use Rattle.keep.proofs.Laws.{widen}
use Rattle.keep.proofs.Lending.{selectors_beside_rules, rules_colors}
use Rattle.keep.specs.Answers.{Reads, refuses}
use native.Mathlib.Omega.{arith}
use mathlib.Core.List.{[], ◌∷◌}
use mathlib.Core.Path.{refl, ap, ◌∙◌}
use Prim.Native.Nat.{suc}
use Rattle.rules.proofs.read_rule.Goals as goal
use Rattle.base.proofs.Options.{handed_on, ok_is}

pub loop-text-init : goal.loop-text-init
loop-text-init c = (λ f h. goes_start (Reads _ _) _ _ _ _ f h, refl)

pub returns-in_err-rule_start-clause-read : goal.returns-in_err-rule_start-clause-read
returns-in_err-rule_start-clause-read c = rw (handed_on _ c.from_residual.ensures) (λ f h. goes_end (Reads _ _) _ _ _ _ _ _ (c.loop-text.invariant.0 f h) (λ k l. start_bad (Reads _ _ _ _ _) (rule_starts _ _ _ _ _ _ _ _ c.rule_start.ensures) c.in_err-rule_start.was (λ e τ p. refuses p)))

pub returns-in-Body-clause-read : goal.returns-in-Body-clause-read
returns-in-Body-clause-read c = λ f h. goes_end (Reads _ _) _ _ _ _ _ _ (c.loop-text.invariant.0 f h) (λ k l. start_body (Reads _ _ _ _ _) (rule_starts _ _ _ _ _ _ _ _ c.rule_start.ensures) (ok_is c.in_ok-rule_start.was c.in-Body.is) (body_colors _ _ _ _ _ _ (rules_colors c.loop-text.invariant.1) c.read_body.ensures.read (suc k) [] (omega arith)))

pub returns-in-ColorsBlock-clause-read : goal.returns-in-ColorsBlock-clause-read
returns-in-ColorsBlock-clause-read c = λ f h. goes_end (Reads _ _) _ _ _ _ _ _ (c.loop-text.invariant.0 f h) (λ k l. start_colors (Reads _ _ _ _ _) (rule_starts _ _ _ _ _ _ _ _ c.rule_start.ensures) (ok_is c.in_ok-rule_start.was c.in-ColorsBlock.is) (c.read_block.ensures.read (suc k) (omega arith)))

pub returns-in_err-next-in-Object-clause-read : goal.returns-in_err-next-in-Object-clause-read
returns-in_err-next-in-Object-clause-read c = rw (handed_on _ c.from_residual-in_err-next-in-Object.ensures) (λ f h. goes_end (Reads _ _) _ _ _ _ _ _ (c.loop-text.invariant.0 f h) (λ k l. choice_none (Reads _ _ _ _ _) (rule_chooses _ _ _ _ _ _ _ _ c.rule_start.ensures (ok_is c.in_ok-rule_start.was c.in-Object.is) c.read_choice.ensures.read (omega arith)) c.in_err-next-in-Object.was (λ e τ q. refuses q)))

pub returns-in_default-clause-read : goal.returns-in_default-clause-read
returns-in_default-clause-read c = let b = selectors_beside_rules c.read_choice.ensures.beside ∙ c.loop-text.invariant.1 in λ f h. goes_end (Reads _ _) _ _ _ _ _ _ (c.loop-text.invariant.0 f h) (λ k l. choice_last (Reads _ _ _ _ _) (rule_chooses _ _ _ _ _ _ _ _ c.rule_start.ensures (ok_is c.in_ok-rule_start.was c.in-Object.is) c.read_choice.ensures.read (omega arith)) (ok_is c.in_ok-next-in-Object.was (ap (λ x. (x, c.in_ok-next-in-Object.d)) c.in_default.is)) (λ σ m. widen (omega arith) (body_colors _ _ _ _ _ _ (rules_colors b) c.read_body-in_default.ensures.read (suc k) (σ ∷ []) (omega arith))))

pub loop-text-smaller : goal.loop-text-smaller
loop-text-smaller c = choice_moves _ _ _ _ _ _ c.rule_start.ensures (ok_is c.in_ok-rule_start.was c.in-Object.is) c.read_choice.ensures.read (ok_is c.in_ok-next-in-Object.was (ap (λ x. (x, c.in_ok-next-in-Object.d)) c.in-Some.is))

pub loop-text-preserved : goal.loop-text-preserved
loop-text-preserved c = let n = ok_is c.in_ok-next-in-Object.was (ap (λ x. (x, c.in_ok-next-in-Object.d)) c.in-Some.is) in (λ f h. goes_on (Reads _ _) _ _ _ _ _ _ _ _ (c.loop-text.invariant.0 f h) (choice_moves _ _ _ _ _ _ c.rule_start.ensures (ok_is c.in_ok-rule_start.was c.in-Object.is) c.read_choice.ensures.read n) (λ k l t r q. choice_next (Reads _ _ _ _ _) (rule_chooses _ _ _ _ _ _ _ _ c.rule_start.ensures (ok_is c.in_ok-rule_start.was c.in-Object.is) c.read_choice.ensures.read (omega arith)) n (λ σ m. widen (omega arith) (after_reads _ _ q))), selectors_beside_rules c.read_choice.ensures.beside ∙ c.loop-text.invariant.1)
