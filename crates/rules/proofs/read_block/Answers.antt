use native.Mathlib.Omega.{arith}
use mathlib.Core.List.{[]}
use Rattle.keep.proofs.Laws.{widen}
use Rattle.keep.specs.Answers.{Reads, refuses}
use Rattle.rules.proofs.RuleLaws.{after_unskipped, after_skipped}
use Rattle.rules.proofs.read_block.Goals as goal
use Rattle.base.proofs.Options.{handed_on}

pub returns-in_err-d-clause-read : goal.returns-in_err-d-clause-read
returns-in_err-d-clause-read c = rw (handed_on _ c.from_residual.ensures) (λ k h. after_unskipped (Reads _ _ _ _ _) _ (c.skip_colors.ensures _ k h) c.in_err-d.was (λ e τ p. refuses p))

pub returns-clause-read : goal.returns-clause-read
returns-clause-read c = λ k h. after_skipped (Reads _ _ _ _ _) _ (c.skip_colors.ensures _ k h) c.in_ok-d.was (λ l. widen (omega arith) (c.store_rule.ensures.read c.args.text.bundle.now [] []))
