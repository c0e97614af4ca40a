use mathlib.Core.Path.{refl, subst, ◌∙◌}
use Rattle.keep.proofs.Lending.{properties_colors}
use Rattle.properties.specs.Answers.{PropertyRead}
use native.Mathlib.Omega.{arith}
use mathlib.Core.List.{[]}
use Rattle.keep.proofs.Laws.{widen}
use Rattle.properties.proofs.ValueLaws.{after_reads, next_none, next_end, next_one, lead_stop, lead_on}
use Rattle.keep.specs.Answers.{Reads, refuses, done}
use Rattle.keep.specs.Lent.{lent_in, colors_of}
use Prim.Native.Nat.{suc, ◌<◌, ◌≤◌}
use Rattle.input.specs.Text.{left}
use Rattle.grammar.specs.Reader.{read_properties}
use Rattle.grammar.specs.Input.{read}
use Rattle.properties.proofs.Turns.{goes_start, goes_end, goes_on}
use Rattle.properties.proofs.read_properties.Goals as goal
use Rattle.base.proofs.Options.{handed_on, not_some}

pub loop-head-init : goal.loop-head-init
loop-head-init c = (λ f h. goes_start (Reads _ _) _ _ _ _ f h, refl)

pub returns-in_err-head-clause-read : goal.returns-in_err-head-clause-read
unfolding read_properties
returns-in_err-head-clause-read c = rw (handed_on _ c.from_residual.ensures) (λ f h. goes_end (Reads _ _) _ _ _ _ _ _ (c.loop-head.invariant.0 f h) (λ k l. next_none (Reads _ _ _ _ _) (c.read_head.ensures _ _ _) c.in_err-head.was (λ e τ p. refuses p)))

pub returns-in_default-clause-read : goal.returns-in_default-clause-read
unfolding read_properties
returns-in_default-clause-read c = λ f h. goes_end (Reads _ _) _ _ _ _ _ _ (c.loop-head.invariant.0 f h) (λ k l. next_end (Reads _ _ _ _ _) (c.read_head.ensures _ _ _) c.in_ok-head.was (not_some _ c.in_default.not-Some) (λ m1. done _ (omega arith)))

pub returns-in_err-at-clause-read : goal.returns-in_err-at-clause-read
unfolding read_properties
returns-in_err-at-clause-read c = rw (handed_on _ c.from_residual-in_err-at.ensures) (λ f h. goes_end (Reads _ _) _ _ _ _ _ _ (c.loop-head.invariant.0 f h) (λ k l. next_one (Reads _ _ _ _ _) (c.read_head.ensures _ _ _) c.in_ok-head.was c.in-Some.is (λ m1. lead_stop (Reads _ _ _ _ _) ((subst (λ cs. PropertyRead c.args.text.bundle.now c.args.text.source c.in-Some.name c.in_ok-head.d (colors_of c.args.text.bundle.now cs c.args.known) (lent_in c.loop-head.store) (lent_in c.read_property.new.store) c.read_property.result) (properties_colors c.loop-head.invariant.1) c.read_property.ensures.read) k _ (omega arith)) c.in_err-at.was (λ e τ p. refuses p))))

pub loop-head-smaller : goal.loop-head-smaller
loop-head-smaller c = omega (arith, (next_one (λ a. left c.args.text.bundle.now c.args.text.source c.in_ok-head.d < left c.args.text.bundle.now c.args.text.source c.loop-head.at) (c.read_head.ensures (lent_in c.loop-head.store) (λ d. read [] d (lent_in c.loop-head.store)) (λ y d. read [] d (lent_in c.loop-head.store))) c.in_ok-head.was c.in-Some.is (λ m. m)), (lead_on (λ a. left c.args.text.bundle.now c.args.text.source c.in_ok-at.at ≤ left c.args.text.bundle.now c.args.text.source c.in_ok-head.d) (c.read_property.ensures.read (suc (left c.args.text.bundle.now c.args.text.source c.in_ok-head.d)) (λ x d τ. read [] d τ) (omega arith)) c.in_ok-at.was (λ x l. l)))

pub loop-head-preserved : goal.loop-head-preserved
unfolding read_properties
loop-head-preserved c = (λ f h. goes_on (Reads _ _) _ _ _ _ _ _ _ _ (c.loop-head.invariant.0 f h) (omega (arith, (next_one (λ a. left c.args.text.bundle.now c.args.text.source c.in_ok-head.d < left c.args.text.bundle.now c.args.text.source c.loop-head.at) (c.read_head.ensures (lent_in c.loop-head.store) (λ d. read [] d (lent_in c.loop-head.store)) (λ y d. read [] d (lent_in c.loop-head.store))) c.in_ok-head.was c.in-Some.is (λ m. m)), (lead_on (λ a. left c.args.text.bundle.now c.args.text.source c.in_ok-at.at ≤ left c.args.text.bundle.now c.args.text.source c.in_ok-head.d) (c.read_property.ensures.read (suc (left c.args.text.bundle.now c.args.text.source c.in_ok-head.d)) (λ x d τ. read [] d τ) (omega arith)) c.in_ok-at.was (λ x l. l)))) (λ k l t r q. next_one (Reads _ _ _ _ _) (c.read_head.ensures _ _ _) c.in_ok-head.was c.in-Some.is (λ m1. lead_on (Reads _ _ _ _ _) ((subst (λ cs. PropertyRead c.args.text.bundle.now c.args.text.source c.in-Some.name c.in_ok-head.d (colors_of c.args.text.bundle.now cs c.args.known) (lent_in c.loop-head.store) (lent_in c.read_property.new.store) c.read_property.result) (properties_colors c.loop-head.invariant.1) c.read_property.ensures.read) k _ (omega arith)) c.in_ok-at.was (λ x m2. widen (omega arith) (after_reads _ _ q)))), c.read_property.ensures.beside ∙ c.loop-head.invariant.1)
