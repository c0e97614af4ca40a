use mathlib.Core.Path.{refl, ◌∙◌}
use native.Mathlib.Omega.{arith}
use mathlib.Core.List.{[]}
use Rattle.base.specs.Choice.{via_with}
use Rattle.base.proofs.Options.{handed_on, not_some, or_some, or_none, or_err}
use Rattle.keep.proofs.Laws.{widen, room_number, no_room_number}
use Rattle.properties.proofs.ValueLaws.{next_none, next_end, next_one, after_reads}
use Rattle.keep.specs.Answers.{Reads, refuses, done}
use Rattle.keep.specs.Lent.{lent_in}
use Prim.Native.Nat.{◌<◌}
use Rattle.input.specs.Text.{left}
use Rattle.grammar.specs.Reader.{read_number_list}
use Rattle.grammar.specs.Input.{read}
use Rattle.properties.proofs.Turns.{goes_start, goes_end, goes_on}
use Rattle.properties.proofs.read_number_list.Goals as goal

pub loop-text-init : goal.loop-text-init
loop-text-init c = (λ f h. goes_start (Reads _ _) _ _ _ _ f h, refl)

pub returns-in_err-ok_or-clause-read : goal.returns-in_err-ok_or-clause-read
unfolding read_number_list
returns-in_err-ok_or-clause-read c = rw (handed_on _ c.from_residual.ensures) (λ f h. goes_end (Reads _ _) _ _ _ _ _ _ (c.loop-text.invariant.0 f h) (λ k l. no_room_number (Reads _ _ _ _ _) _ c.args.text.source _ c.loop-text.at _ _ (via_with c.keep_number.ensures.kept (or_none c.ok_or.ensures.ok_part c.in_err-ok_or.was)) (refuses (or_err _ c.ok_or.ensures.value c.in_err-ok_or.was ∙ c.refuse_reached.ensures))))

pub returns-in_err-next-clause-read : goal.returns-in_err-next-clause-read
unfolding read_number_list
returns-in_err-next-clause-read c = rw (handed_on _ c.from_residual-in_err-next.ensures) (λ f h. goes_end (Reads _ _) _ _ _ _ _ _ (c.loop-text.invariant.0 f h) (λ k l. room_number (Reads _ _ _ _ _) _ c.args.text.source _ c.loop-text.at _ _ (via_with c.keep_number.ensures.kept (or_some c.ok_or.ensures.ok_part c.in_ok-ok_or.was)) (next_none (Reads _ _ _ _ _) (c.read_listed.ensures _ _ _) c.in_err-next.was (λ e τ p. refuses p))))

pub returns-in_default-clause-read : goal.returns-in_default-clause-read
unfolding read_number_list
returns-in_default-clause-read c = λ f h. goes_end (Reads _ _) _ _ _ _ _ _ (c.loop-text.invariant.0 f h) (λ k l. room_number (Reads _ _ _ _ _) _ c.args.text.source _ c.loop-text.at _ _ (via_with c.keep_number.ensures.kept (or_some c.ok_or.ensures.ok_part c.in_ok-ok_or.was)) (next_end (Reads _ _ _ _ _) (c.read_listed.ensures _ _ _) c.in_ok-next.was (not_some _ c.in_default.not-Some) (λ m1. done _ (omega arith))))

pub loop-text-smaller : goal.loop-text-smaller
loop-text-smaller c = next_one (λ a. left c.args.text.bundle.now c.args.text.source c.in_ok-next.d < left c.args.text.bundle.now c.args.text.source c.loop-text.at) (c.read_listed.ensures (lent_in c.loop-text.store) (λ d. read [] d (lent_in c.loop-text.store)) (λ y d. read [] d (lent_in c.loop-text.store))) c.in_ok-next.was c.in-Some.is (λ m. m)

pub loop-text-preserved : goal.loop-text-preserved
unfolding read_number_list
loop-text-preserved c = (λ f h. goes_on (Reads _ _) _ _ _ _ _ _ _ _ (c.loop-text.invariant.0 f h) (next_one (λ a. left c.args.text.bundle.now c.args.text.source c.in_ok-next.d < left c.args.text.bundle.now c.args.text.source c.loop-text.at) (c.read_listed.ensures (lent_in c.loop-text.store) (λ d. read [] d (lent_in c.loop-text.store)) (λ y d. read [] d (lent_in c.loop-text.store))) c.in_ok-next.was c.in-Some.is (λ m. m)) (λ k l t r q. room_number (Reads _ _ _ _ _) _ c.args.text.source _ c.loop-text.at _ _ (via_with c.keep_number.ensures.kept (or_some c.ok_or.ensures.ok_part c.in_ok-ok_or.was)) (next_one (Reads _ _ _ _ _) (c.read_listed.ensures _ _ _) c.in_ok-next.was c.in-Some.is (λ m1. widen (omega arith) (after_reads _ _ q)))), c.keep_number.ensures.beside ∙ c.loop-text.invariant.1)
