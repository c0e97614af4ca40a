use mathlib.Core.Path.{refl}
use native.Mathlib.Omega.{arith}
use Rattle.base.specs.Choice.{via}
use Rattle.keep.proofs.Laws.{no_word, a_word, widen}
use Rattle.tests.proofs.Laws.{no_key, a_key}
use Rattle.keep.specs.Answers.{Reads, refuses}
use Rattle.grammar.specs.Reader.{bang_test}
use Rattle.keep.specs.Source.{reading}
use Rattle.tests.proofs.read_bang.Goals as goal
use Rattle.base.proofs.Options.{handed_on}

pub returns-in_err-a-clause-read : goal.returns-in_err-a-clause-read
returns-in_err-a-clause-read c = rw (handed_on _ c.from_residual.ensures) (no_word (Reads _ _ _ _ _) _ _ _ _ _ (via c.read_identifier.ensures c.in_err-a.was) (refuses refl))

pub returns-in_err-key-clause-read : goal.returns-in_err-key-clause-read
returns-in_err-key-clause-read c = rw (handed_on _ c.from_residual-in_err-key.ensures) (a_word (Reads _ _ _ _ _) _ _ _ _ _ (via c.read_identifier.ensures c.in_ok-a.was) (λ m1. no_key (Reads _ _ _ _ _) _ _ _ _ _ (bang_test (reading c.args.text.bundle.now)) (via c.read_key.ensures c.in_err-key.was) (refuses refl)))

pub returns-clause-read : goal.returns-clause-read
returns-clause-read c = a_word (Reads _ _ _ _ _) _ _ _ _ _ (via c.read_identifier.ensures c.in_ok-a.was) (λ m1. a_key (Reads _ _ _ _ _) _ _ _ _ _ (bang_test (reading c.args.text.bundle.now)) (via c.read_key.ensures c.in_ok-key.was) (λ m2. widen (omega arith) (c.bang_test.ensures.read)))
