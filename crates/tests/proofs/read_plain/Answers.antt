use mathlib.Core.Path.{refl}
use native.Mathlib.Omega.{arith}
use Rattle.base.specs.Choice.{via}
use Rattle.tests.proofs.Laws.{no_key, a_key}
use Rattle.keep.proofs.Laws.{widen}
use Rattle.keep.specs.Answers.{Reads, refuses}
use Rattle.grammar.specs.Reader.{plain_test}
use Rattle.keep.specs.Source.{reading}
use Rattle.tests.proofs.read_plain.Goals as goal
use Rattle.base.proofs.Options.{handed_on}

pub returns-in_err-key-clause-read : goal.returns-in_err-key-clause-read
returns-in_err-key-clause-read c = rw (handed_on _ c.from_residual.ensures) (no_key (Reads _ _ _ _ _) _ _ _ _ _ (plain_test (reading c.args.text.bundle.now)) (via c.read_key.ensures c.in_err-key.was) (refuses refl))

pub returns-clause-read : goal.returns-clause-read
returns-clause-read c = a_key (Reads _ _ _ _ _) _ _ _ _ _ (plain_test (reading c.args.text.bundle.now)) (via c.read_key.ensures c.in_ok-key.was) (λ m1. widen (omega arith) (c.plain_test.ensures.read))
