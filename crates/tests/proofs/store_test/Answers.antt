use mathlib.Core.Path.{◌∙◌}
use Rattle.base.proofs.Options.{handed_on, or_some, or_none, or_err}
use native.Mathlib.Omega.{arith}
use Rattle.base.specs.Choice.{via_with}
use Rattle.tests.proofs.Laws.{room_test, no_room_test}
use Rattle.keep.specs.Answers.{Reads, refuses, done}
use Rattle.tests.proofs.store_test.Goals as goal

pub returns-in_err-ok_or-clause-read : goal.returns-in_err-ok_or-clause-read
returns-in_err-ok_or-clause-read c = rw (handed_on _ c.from_residual.ensures) (λ bundle x e. no_room_test (Reads _ _ _ _ _) _ c.args.source _ _ c.args.c _ _ e (via_with (rw c.number.ensures at c.keep_test.ensures.kept) (or_none c.ok_or.ensures.ok_part c.in_err-ok_or.was)) (refuses (or_err _ c.ok_or.ensures.value c.in_err-ok_or.was ∙ c.refuse_reached.ensures)))

pub returns-clause-read : goal.returns-clause-read
returns-clause-read c = λ bundle x e. room_test (Reads _ _ _ _ _) _ c.args.source _ _ c.args.c _ _ e (via_with (rw c.number.ensures at c.keep_test.ensures.kept) (or_some c.ok_or.ensures.ok_part c.in_ok-ok_or.was)) (done _ (omega arith))
