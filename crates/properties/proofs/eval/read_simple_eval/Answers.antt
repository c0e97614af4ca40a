use Rattle.properties.proofs.FormLaws.{eval_refused, eval_made, eval_unmade}
use Rattle.properties.proofs.ValueLaws.{widen_value}
use Rattle.properties.specs.Answers.{Values, bad_value}
use Rattle.grammar.specs.Reader.{read_simple_eval}
use mathlib.Core.Path.{refl}
use Rattle.properties.proofs.eval.read_simple_eval.Goals as goal
use Rattle.base.proofs.Options.{handed_on}

pub returns-in_err-f-clause-read : goal.returns-in_err-f-clause-read
unfolding read_simple_eval
returns-in_err-f-clause-read c = rw (handed_on _ c.from_residual.ensures) (λ k h. eval_refused (Values _ _ _ _ _) _ _ _ _ _ (c.read_form.ensures _ k h) c.in_err-f.was (bad_value refl))

pub returns-in-Whole-clause-read : goal.returns-in-Whole-clause-read
unfolding read_simple_eval
returns-in-Whole-clause-read c = λ k h. eval_made (Values _ _ _ _ _) _ _ _ _ _ (c.read_form.ensures _ k h) c.in_ok-f.was c.in-Whole.is (λ l. widen_value l (c.store_delta.ensures.read _))

pub returns-in_default-clause-read : goal.returns-in_default-clause-read
unfolding read_simple_eval
returns-in_default-clause-read c = λ k h. eval_unmade (Values _ _ _ _ _) _ _ _ _ _ (c.read_form.ensures _ k h) c.in_ok-f.was c.in_default.not-Whole (bad_value c.refuse.ensures)
