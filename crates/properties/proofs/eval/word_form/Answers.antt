use Rattle.properties.proofs.FormLaws.{same_part}
use Rattle.properties.specs.Eval.{word_form}
use Rattle.input.proofs.TokenLaws.{cond_true, cond_false}
use mathlib.Core.Path.{refl}
use Rattle.properties.proofs.eval.word_form.Goals as goal

pub returns-then-same_bytes : goal.returns-then-same_bytes
unfolding word_form
returns-then-same_bytes c = cond_true _ _ _ (same_part _ _ _ c.same_bytes.ensures c.part.ensures c.if-same_bytes.true) refl

pub returns : goal.returns
unfolding word_form
returns c = cond_false _ _ _ (same_part _ _ _ c.same_bytes.ensures c.part.ensures c.if-same_bytes.false) refl
