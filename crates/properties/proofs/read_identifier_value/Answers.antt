use Rattle.base.specs.Choice.{via}
use Rattle.keep.proofs.Laws.{yes_way, no_way}
use Rattle.properties.specs.Answers.{Values}
use Rattle.properties.proofs.read_identifier_value.Goals as goal

pub returns-then-is_eval-clause-read : goal.returns-then-is_eval-clause-read
returns-then-is_eval-clause-read c = λ k h. yes_way (Values _ _ _ _ _) _ _ _ (via c.is_eval.ensures c.if-is_eval.true) (c.read_simple_eval.ensures.read k h)

pub returns-clause-read : goal.returns-clause-read
returns-clause-read c = λ k h. no_way (Values _ _ _ _ _) _ _ _ (via c.is_eval.ensures c.if-is_eval.false) (c.read_word_value.ensures _)
