use Rattle.base.specs.Bytes.{ascii, same}
use mathlib.Core.Path.{ap, ◌∙◌}
use Rattle.properties.proofs.eval.is_eval.Goals as goal

pub returns : goal.returns
returns c = c.same_bytes.ensures ∙ ap (λ a. same a (ascii "eval")) c.part.ensures
