use Rattle.base.specs.Bytes.{ascii, same}
use mathlib.Core.Path.{ap, ◌∙◌}
use Rattle.rules.proofs.kind.is_colors.Goals as goal

pub returns : goal.returns
returns c = c.same_bytes.ensures ∙ ap (λ a. same a (ascii "colors")) c.part.ensures
