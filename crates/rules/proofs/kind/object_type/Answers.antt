use Rattle.rules.specs.Kind.{object_kind}
use mathlib.Core.Path.{ap, ◌∙◌}
use Rattle.rules.proofs.kind.object_type.Goals as goal

pub returns : goal.returns
returns c = c.type_of.ensures ∙ ap object_kind c.part.ensures
