use mathlib.Core.Path.{◌∙◌}
use Rattle.base.proofs.Compare.{precedes_slices}
use Rattle.base.proofs.bytes_precede.Goals as goal

pub returns : goal.returns
returns c = c.lt.ensures ∙ precedes_slices _ _
