use mathlib.Core.Path.{◌∙◌}
use Rattle.base.proofs.Compare.{same_slices}
use Rattle.base.proofs.same_bytes.Goals as goal

pub returns : goal.returns
returns c = c.eq.ensures ∙ same_slices _ _
