use mathlib.Core.Path.{◌∙◌}
use Rattle.base.proofs.Tables.{capacity_none, capacity_min}
use Rattle.base.proofs.capacity.Goals as goal

pub returns-then-stride-eq0 : goal.returns-then-stride-eq0
returns-then-stride-eq0 c = search capacity_none

pub returns : goal.returns
returns c = c.min.ensures ∙ capacity_min c.args.stride c.args.len
