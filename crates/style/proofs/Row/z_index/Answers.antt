use Rattle.std.proofs.Common.{◌∙◌}
use Rattle.style.specs.Style.{z_index_of}
use Rattle.style.proofs.GetLaws.{or_else}
use Rattle.style.proofs.Row.z_index.Goals as goal

pub returns : goal.returns
unfolding z_index_of
returns c = simp (
  ← (c.unwrap_or.ensures ∙ or_else c.number.result c.default_z_index.result),
  ← c.default_z_index.ensures,
  ← c.number.ensures,
)
