use Rattle.keep.proofs.KeepLaws.{has_name}
use mathlib.Core.Path.{◌∙◌}
use Rattle.keep.proofs.has_name.Goals as goal

pub returns : goal.returns
returns c = c.same_bytes.ensures ∙ has_name c.args.bundle.now c.args.colors.now c.args.i _ _ _ c.range_of.ensures c.part.ensures
