use Rattle.std.proofs.Common.{◌∙◌}
use lib.Ieee.{of_bits, of_int}
use Rattle.style.specs.Style.{width_or_zero}
use Rattle.style.proofs.GetLaws.{or_else}
use Rattle.style.proofs.width_or_zero.Goals as goal

pub returns : goal.returns
unfolding width_or_zero of_bits of_int
returns c = c.unwrap_or.ensures ∙ or_else _ _
