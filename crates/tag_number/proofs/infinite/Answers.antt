use mathlib.Core.Path.{sym, ap}
use lib.Ieee.{of_bits, neg, div, inf}
use Rattle.tag_number.proofs.infinite.Goals as goal

pub returns-then-minus : goal.returns-then-minus
unfolding of_bits neg div
returns-then-minus c = ap inf (sym c.if-minus.true)

pub returns-else-minus : goal.returns-else-minus
unfolding of_bits neg div
returns-else-minus c = ap inf (sym c.if-minus.false)
