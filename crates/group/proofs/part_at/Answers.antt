use native.Mathlib.Omega.{arith}
use mathlib.Core.Path.{sym}
use Rattle.group.proofs.Numbers.{number_end, number_short}
use Rattle.group.specs.Pair.{part_at}
use Rattle.group.proofs.part_at.Goals as goal
use Rattle.base.specs.Option.{option_none, option_some}

pub returns-in_err-b : goal.returns-in_err-b
unfolding part_at
returns-in_err-b c = option_none _ _ _ (sym (number_end _ _ _ c.in_err-b.ensures.lookup.0)) c.from_residual.ensures

pub returns-then-b-lt128 : goal.returns-then-b-lt128
unfolding part_at
returns-then-b-lt128 c = option_some _ _ _ (number_short _ _ _ c.in_ok-b.ensures.lookup.0 _ c.in_ok-b.ensures.lookup.1 (omega arith) (omega arith)) (rw c.from.ensures at c.sized.ensures)
