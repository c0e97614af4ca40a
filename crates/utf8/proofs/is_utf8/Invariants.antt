use Prim.Native.Nat.{◌-◌}
use lib.ListN.{length}
use Rattle.utf8.proofs.Going.{At}
use Rattle.utf8.proofs.is_utf8.Given as goal

abbrev pub invariant-loop-w : goal.invariant-loop-w
invariant-loop-w l = At l.s l.at

abbrev pub decreases-loop-w : goal.decreases-loop-w
decreases-loop-w l = length l.s - l.at
