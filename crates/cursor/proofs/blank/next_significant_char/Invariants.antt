use Prim.Native.Nat.{◌-◌}
use lib.ListN.{length}
use Rattle.base.proofs.Loops.{Going}
use Rattle.cursor.specs.Blank.{next_significant_char, significant_turn}
use Rattle.cursor.specs.declared.Significant.TheVariants.{Ended}
use Rattle.std.specs.Prelude.{Ok}
use Rattle.cursor.proofs.blank.next_significant_char.Given as goal

abbrev pub invariant-loop-e : goal.invariant-loop-e
invariant-loop-e l = Going (significant_turn l.s) (Ok (Ended l.initial.d)) (length l.s - l.d.at) l.d (next_significant_char l.s l.initial.d)

abbrev pub decreases-loop-e : goal.decreases-loop-e
decreases-loop-e l = length l.s - l.d.at
