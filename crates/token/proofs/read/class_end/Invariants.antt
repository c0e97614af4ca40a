-- What the loop of class_end keeps, whatever the class: the turns that are left answer the same.
use Prim.Native.Nat.{ℕ, ◌-◌}
use mathlib.Core.Bool.{Bool}
use mathlib.Core.Path.{◌≡◌}
use lib.ListN.{length}
use Rattle.base.proofs.Loops.{Going}
use Rattle.token.specs.Read.{class_end, class_turn}
use Rattle.token.proofs.read.class_end.Given as goal

abbrev pub invariant-loop-ch : goal.invariant-loop-ch
invariant-loop-ch g l =
    (p : ℕ → Bool)
    → ((ch : ℕ) (r : Bool) → goal.F-post g l.goes_on ch r → r ≡ p ch)
    → Going (class_turn p l.s) l.initial.d (length l.s - l.d.at) l.d (class_end p l.s l.initial.d)

abbrev pub decreases-loop-ch : goal.decreases-loop-ch
decreases-loop-ch g l = length l.s - l.d.at
