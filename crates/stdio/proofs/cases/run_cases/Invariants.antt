-- The cases so far ran as they answered; each has a byte at least.
use Rattle.std.proofs.Common.{◌-◌, ◌≤◌, length}
use Rattle.stdio.specs.Cases.{Ran}
use Rattle.stdio.proofs.cases.run_cases.Given as goal

abbrev pub invariant-loop-at : goal.invariant-loop-at
invariant-loop-at g l = (l.bad ≤ l.run) × (l.run ≤ l.at) × (l.at ≤ length l.s) × Ran (g.C.Case.answers l.case l.s) (length l.s) l.at l.run l.bad

abbrev pub decreases-loop-at : goal.decreases-loop-at
decreases-loop-at g l = length l.s - l.at
