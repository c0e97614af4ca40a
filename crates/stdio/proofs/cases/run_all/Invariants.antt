-- The cases so far ran as they answered; each has a byte at least.
use Rattle.std.proofs.Common.{◌-◌, ◌≤◌}
use Rattle.stdio.specs.Cases.{Ran}
use Rattle.stdio.proofs.cases.run_all.Given as goal

abbrev pub invariant-loop-at : goal.invariant-loop-at
invariant-loop-at g l = (l.bad ≤ l.run) × (l.run ≤ l.at) × (l.at ≤ l.size) × Ran (λ at r. goal.F-post g l.case_at at r) l.size l.at l.run l.bad

abbrev pub decreases-loop-at : goal.decreases-loop-at
decreases-loop-at g l = l.size - l.at
