use Prim.Native.Nat.{◌≤◌}
use Rattle.utf8_scan.proofs.scan.Given as goal

abbrev pub invariant-loop-k : goal.invariant-loop-k
invariant-loop-k l = (l.k ≤ 2000000) × (l.values ≤ l.k) × (l.found ≤ l.k)
