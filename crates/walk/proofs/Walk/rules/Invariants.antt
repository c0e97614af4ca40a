-- What the loop of rules keeps: the rules that are left answer as all do, with what the walk was given.
use Prim.Native.Nat.{◌-◌}
use mathlib.Core.Path.{◌≡◌}
use Rattle.walk.specs.Run.{rules_of}
use Rattle.walk.specs.Walking.{given, names, layers, verdicts}
use Rattle.walk.proofs.Walk.rules.Given as goal

abbrev pub invariant-loop-r : goal.invariant-loop-r
invariant-loop-r l =
    let w = l.initial.self in
    (rules_of (names w) (layers w) (verdicts w) w.tables.now.rules.now l.self.rows.now l.self.count l.r (l.total - l.r)
    ≡ rules_of (names w) (layers w) (verdicts w) w.tables.now.rules.now w.rows.now w.count 0 l.total)
    × (given l.self ≡ given w)
