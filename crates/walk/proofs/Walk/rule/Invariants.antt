-- What the loop of rule keeps: the selectors that are left answer as all of the rule do, with what the walk was given.
use Prim.Native.Nat.{◌-◌}
use mathlib.Core.Path.{◌≡◌}
use Rattle.decode.specs.Decode.{places}
use Rattle.walk.specs.Run.{selectors_of, rule_of}
use Rattle.walk.specs.Walking.{given, names, layers, verdicts}
use Rattle.walk.proofs.Walk.rule.Given as goal

abbrev pub invariant-loop-s : goal.invariant-loop-s
invariant-loop-s l =
    let w = l.initial.self in
    (selectors_of (names w) (layers w) (verdicts w) l.self.rows.now l.self.count l.s (l.end - l.s) (places l.from (l.to - l.from))
    ≡ rule_of (names w) (layers w) (verdicts w) w.tables.now.rules.now w.rows.now w.count l.r)
    × (given l.self ≡ given w)
