-- What the loop of assign_all keeps: the layers that are left take the table to what all take it to, with what the walk was given.
use Prim.Native.Nat.{◌-◌}
use mathlib.Core.Path.{◌≡◌}
use Rattle.walk.specs.Rows.{numbers_in}
use Rattle.walk.specs.Run.{assign_all}
use Rattle.walk.specs.Walking.{given, names}
use Rattle.walk.proofs.Walk.assign_all.Given as goal

abbrev pub invariant-loop-i : goal.invariant-loop-i
invariant-loop-i l =
    let w = l.initial.self in
    (assign_all (names w) l.self.rows.now w.count l.i (w.count - l.i) (numbers_in l.ps)
    ≡ assign_all (names w) w.rows.now w.count 0 w.count (numbers_in l.ps))
    × ((l.self.count ≡ w.count) × (given l.self ≡ given w))
