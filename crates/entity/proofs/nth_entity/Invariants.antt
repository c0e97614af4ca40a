-- What the loop of nth_entity keeps: the entity that is looked for is as far behind the place reached as there are turns left.
use Prim.Native.Nat.{◌-◌}
use mathlib.Core.Path.{◌≡◌}
use Rattle.entity.specs.Layout.{nth_from}
use Rattle.entity.proofs.nth_entity.Given as goal

abbrev pub invariant-loop : goal.invariant-loop
invariant-loop l = nth_from (l.k - l.counter) l.sort l.s l.at ≡ nth_from l.k l.sort l.s 0
