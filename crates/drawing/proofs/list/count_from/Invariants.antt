use mathlib.Core.Path.{◌≡◌}
use mathlib.Core.List.{◌++◌}
use lib.ListN.{drop}
use Rattle.decode.specs.Decode.{places}
use Rattle.drawing.proofs.list.count_from.Given as goal

abbrev pub invariant-loop-i : goal.invariant-loop-i
invariant-loop-i l = l.order ≡ places l.from l.i ++ drop l.i l.initial.order
