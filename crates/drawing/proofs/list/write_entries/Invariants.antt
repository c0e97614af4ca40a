use mathlib.Core.Path.{◌≡◌}
use lib.ListN.{length}
use Rattle.drawing.proofs.ListLaws.{written}
use Rattle.drawing.proofs.list.write_entries.Given as goal

abbrev pub invariant-loop-i : goal.invariant-loop-i
invariant-loop-i l = l.list ≡ written l.keys l.order (length l.initial.list) l.i
