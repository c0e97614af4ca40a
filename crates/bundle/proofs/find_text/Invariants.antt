-- What the loop of find_text keeps: what is found among the texts that are left is what is found among all.
use Rattle.std.proofs.Common.{◌≡◌}
use Rattle.bundle.specs.Bundle.{find_in, find_of}
use Rattle.group.specs.Pair.{pairs_left}
use Rattle.bundle.proofs.find_text.Given as goal

abbrev pub invariant-loop-k : goal.invariant-loop-k
invariant-loop-k l =
    ((goal.iterator-loop-k).can_next l.k-iterator × (goal.iterator-loop-k).is_finite l.k-iterator)
    × (find_in l.bundle l.name l.k-iterator.count (pairs_left l.k-iterator.iter) ≡ find_of l.bundle l.name)
