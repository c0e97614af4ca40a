-- What the loop of good_names keeps: the names that are left are good just where all are.
use Rattle.std.proofs.Common.{◌≡◌, map}
use Rattle.base.specs.Map.{key_of}
use Rattle.group.specs.Pair.{named, pairs_left}
use Rattle.bundle.specs.Bundle.{good_names}
use Rattle.bundle.proofs.good_names.Given as goal

abbrev pub invariant-loop-a : goal.invariant-loop-a
invariant-loop-a l =
    ((goal.iterator-loop-a).can_next l.rest × (goal.iterator-loop-a).is_finite l.rest)
    × (good_names (map key_of (map (named l.s) (pairs_left l.rest))) ≡ good_names (map key_of (map (named l.s) (pairs_left l.texts))))
