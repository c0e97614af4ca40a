-- Each turn prints one property, in a line as long as it was.
use Rattle.std.proofs.Common.{◌≡◌, length}
use Rattle.plate.proofs.print_properties.Given as goal

abbrev pub invariant-loop-j : goal.invariant-loop-j
invariant-loop-j g l = length l.line ≡ length l.initial.line
