-- Each turn prints one layer, in a line as long as it was.
use Rattle.std.proofs.Common.{◌≡◌, length}
use Rattle.plate.proofs.print_layers.Given as goal

abbrev pub invariant-loop-i : goal.invariant-loop-i
invariant-loop-i g l = length l.line ≡ length l.initial.line
