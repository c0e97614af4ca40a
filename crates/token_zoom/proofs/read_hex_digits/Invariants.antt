use Prim.Native.Nat.{◌-◌}
use lib.ListN.{length}
use Rattle.base.proofs.Loops.{Going}
use Rattle.token_zoom.specs.Zoom.{read_hex_digits, hex_turn, hex}
use Rattle.token_zoom.proofs.read_hex_digits.Given as goal

abbrev pub invariant-loop-digit : goal.invariant-loop-digit
invariant-loop-digit l = Going (hex_turn l.s) (hex 0 0 l.initial.d) (length l.s - l.d.at) (hex l.count l.value l.d) (read_hex_digits l.s l.initial.d)

abbrev pub decreases-loop-digit : goal.decreases-loop-digit
decreases-loop-digit l = length l.s - l.d.at
