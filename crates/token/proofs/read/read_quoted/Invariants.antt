use Prim.Native.Nat.{◌-◌}
use lib.ListN.{length}
use Rattle.base.proofs.Loops.{Going}
use Rattle.token.specs.Read.{read_quoted, quoted_turn}
use Rattle.token.proofs.read.read_quoted.Given as goal
use Rattle.std.specs.Prelude.{Err}
use Rattle.token_kind.specs.Reason.{open_string, lexer_error}

abbrev pub invariant-loop-e : goal.invariant-loop-e
invariant-loop-e l = Going (quoted_turn l.s l.initial.d.at) (Err (lexer_error open_string l.initial.d)) (length l.s - l.d.at) l.d (read_quoted l.s l.initial.d)

abbrev pub decreases-loop-e : goal.decreases-loop-e
decreases-loop-e l = length l.s - l.d.at
