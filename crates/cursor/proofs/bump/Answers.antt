use Rattle.std.proofs.Common.{arith}
use Rattle.base.specs.Choice.{pick}
use Rattle.cursor.specs.Cursor.{bump}
use Rattle.cursor.proofs.bump.Goals as goal

pub returns : goal.returns
unfolding bump pick
returns c = grind arith
