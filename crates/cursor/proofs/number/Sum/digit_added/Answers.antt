use Rattle.std.proofs.Common.{arith}
use Rattle.base.specs.Choice.{pick}
use Rattle.cursor.specs.Number.{digit_added}
use Rattle.cursor.proofs.number.Sum.digit_added.Goals as goal

pub returns-then-self : goal.returns-then-self
unfolding digit_added pick
returns-then-self c = grind arith

pub returns : goal.returns
unfolding digit_added pick
returns c = grind arith
