use Rattle.std.proofs.Common.{arith}
use Rattle.base.specs.Choice.{pick}
use Rattle.cursor.specs.Number.{takes_dot}
use Rattle.cursor.proofs.number.Sum.takes_dot.Goals as goal

pub returns-then-not-self : goal.returns-then-not-self
unfolding takes_dot pick
returns-then-not-self c = grind arith

pub returns-else-not-self : goal.returns-else-not-self
unfolding takes_dot pick
returns-else-not-self c = grind arith
