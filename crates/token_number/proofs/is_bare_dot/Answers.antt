use Rattle.std.proofs.Common.{arith}
use Rattle.base.specs.Choice.{pick}
use Rattle.token_number.specs.Number.{is_bare_dot}
use Rattle.token_number.proofs.is_bare_dot.Goals as goal

pub returns-then-sum : goal.returns-then-sum
unfolding is_bare_dot pick
returns-then-sum c = grind arith

pub returns-else-sum : goal.returns-else-sum
unfolding is_bare_dot pick
returns-else-sum c = grind arith
