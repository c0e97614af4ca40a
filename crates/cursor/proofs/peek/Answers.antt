use Rattle.cursor.proofs.Onward.{char_ascii}
use Rattle.cursor.proofs.peek.Goals as goal

pub returns-then-b-le127 : goal.returns-then-b-le127
returns-then-b-le127 c = rw c.from.ensures (char_ascii _ _ c.if-s-at.false c.if-b-le127.true)
