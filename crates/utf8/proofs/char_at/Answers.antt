use Rattle.utf8.proofs.Rows.{char_in}
use Rattle.utf8.proofs.char_at.Goals as goal

pub returns-then-at-s : goal.returns-then-at-s
returns-then-at-s c = char_in c.args.s.now c.args.at c.byte_at.result c.byte_at-then-at-s.result c.byte_at-then-at-s-2.result c.decode.result c.if-at-s.true c.byte_at.ensures c.byte_at-then-at-s.ensures c.byte_at-then-at-s-2.ensures c.decode.ensures
