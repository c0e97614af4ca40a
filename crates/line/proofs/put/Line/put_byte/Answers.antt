use Rattle.line.proofs.LineLaws.{put_room, put_full}
use Rattle.line.proofs.put.Line.put_byte.Goals as goal

pub returns-then-self-clause-put : goal.returns-then-self-clause-put
returns-then-self-clause-put c = put_room c.args.self.now.n c.args.b c.args.self.now.out.now c.if-self.true

pub returns-else-self-clause-put : goal.returns-else-self-clause-put
returns-else-self-clause-put c = put_full c.args.self.now.n c.args.b c.args.self.now.out.now c.if-self.false
