use Rattle.sheet.specs.Digits.{natural_digits}
use Rattle.line.proofs.LineLaws.{put_next}
use Rattle.line.proofs.put.Line.put_number.Goals as goal

pub returns-clause-put : goal.returns-clause-put
returns-clause-put c =
    put_next (c.args.self.now.n, c.args.self.now.out.now) 32 (natural_digits c.args.x) c.put_byte.ensures.put c.put_digits.ensures.put
