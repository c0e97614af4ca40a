use Rattle.tag_number.proofs.Scaled.{scaled_far}
use Rattle.tag_number.proofs.scale.Goals as goal

pub returns-then-p-gt22 : goal.returns-then-p-gt22
returns-then-p-gt22 c = scaled_far c.args.x.minus c.args.x.d c.args.down
    c.args.p c.args.n c.if-down.true c.if-p-gt22.true
