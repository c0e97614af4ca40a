use Rattle.tag_number.proofs.Scaled.{divided, divided_out}
use Rattle.tag_number.proofs.divide.Goals as goal

pub returns-then-k-le22 : goal.returns-then-k-le22
returns-then-k-le22 c = divided c.args.x.minus c.args.x.d
    c.args.k _ _ c.if-k-eq0.false
    c.if-k-le22.true c.with_sign.ensures c.ten.ensures

pub returns : goal.returns
returns c = divided_out c.args.x.minus c.args.x.d c.args.k c.if-k-le22.false
