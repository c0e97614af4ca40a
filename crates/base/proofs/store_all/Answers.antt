use Rattle.std.proofs.Common.{sym}
use Rattle.base.proofs.Tables.{stored_past, room_stored}
use Rattle.base.proofs.store_all.Goals as goal

pub returns-then-t-at : goal.returns-then-t-at
returns-then-t-at g c = sym (stored_past c.args.t.now c.args.at c.args.xs.now c.if-t-at.true)

pub returns : goal.returns
returns g c = room_stored c.args.t.now c.args.xs.now c.args.at _ c.if-t-at.false c.min-n.ensures c.copy_from_slice.ensures.after
