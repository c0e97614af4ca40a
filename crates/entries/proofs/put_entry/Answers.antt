use native.Mathlib.Omega.{arith}
use Rattle.std.proofs.Common.{length}
use Rattle.entries.proofs.Room.{full, room, entry_fits}
use Rattle.entries.proofs.put_entry.Goals as goal

pub returns-then-capacity-n : goal.returns-then-capacity-n
returns-then-capacity-n g c = full _ _ _ _ (rw c.capacity.ensures at c.if-capacity-n.true)

pub overflow_mul-n : goal.overflow_mul-n
overflow_mul-n g c = let f = entry_fits (length c.args.entry.now) (length c.args.t.now) c.args.n (rw c.capacity.ensures at c.if-capacity-n.false) in omega (arith, f)

pub returns : goal.returns
returns g c = room _ _ _ _ _ (rw c.capacity.ensures at c.if-capacity-n.false) c.store_all.ensures
