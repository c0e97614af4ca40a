use Prim.Native.Nat.{◌+◌, ◌*◌, ◌-◌}
use native.Mathlib.Omega.{arith}
use Rattle.walk.specs.Rows.{numbers_in}
use Rattle.walk.specs.Walking.{names}
use Rattle.walk.proofs.LayerLaws.{assign_done}
use Rattle.walk.proofs.Walk.assign.Goals as goal

pub returns-then-k-lt129-clause-assign : goal.returns-then-k-lt129-clause-assign
returns-then-k-lt129-clause-assign c = let w = c.args.self.now in
    let call = c.assign_range-k in
    let done =
    assign_done (names w) w.rows.now _ (numbers_in c.args.ps) w.count
    c.i.inside.n call.result (omega arith) (omega arith) (c.i.inside.n * 131 + 1 + 1 + 129 - (c.i.inside.n * 131 + 1 + 1)) (omega arith)
    call.ensures.used call.ensures.kept in
    rw (← c.i.view_is) (done.0 (omega arith))

pub returns-clause-assign : goal.returns-clause-assign
returns-clause-assign c = let w = c.args.self.now in
    let call = c.assign_range-k in
    let done =
    assign_done (names w) w.rows.now _ (numbers_in c.args.ps) w.count
    c.i.inside.n call.result (omega arith) (omega arith) (c.i.inside.n * 131 + 1 + 1 + 129 - (c.i.inside.n * 131 + 1 + 1)) (omega arith)
    call.ensures.used call.ensures.kept in
    rw (← c.i.view_is) (done.1 (omega arith))
