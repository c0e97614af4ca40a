use native.Mathlib.Omega.{arith}
use mathlib.Core.Path.{refl}
use Rattle.walk.proofs.RowLaws.{filled_before, filled_length, filling_full, filling_step, filling_used, filling_kept}
use Rattle.walk.proofs.rows.assign_range.Goals as goal

pub returns-then-row-count : goal.returns-then-row-count
returns-then-row-count c = record { used = filled_before _ c.args.row.now _ _ _ c.if-row-count.true; kept = λ l. absurd (omega arith) }

pub loop-p-init : goal.loop-p-init
loop-p-init c = record { in_row = c.if-row-count.false; same_length_lem = refl; tail = refl; rest = refl }

pub assign_property-n-requires : goal.assign_property-n-requires
assign_property-n-requires c = c.loop-p.invariant.in_row

pub returns-then-n-row : goal.returns-then-n-row
returns-then-n-row c = let loop = c.loop-p in
    let call = c.assign_property-n in
    let l = filled_length _ _ _ _ _ _ _ _ loop.invariant _ _ call.ensures.used call.ensures.assigned in record { used = filling_full _ _ _ _ _ _ _ _ loop.invariant _ (omega arith) call.ensures.used (omega (arith, loop.invariant.same_length_lem)); kept = λ less. absurd (omega (arith, loop.invariant.same_length_lem)) }

pub loop-p-preserved : goal.loop-p-preserved
loop-p-preserved c = let loop = c.loop-p in
    let call = c.assign_property-n in
    let l = filled_length _ _ _ _ _ _ _ _ loop.invariant _ _ call.ensures.used call.ensures.assigned in
    filling_step _ _ _ _ _ _ _ _ loop.invariant _ _ (omega arith) call.ensures.used call.ensures.assigned l.0 (omega arith)

pub returns : goal.returns
returns c = let loop = c.loop-p in record { used = filling_used _ _ _ _ _ _ _ _ loop.invariant (omega arith); kept = λ l. filling_kept _ _ _ _ _ _ _ _ loop.invariant (omega arith) }
