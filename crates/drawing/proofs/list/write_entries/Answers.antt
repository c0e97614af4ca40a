use native.Mathlib.Omega.{arith}
use mathlib.Core.Path.{◌∙◌}
use lib.ListN.{length}
use Rattle.drawing.proofs.ListLaws.{write_more}
use Rattle.drawing.proofs.list.write_entries.Goals as goal

pub loop-i-preserved : goal.loop-i-preserved
loop-i-preserved c = let a = c.args in
    let l = c.loop-i in
    c.store_all.ensures
    ∙ write_more a.keys.now a.order.now (length a.list.now) l.i _ c.loop-i-test.true
    (omega (arith, c.loop-i-test.true, c.requires.0)) c.at_or-k.ensures _ l.invariant
