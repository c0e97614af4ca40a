use Prim.Native.Nat.{◌+◌}
use mathlib.Core.Path.{◌∙◌, ap}
use native.Mathlib.Omega.{arith}
use lib.ListN.{set}
use Rattle.drawing.proofs.ListLaws.{count_more}
use Rattle.drawing.proofs.list.count_from.Goals as goal

pub loop-i-preserved : goal.loop-i-preserved
loop-i-preserved c = let l = c.loop-i in
    ap (λ t. set t l.i (c.args.from + l.i)) l.invariant ∙ count_more c.args.order.now c.args.from l.i (omega arith)
