use native.Mathlib.Omega.{arith}
use mathlib.Core.Path.{refl}
use borrow.Author.Tests.{le-ltb, lt-ltb}
use Rattle.base.specs.Choice.{if_false, if_true, via}
use Rattle.printing.proofs.PlateLaws.{frame_read}
use Rattle.group.proofs.Numbers.{number_most, number_within}
use Rattle.printing.specs.Frame.{frame_of}
use Rattle.printing.proofs.parts.Goals as goal
use Rattle.base.specs.Option.{option_none, option_some}

pub returns-then-len-gt60000 : goal.returns-then-len-gt60000
unfolding frame_of
returns-then-len-gt60000 c = if_true _ _ _ (lt-ltb _ _ c.if-len-gt60000.true) refl

pub overflow_add-end : goal.overflow_add-end
overflow_add-end c = let a = c.args in
    let r = via c.number_at.ensures c.in_ok-n.was in
    let m = number_most a.input.now 1 _ _ _ r in
    let w = number_within a.input.now 1 _ _ _ r in
    omega (arith, m, w.1)

pub returns-then-len-end : goal.returns-then-len-end
unfolding frame_of
returns-then-len-end c = if_false _ _ _
    (le-ltb _ _ c.if-len-gt60000.false)
    (option_some _ _ _
    (via c.number_at.ensures c.in_ok-n.was)
    (if_true _ _ _ (lt-ltb _ _ c.if-len-end.true) refl))

pub returns-in_err-n : goal.returns-in_err-n
unfolding frame_of
returns-in_err-n c = if_false _ _ _ (le-ltb _ _ c.if-len-gt60000.false)
    (option_none _ _ _ (via c.number_at.ensures c.in_err-n.was) c.from_residual.ensures)

pub returns : goal.returns
returns c = frame_read
    c.args.input.now _ _ _ _
    c.if-len-gt60000.false
    c.number_at.ensures c.in_ok-n.was
    c.if-len-end.false c.byte_at.ensures
