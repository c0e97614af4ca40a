use Prim.Native.Nat.{◌+◌, ◌/◌}
use native.Mathlib.Omega.{arith}
use mathlib.Core.Path.{◌∙◌}
use Rattle.base.specs.Choice.{via}
use Rattle.group.proofs.Numbers.{number_end, number_single, number_small, number_stop, number_more, number_most}
use Rattle.group.proofs.+number_at.Goals as goal

pub returns-in_err-b : goal.returns-in_err-b
returns-in_err-b t c = c.from_residual.ensures ∙ number_end c.args.s.now c.args.at c.args.most c.in_err-b.ensures.lookup.0

pub returns-then-b-lt128 : goal.returns-then-b-lt128
returns-then-b-lt128 t c = c.last_byte.ensures
    ∙ number_single c.args.s.now
    c.args.at
    c.args.most c.in_ok-b.ensures.lookup.0 _ c.in_ok-b.ensures.lookup.1
    c.if-b-lt128.true

pub returns-then-most-lt128 : goal.returns-then-most-lt128
returns-then-most-lt128 t c = number_small c.args.s.now
    c.args.at
    c.args.most c.in_ok-b.ensures.lookup.0 _ c.in_ok-b.ensures.lookup.1
    c.if-b-lt128.false c.if-most-lt128.true

pub number_at-requires : goal.number_at-requires
number_at-requires t c = (omega (arith, c.decreases), tt)

pub first_byte-requires : goal.first_byte-requires
first_byte-requires t c = number_most
    c.args.s.now
    (c.args.at + 1)
    (c.args.most / 128) _ _
    (via c.number_at.ensures c.in_ok-v.was)

pub returns-in_err-v : goal.returns-in_err-v
returns-in_err-v t c = c.from_residual-in_err-v.ensures ∙ number_stop
    c.args.s.now
    c.args.at
    c.args.most
    c.in_ok-b.ensures.lookup.0 _ c.in_ok-b.ensures.lookup.1
    c.if-b-lt128.false c.number_at.result
    c.number_at.ensures c.in_err-v.was

pub returns : goal.returns
returns t c = c.first_byte.ensures
    ∙ number_more
    c.args.s.now
    c.args.at
    c.args.most
    c.in_ok-b.ensures.lookup.0 _ c.in_ok-b.ensures.lookup.1
    c.if-b-lt128.false
    c.number_at.result _ _
    c.number_at.ensures c.in_ok-v.was
