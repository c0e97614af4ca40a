use Rattle.std.proofs.Common.{ℕ, ◌+◌, eqb, sym, ap, ◌∙◌, arith, ne_eqb}
use Rattle.digits.proofs.Written.{natural_end, natural_long, natural_last, natural_differ, natural_next}
use Rattle.digits.proofs.is_natural.Goals as goal

pub returns-then-i-eq0 : goal.returns-then-i-eq0
returns-then-i-eq0 c = ap (λ (b : ℕ). eqb b (48 + c.loop-i.rest)) c.from-b.ensures
    ∙ natural_last c.args.v.now c.loop-i.i c.loop-i.rest c.loop-i.auto.i c.loop-i-test.true (omega arith) c.if-rest-lt10.true
    ∙ c.loop-i.invariant.1

pub returns-else-i-eq0 : goal.returns-else-i-eq0
returns-else-i-eq0 c = ne_eqb _ 0 c.if-i-eq0.false
    ∙ natural_long c.args.v.now c.loop-i.i c.loop-i.rest c.loop-i.auto.i (λ e. c.if-i-eq0.false (omega arith)) c.if-rest-lt10.true
    ∙ c.loop-i.invariant.1

pub returns-then-b-rest : goal.returns-then-b-rest
returns-then-b-rest c = natural_differ c.args.v.now c.loop-i.i c.loop-i.rest c.loop-i.auto.i c.loop-i-test.true c.if-rest-lt10.false (λ e. c.if-b-rest.true (c.from-b.ensures ∙ e))
    ∙ c.loop-i.invariant.1

pub loop-i-preserved : goal.loop-i-preserved
loop-i-preserved c = (
  omega arith,
  natural_next c.args.v.now c.loop-i.i c.loop-i.rest c.loop-i.auto.i c.loop-i-test.true c.if-rest-lt10.false (sym c.from-b.ensures ∙ c.if-b-rest.false)
      ∙ c.loop-i.invariant.1,
)

pub returns : goal.returns
returns c = natural_end c.args.v.now c.loop-i.i c.loop-i.rest c.loop-i-test.false ∙ c.loop-i.invariant.1
