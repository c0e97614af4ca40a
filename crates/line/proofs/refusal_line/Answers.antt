use borrow.Author.Rules.{rules}
use mathlib.Core.Path.{refl, ◌∙◌, ap}
use Rattle.line.proofs.LineLaws.{numbers_more, refusal_done}
use Rattle.line.proofs.refusal_line.Goals as goal

pub loop-x-preserved : goal.loop-x-preserved
loop-x-preserved c = (
  numbers_more _ _ _ c.loop-x.x-index c.numbers-x-items.ensures c.loop-x-test.true c.put_number.ensures.put ∙ c.loop-x.invariant.0,
  c.put_number.ensures.same_reference ∙ c.loop-x.invariant.1,
)

pub returns : goal.returns
returns c =
    ap (λ o. (c.put_byte.new.self.n, o)) (search rules)
    ∙ refusal_done _ c.args.out.now c.args.e _ c.loop-x.x-index c.numbers-x-items.ensures c.loop-x-test.false
    c.put_bytes.ensures.put c.loop-x.invariant.0 c.put_byte.ensures.put
