use mathlib.Core.Path.{◌∙◌}
use Rattle.line.proofs.LineLaws.{put_end, put_more}
use Rattle.line.proofs.put.Line.put_bytes.Goals as goal

pub loop-b-preserved : goal.loop-b-preserved
loop-b-preserved c = (
  put_more _ _ c.args.s.now c.loop-b.b-index c.loop-b-test.true c.put_byte.ensures.put ∙ c.loop-b.invariant.0,
  c.put_byte.ensures.same_reference ∙ c.loop-b.invariant.1,
)

pub returns-clause-put : goal.returns-clause-put
returns-clause-put c = put_end (c.loop-b.self.n, c.loop-b.self.out.now) c.args.s.now c.loop-b.b-index c.loop-b-test.false ∙ c.loop-b.invariant.0
