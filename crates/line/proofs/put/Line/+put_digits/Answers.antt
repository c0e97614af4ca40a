use Prim.Native.Nat.{◌+◌, ◌%◌}
use mathlib.Core.Path.{◌∙◌, ap}
use Rattle.line.specs.Put.{put}
use Rattle.line.proofs.LineLaws.{digits_one, digits_more}
use Rattle.line.proofs.put.Line.+put_digits.Goals as goal
use Rattle.line.proofs.put.Line.+put_digits.Goals.{then-x-ge10, else-x-ge10}

pub returns-clause-put : goal.returns-clause-put
returns-clause-put t c = elim c.if-x-ge10.branch [
  | then-x-ge10 w ↦ digits_more _ c.args.x w.if-x-ge10.true w.put_digits.ensures.put (c.put_byte.ensures.put ∙ ap (λ l. put (l.n, l.out.now) (48 + c.args.x % 10)) w.self-is)
  | else-x-ge10 w ↦ digits_one _ c.args.x w.if-x-ge10.false (c.put_byte.ensures.put ∙ ap (λ l. put (l.n, l.out.now) (48 + c.args.x % 10)) w.self-is)
]
