-- The cases are what was read, and the totals come last.
use Rattle.std.proofs.Common.{arith, ap, take}
use Rattle.std.proofs.lemmas.Result.{on_ok_weaker}
use Rattle.stdio.specs.Cases.{Replayed}
use Rattle.stdio.proofs.Ran.{replayed}
use Rattle.stdio.proofs.cases.replay.Goals as goal

pub returns : goal.returns
returns g c = on_ok_weaker {Q = Replayed _ _ _ _} _ (λ told. replayed _ c.in_ok-tally.ensures c.in_ok-n.ensures.bytes (_, told) (ap (λ k. take k c.read_full.new.buf) (omega arith))) c.totals.ensures
