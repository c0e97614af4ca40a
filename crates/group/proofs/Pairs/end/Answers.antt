use Rattle.std.proofs.Common.{arith, rules, tests}
use Rattle.group.proofs.Skips.{skip_folded}
use Rattle.group.proofs.Pairs.end.Goals as goal

pub returns : goal.returns
returns c =
    skip_folded _ _ c.args.self.s.now (λ at x v h k. search (rules, tests)) _ c.try_fold.new.self
    c.args.self.count c.args.self.at c.try_fold.result (omega arith) c.try_fold.ensures.ran
