use Rattle.std.proofs.Common.{ap, length, arith}
use Rattle.base.specs.Choice.{via}
use Rattle.group.proofs.Runs.{run_end, run_broken, run_two}
use Rattle.group.proofs.PairsIterator.next.Goals as goal

pub returns-then-self-eq0-clause-steps : goal.returns-then-self-eq0-clause-steps
returns-then-self-eq0-clause-steps c = let p = c.args.self.now in let e = run_end p.count p.s.now p.at (omega arith) in (e, e)

pub returns-in_err-pair-clause-steps : goal.returns-in_err-pair-clause-steps
returns-in_err-pair-clause-steps c =
    let p = c.args.self.now in
    let e = run_broken p.count p.s.now p.at (omega arith) (via c.pair_at.ensures c.in_err-pair.was) in
    rw c.from_residual.ensures (e, e)

pub returns-clause-steps : goal.returns-clause-steps
returns-clause-steps c = let p = c.args.self.now in run_two p.count p.s.now p.at _ _ (omega arith) (via c.pair_at.ensures c.in_ok-pair.was)

pub returns-clause-goes : goal.returns-clause-goes
returns-clause-goes c =
    let p = c.args.self.now in
    let e = run_two p.count p.s.now p.at _ _ (omega arith) (via c.pair_at.ensures c.in_ok-pair.was) in
    record { on = λ _. (tt, tt, omega (arith, ap length e)); keeps = tt; rests = λ _. tt }
