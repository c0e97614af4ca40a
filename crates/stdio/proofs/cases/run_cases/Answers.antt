-- Each turn adds one case, by what it answered.
use Rattle.std.proofs.Common.{arith, ◌≡◌, refl, length}
use Rattle.stdio.specs.Cases.{none, broken}
use Rattle.stdio.proofs.Ran.{moved, same_on, other_on}
use Rattle.stdio.proofs.cases.run_cases.Goals.{in-None+in_ok-line-in-None, in-Some-default-true, in-Some-default-false+in_ok-line-in-Some-default-false}
use Rattle.stdio.proofs.cases.run_cases.Goals as goal

pub loop-at-init : goal.loop-at-init
loop-at-init g c = (omega arith, omega arith, omega arith, none)

pub loop-at-preserved : goal.loop-at-preserved
loop-at-preserved g c =
    let before = c.loop-at.invariant.3 in
    elim c.match-at.branch [
      | in-None+in_ok-line-in-None w ↦
          (omega arith, omega arith, omega arith, moved (broken before w.in-None.ensures.answers) (omega arith) (omega arith))
      | in-Some-default-true w ↦
          let on = w.in-Some-default-true.ensures.forward in
          (omega arith, omega arith, omega arith, moved (same_on w.in-Some-default-true.field-0-1-test before w.in-Some-default-true.ensures.answers) (omega arith) (omega arith))
      | in-Some-default-false+in_ok-line-in-Some-default-false w ↦
          let on = w.in-Some-default-false.ensures.forward in
          (omega arith, omega arith, omega arith, moved (other_on w.in-Some-default-false.field-0-1-test before w.in-Some-default-false.ensures.answers) (omega arith) (omega arith))
    ]

pub returns : goal.returns
returns g c = let e : length c.args.s.now ≡ c.loop-at.at = omega arith in moved c.loop-at.invariant.3 e refl
