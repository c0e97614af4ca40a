use mathlib.Core.Path.{◌∙◌}
use mathlib.Core.Bool.{true, false}
use Rattle.std.specs.Prelude.{Ok}
use Rattle.base.proofs.Options.{handed_on}
use Rattle.entity.specs.Layout.{value_of}
use Rattle.decode.specs.Decode.{test_at}
use Rattle.matching.proofs.Selectors.{tests_end, tests_step}
use Rattle.matching.proofs.tests_fit.Goals as goal

pub returns-in_err-test_fits : goal.returns-in_err-test_fits
returns-in_err-test_fits c = handed_on _ c.from_residual.ensures ∙ tests_step
    (value_of c.args.entity.bytes.now c.args.entity.range)
    (test_at c.args.tables.now.bundle.now c.args.tables.now.tests.now c.args.tables.now.numbers.now)
    c.args.range.to c.loop-k.k c.loop-k-test.true _
    c.test_fits.ensures _ c.in_err-test_fits.was
    ∙ c.loop-k.invariant

pub returns-then-not-branch : goal.returns-then-not-branch
returns-then-not-branch c = tests_step
    (value_of c.args.entity.bytes.now c.args.entity.range)
    (test_at c.args.tables.now.bundle.now c.args.tables.now.tests.now c.args.tables.now.numbers.now)
    c.args.range.to c.loop-k.k c.loop-k-test.true _
    c.test_fits.ensures (Ok false) (simp (c.in_ok-test_fits.was, c.if-not-branch.true))
    ∙ c.loop-k.invariant

pub loop-k-preserved : goal.loop-k-preserved
loop-k-preserved c = tests_step
    (value_of c.args.entity.bytes.now c.args.entity.range)
    (test_at c.args.tables.now.bundle.now c.args.tables.now.tests.now c.args.tables.now.numbers.now)
    c.args.range.to c.loop-k.k c.loop-k-test.true _
    c.test_fits.ensures (Ok true) (simp (c.in_ok-test_fits.was, c.if-not-branch.false))
    ∙ c.loop-k.invariant

pub returns : goal.returns
returns c = tests_end
    (value_of c.args.entity.bytes.now c.args.entity.range)
    (test_at c.args.tables.now.bundle.now c.args.tables.now.tests.now c.args.tables.now.numbers.now)
    c.args.range.to c.loop-k.k
    c.loop-k-test.false
    ∙ c.loop-k.invariant
