-- What the loop of tests_fit keeps: the tests that are left answer as all do.
use mathlib.Core.Path.{◌≡◌}
use Rattle.entity.specs.Layout.{value_of}
use Rattle.decode.specs.Decode.{test_at}
use Rattle.matching.proofs.Selectors.{left_fit}
use Rattle.matching.proofs.tests_fit.Given as goal

abbrev pub invariant-loop-k : goal.invariant-loop-k
invariant-loop-k l = left_fit (value_of l.entity.bytes.now l.entity.range) (test_at l.tables.bundle.now l.tables.tests.now l.tables.numbers.now) l.fn.range.to l.k
    ≡ left_fit (value_of l.entity.bytes.now l.entity.range) (test_at l.tables.bundle.now l.tables.tests.now l.tables.numbers.now) l.fn.range.to l.fn.range.from
