use Rattle.matching.proofs.Tests.{test_absent, test_value_lem}
use Rattle.matching.proofs.test_fits.Goals as goal

pub returns-in-None : goal.returns-in-None
returns-in-None c = test_absent
    c.args.tables.now.bundle.now
    c.args.tables.now.tests.now
    c.args.tables.now.numbers.now
    c.args.i
    c.args.entity.bytes.now
    c.args.entity.range _
    c.tag_of.ensures c.in-None.is _
    c.kind_of.ensures _ c.absent_fits.ensures

pub returns-in-Some : goal.returns-in-Some
returns-in-Some c = test_value_lem
    c.args.tables.now.bundle.now
    c.args.tables.now.tests.now
    c.args.tables.now.numbers.now
    c.args.i
    c.args.entity.bytes.now
    c.args.entity.range _
    c.tag_of.ensures _ _ c.in-Some.is _
    c.part.ensures c.value_fits.ensures
