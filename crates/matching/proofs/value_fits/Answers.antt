use Rattle.matching.proofs.Tests.{value_exists, value_not_exists, value_true, value_false, value_equal, value_not_equal, value_digits, value_not_digits, compares_numbers, value_number}
use Rattle.matching.proofs.value_fits.Goals as goal

pub returns-in-Exists : goal.returns-in-Exists
returns-in-Exists c = value_exists
    c.args.tables.now.bundle.now
    c.args.tables.now.tests.now
    c.args.tables.now.numbers.now
    c.args.i
    c.args.v.now _ c.kind_of-kind.ensures
    c.in-Exists.is

pub returns-in-NotExists : goal.returns-in-NotExists
returns-in-NotExists c = value_not_exists
    c.args.tables.now.bundle.now
    c.args.tables.now.tests.now
    c.args.tables.now.numbers.now
    c.args.i
    c.args.v.now _ c.kind_of-kind.ensures
    c.in-NotExists.is

pub returns-in-True : goal.returns-in-True
returns-in-True c = value_true
    c.args.tables.now.bundle.now
    c.args.tables.now.tests.now
    c.args.tables.now.numbers.now
    c.args.i
    c.args.v.now _
    c.kind_of-kind.ensures _ c.in-True.is
    c.is_true.ensures

pub returns-in-False : goal.returns-in-False
returns-in-False c = value_false
    c.args.tables.now.bundle.now
    c.args.tables.now.tests.now
    c.args.tables.now.numbers.now
    c.args.i
    c.args.v.now _
    c.kind_of-kind.ensures _ c.in-False.is
    c.is_true-in-False.ensures

pub returns-in-TextEqual : goal.returns-in-TextEqual
returns-in-TextEqual c = value_equal
    c.args.tables.now.bundle.now
    c.args.tables.now.tests.now
    c.args.tables.now.numbers.now
    c.args.i
    c.args.v.now _
    c.kind_of-kind.ensures _ _ c.text_of.ensures
    c.same_bytes.ensures c.in-TextEqual.is

pub returns-in-TextNotEqual : goal.returns-in-TextNotEqual
returns-in-TextNotEqual c = value_not_equal
    c.args.tables.now.bundle.now
    c.args.tables.now.tests.now
    c.args.tables.now.numbers.now
    c.args.i
    c.args.v.now _
    c.kind_of-kind.ensures _ _ c.text_of-in-TextNotEqual.ensures
    c.same_bytes-in-TextNotEqual.ensures c.in-TextNotEqual.is

pub returns-in-NumberEqual : goal.returns-in-NumberEqual
returns-in-NumberEqual c = value_digits
    c.args.tables.now.bundle.now
    c.args.tables.now.tests.now
    c.args.tables.now.numbers.now
    c.args.i
    c.args.v.now _
    c.kind_of-kind.ensures _ _ c.number_of.ensures
    c.is_digits_of.ensures c.in-NumberEqual.is

pub returns-in-NumberNotEqual : goal.returns-in-NumberNotEqual
returns-in-NumberNotEqual c = value_not_digits
    c.args.tables.now.bundle.now
    c.args.tables.now.tests.now
    c.args.tables.now.numbers.now
    c.args.i
    c.args.v.now _
    c.kind_of-kind.ensures _ _ c.number_of-in-NumberNotEqual.ensures
    c.is_digits_of-in-NumberNotEqual.ensures c.in-NumberNotEqual.is

pub returns-in_default : goal.returns-in_default
returns-in_default c = let d = c.in_default in
    value_number
    c.args.tables.now.bundle.now
    c.args.tables.now.tests.now
    c.args.tables.now.numbers.now
    c.args.i
    c.args.v.now _
    c.kind_of-kind.ensures _ _
    (compares_numbers _ _ _ _ d.not-Exists d.not-NotExists d.not-True d.not-False d.not-TextEqual d.not-TextNotEqual d.not-NumberEqual d.not-NumberNotEqual)
    c.number_of-in_default.ensures c.number_fits.ensures
