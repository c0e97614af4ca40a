-- The verdicts of the theory, as the code answers them.
use Rattle.std.specs.Prelude.{Bool, true, false, Result, Ok, Err}
use Rattle.sheet.specs.Sheet.{ObjectType, all, canvas, meta, node, way, area, NumericTest, less, less_or_equal, greater, greater_or_equal}
use Rattle.table.specs.declared.kind.TestKind.{TestKind}
use Rattle.table.specs.declared.kind.TestKind.TheVariants.{NotExists, False, TextNotEqual, NumberNotEqual, Less, LessOrEqual, Greater}
use Rattle.table.specs.declared.kind.ObjectKind.{ObjectKind}
use Rattle.table.specs.declared.kind.ObjectKind.TheVariants.{All, Canvas, Meta, Node, Way, Area}
use Rattle.cascade.specs.Match.{Verdict, pass, fail, out}
use Rattle.matching.specs.declared.OutOfRange.{OutOfRange}

-- the one value of its type
abbrev pub out_of_range : OutOfRange
out_of_range = record {}

abbrev pub fit_of : Verdict → Result Bool OutOfRange
fit_of pass = Ok true
fit_of fail = Ok false
fit_of out = Err out_of_range

abbrev pub type_of : ObjectKind → ObjectType
type_of All = all
type_of Canvas = canvas
type_of Meta = meta
type_of Node = node
type_of Way = way
type_of Area = area

-- the comparison of a numeric test, by its kind
abbrev pub comparison_of : TestKind → NumericTest
comparison_of Less = less
comparison_of LessOrEqual = less_or_equal
comparison_of Greater = greater
comparison_of k = greater_or_equal

-- the answer on a tag that is absent, by the test's kind
abbrev pub absent_of : TestKind → Bool
absent_of NotExists = true
absent_of False = true
absent_of TextNotEqual = true
absent_of NumberNotEqual = true
absent_of k = false
