-- What a test asks, and what objects a selector is of: the number that stands in the table, and the kind that it is read back as, the last
-- where none has it. docs/TABLES.md has the numbers as a page.
use Rattle.std.specs.Prelude.{ℕ, eqb, ◌≡◌}
use Rattle.base.specs.Choice.{pick}
use Rattle.table.specs.declared.kind.TestKind.{TestKind}
use Rattle.table.specs.declared.kind.TestKind.TheVariants.{Exists, NotExists, True, False, TextEqual, TextNotEqual, NumberEqual, NumberNotEqual, Less, LessOrEqual, Greater, GreaterOrEqual}
use Rattle.table.specs.declared.kind.ObjectKind.{ObjectKind}
use Rattle.table.specs.declared.kind.ObjectKind.TheVariants.{All, Canvas, Meta, Node, Way, Area}

abbrev pub test_number : TestKind → ℕ
test_number Exists = 1
test_number NotExists = 2
test_number True = 3
test_number False = 4
test_number TextEqual = 5
test_number TextNotEqual = 6
test_number NumberEqual = 7
test_number NumberNotEqual = 8
test_number Less = 9
test_number LessOrEqual = 10
test_number Greater = 11
test_number GreaterOrEqual = 12

unfoldable pub test_kind : ℕ → TestKind
test_kind k =
    pick (eqb k 1) Exists
    (pick (eqb k 2) NotExists
    (pick (eqb k 3) True
    (pick (eqb k 4) False
    (pick (eqb k 5) TextEqual
    (pick (eqb k 6) TextNotEqual
    (pick (eqb k 7) NumberEqual
    (pick (eqb k 8) NumberNotEqual
    (pick (eqb k 9) Less
    (pick (eqb k 10) LessOrEqual
    (pick (eqb k 11) Greater GreaterOrEqual))))))))))

-- what is stored is read back
abbrev pub TestKindBack : Type 0
TestKindBack = (k : TestKind) → test_kind (test_number k) ≡ k

abbrev pub object_number : ObjectKind → ℕ
object_number All = 1
object_number Canvas = 2
object_number Meta = 3
object_number Node = 4
object_number Way = 5
object_number Area = 6

unfoldable pub object_kind : ℕ → ObjectKind
object_kind k =
    pick (eqb k 1) All
    (pick (eqb k 2) Canvas
    (pick (eqb k 3) Meta
    (pick (eqb k 4) Node
    (pick (eqb k 5) Way Area))))

abbrev pub ObjectKindBack : Type 0
ObjectKindBack = (k : ObjectKind) → object_kind (object_number k) ≡ k
