-- The kind of a stored number is the one that was stored.
use mathlib.Core.Path.{refl}
use Rattle.base.specs.Choice.{pick}
use Rattle.table.specs.declared.kind.TestKind.TheVariants.{Exists}
use Rattle.table.specs.declared.kind.ObjectKind.TheVariants.{All}
use Rattle.table.specs.Kind.{test_kind, object_kind, TestKindBack, ObjectKindBack}

pub test_kind_back : TestKindBack
unfolding test_kind pick
test_kind_back Exists = refl
test_kind_back k = refl

pub object_kind_back : ObjectKindBack
unfolding object_kind pick
object_kind_back All = refl
object_kind_back k = refl
