use Rattle.rules.specs.Kind.{SkipsFrom}
use Rattle.input.specs.Text.{left}
use Prim.Native.Nat.{◌≤◌}
use Rattle.rules.proofs.kind.skip_colors.Given as goal
use Rattle.base.specs.declared.refusal.Refusal.{Refusal}
use Rattle.cursor.specs.declared.Cursor.{Cursor}
use Rattle.std.specs.Prelude.{Result}

abbrev pub invariant-loop-t : goal.invariant-loop-t
invariant-loop-t l = (left l.text.bundle.now l.text.source l.at ≤ left l.text.bundle.now l.text.source l.initial.at)
    × ((r : Result Cursor Refusal) → SkipsFrom l.text.bundle.now l.text.source (left l.text.bundle.now l.text.source l.initial.at) l.at r → SkipsFrom l.text.bundle.now l.text.source (left l.text.bundle.now l.text.source l.initial.at) l.initial.at r)

abbrev pub decreases-loop-t : goal.decreases-loop-t
decreases-loop-t l = left l.text.bundle.now l.text.source l.at
