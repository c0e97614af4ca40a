use Rattle.properties.specs.Eval.{FormsFrom}
use Rattle.input.specs.Text.{left}
use Prim.Native.Nat.{◌≤◌}
use Rattle.properties.proofs.eval.read_form.Given as goal
use Rattle.base.specs.declared.refusal.Refusal.{Refusal}
use Rattle.cursor.specs.declared.Cursor.{Cursor}
use Rattle.properties.specs.declared.Form.{Form}
use Rattle.std.specs.Prelude.{Result}

abbrev pub invariant-loop-t : goal.invariant-loop-t
invariant-loop-t l = (left l.text.bundle.now l.text.source l.at ≤ left l.text.bundle.now l.text.source l.initial.at)
    × ((r : Result (Form × Cursor) Refusal) → FormsFrom l.text.bundle.now l.text.source (left l.text.bundle.now l.text.source l.initial.at) l.f l.at r → FormsFrom l.text.bundle.now l.text.source (left l.text.bundle.now l.text.source l.initial.at) l.initial.f l.initial.at r)

abbrev pub decreases-loop-t : goal.decreases-loop-t
decreases-loop-t l = left l.text.bundle.now l.text.source l.at
