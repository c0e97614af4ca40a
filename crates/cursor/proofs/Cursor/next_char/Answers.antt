use mathlib.Core.Path.{refl}
use mathlib.Core.Logic.{inl, inr}
use Rattle.base.specs.Choice.{via}
use Rattle.cursor.proofs.Onward.{char_fits}
use Rattle.cursor.specs.Cursor.{next_char}
use Rattle.utf8.specs.Elim.{Char-Bad, Char-Code, Char-End}
use Rattle.cursor.proofs.Cursor.next_char.Goals as goal

pub overflow_add-at : goal.overflow_add-at
overflow_add-at c = search char_fits

pub returns-in-Bad : goal.returns-in-Bad
unfolding next_char
returns-in-Bad c =
    elim c.in-Bad.is [
      | inl q ↦ Char-Bad _ _ _ _ (via c.peek.ensures q) (rw c.passed.ensures refl)
      | inr q ↦ Char-End _ _ _ _ (via c.peek.ensures q) (rw c.passed.ensures refl)
    ]

pub returns-in-Code : goal.returns-in-Code
unfolding next_char
returns-in-Code c = Char-Code _ _ _ _ (via c.peek.ensures c.in-Code.is) (rw c.passed-in-Code.ensures refl)
