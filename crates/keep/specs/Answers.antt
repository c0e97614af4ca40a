-- What reading and storing answers: what the grammar's reader answers over the bundle and the lent tables.
use Rattle.std.specs.Prelude.{ℕ, ◌≤◌, ◌≡◌, Result, Ok, Err}
use Rattle.base.specs.Bytes.{Bytes}
use Rattle.base.specs.declared.refusal.Refusal.{Refusal}
use Rattle.cursor.specs.declared.Cursor.{Cursor}
use Rattle.grammar.specs.Input.{Answer, refused, read}
use Rattle.keep.specs.Lent.{Lent}
use Rattle.input.specs.Source.{Spot, spot}
use Rattle.input.specs.Text.{left}
use Rattle.input.specs.declared.Source.{Source}

-- the answer r is the reader's: its refusal, or its cursor, behind which no more than so many bytes are left, and the store as it is then
pub data Reads {A : Type 0} (bundle : Bytes) (s : Source) (bound : ℕ) (then : Lent) : Result Cursor Refusal → Answer A Spot Lent Refusal → Type 0 where
  refuses : {e e' : Refusal} {τ : Lent} → e ≡ e' → Reads bundle s bound then (Err e) (refused e' τ)
  done : {x : A} (d : Cursor) → left bundle s d ≤ bound → Reads bundle s bound then (Ok d) (read x (spot s d) then)
