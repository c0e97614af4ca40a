-- A bundle as what the grammar's reader reads from, over any tables.
use Rattle.std.specs.Prelude.{ℕ, suc}
use Rattle.std.proofs.Math.Option.{none, some}
use Rattle.base.specs.Bytes.{Bytes}
use Rattle.base.specs.declared.Range.{Range}
use Rattle.base.specs.declared.refusal.Refusal.{Refusal}
use Rattle.bundle.specs.Bundle.{find_of}
use Rattle.cursor.specs.Cursor.{start}
use Rattle.cursor.specs.declared.Cursor.{Cursor}
use Rattle.token.specs.Elim.{on_step}
use Rattle.sheet.specs.Digits.{is_whole}
use Rattle.grammar.specs.Input.{Next, broken, end, token, Store, Input, number_of}
use Rattle.input.specs.Text.{next_of, token_of, place, reached_at, refusal_at, error_at, left}
use Rattle.input.specs.declared.Place.{Place}
use Rattle.input.specs.declared.Source.{Source}
use Rattle.base.specs.Option.{on_option2}

-- a text, and a cursor in it
pub record Spot : Type 0 where
  pub source : Source
  pub cursor : Cursor

abbrev pub spot : Source → Cursor → Spot
spot s c = record { source = s; cursor = c }

abbrev pub source : ℕ → Range → Source
source k r = record { number = k; range = r }

module _ (bundle : Bytes) where
  unfoldable pub next_at : Source → Cursor → Next Spot Place Refusal
  next_at s c =
      on_step (next_of bundle s c)
      (λ e. broken (error_at s e))
      (λ d. end (spot s d))
      λ t line character d. token (token_of bundle t) (place s.number line character) (spot s d)

  -- over any tables
  abbrev pub input_of : {T : Type 0} → Store T → Input Spot T Place Refusal
  input_of s =
      record {
        next = λ p. next_at p.source p.cursor;
        reached = λ p. reached_at p.source p.cursor;
        why = λ r o. refusal_at (number_of r).0 (number_of r).1 o;
        text = λ a. on_option2 (find_of bundle a) none λ k r. some (spot (source k r) start);
        fuel = λ p. suc (left bundle p.source p.cursor);
        countable = is_whole;
        store = s;
      }
