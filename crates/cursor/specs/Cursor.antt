-- The cursor of a text, and the next character.
use Rattle.std.specs.Prelude.{ℕ, ◌+◌, Bool, false, eqb, ltb, Result, Ok, Err}
use Rattle.base.specs.Bytes.{Bytes}
use Rattle.base.specs.Choice.{pick}
use Rattle.utf8.specs.Utf8.{char_at}
use Rattle.utf8.specs.Elim.{on-Char}
use Rattle.cursor.specs.declared.Cursor.{Cursor}

abbrev pub cursor : ℕ → ℕ → ℕ → Bool → Cursor
cursor at line character newline = record { at = at; line = line; character = character; newline = newline }

abbrev pub start : Cursor
start = cursor 0 1 0 false

-- the largest number of the machine
abbrev pub most : ℕ
most = 0xFFFF_FFFF_FFFF_FFFF

-- one more; a count stays at the largest number, which no text reaches
unfoldable pub bump : ℕ → ℕ
bump n = pick (ltb n most) (n + 1) n

-- one character on: the character after a newline begins a line
unfoldable pub passed : Cursor → ℕ → Bool → Cursor
passed c to n =
    record {
      at = to;
      line = pick c.newline (bump c.line) c.line;
      character = pick c.newline 1 (bump c.character);
      newline = n;
    }

-- the end adds a character; bytes that are no character count as the end
unfoldable pub next_char : Bytes → Cursor → Result (ℕ × Cursor) Cursor
next_char s c =
    on-Char (char_at s c.at)
    (Err (passed c c.at false))
    (Err (passed c c.at false))
    λ k w. Ok (k, passed c (c.at + w) (eqb k 10))
