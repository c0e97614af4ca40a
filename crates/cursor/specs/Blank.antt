-- What stands before a token: blanks and comments.
use Rattle.std.specs.Prelude.{suc, eqb, length, Option, Some, None, Result, Ok, Err}
use Rattle.base.specs.Bytes.{Bytes}
use Rattle.base.specs.Choice.{pick}
use Rattle.base.specs.Option.{on_result, on_result2, on_result_option}
use Rattle.base.specs.Turns.{Turn, more, done, turns}
use Rattle.space.specs.Space.{is_white_space}
use Rattle.cursor.specs.Cursor.{next_char}
use Rattle.cursor.specs.declared.Cursor.{Cursor}
use Rattle.cursor.specs.declared.Significant.{Significant}
use Rattle.cursor.specs.declared.Significant.TheVariants.{Ended, Found}

-- to the newline, or into the end
abbrev pub line_turn : Bytes → Cursor → Turn Cursor Cursor
line_turn s c = on_result2 (next_char s c) done λ k d. pick (eqb k 10) (done d) (more d)

unfoldable pub skip_line_comment : Bytes → Cursor → Cursor
skip_line_comment s c = turns (line_turn s) c (suc (length s)) c

-- to the star before a slash; the error is the end, where the comment is still open
abbrev pub block_turn : Bytes → Cursor → Turn Cursor (Result Cursor Cursor)
block_turn s c =
    on_result2 (next_char s c) (λ d. done (Err d)) λ k d.
    pick (eqb k 42)
    (on_result2 (next_char s d) (λ e. more d) λ j e. pick (eqb j 47) (done (Ok e)) (more d))
    (more d)

unfoldable pub skip_block_comment : Bytes → Cursor → Result Cursor Cursor
skip_block_comment s c = turns (block_turn s) (Err c) (suc (length s)) c

-- behind a slash
unfoldable pub try_skip_comment : Bytes → Cursor → Result (Option Cursor) Cursor
try_skip_comment s c =
    on_result2 (next_char s c) (λ d. Ok None) λ k d.
    pick (eqb k 47) (Ok (Some (skip_line_comment s d)))
    (pick (eqb k 42) (on_result (skip_block_comment s d) Err λ e. Ok (Some e))
    (Ok None))

abbrev pub significant_turn : Bytes → Cursor → Turn Cursor (Result Significant Cursor)
significant_turn s c =
    on_result2 (next_char s c) (λ d. done (Ok (Ended d))) λ k d.
    pick (is_white_space k) (more d)
    (pick (eqb k 47)
    (on_result_option (try_skip_comment s d) (λ e. done (Err e)) (done (Ok (Found c.at k d))) more)
    (done (Ok (Found c.at k d))))

unfoldable pub next_significant_char : Bytes → Cursor → Result Significant Cursor
next_significant_char s c = turns (significant_turn s) (Ok (Ended c)) (suc (length s)) c
