-- The reasons of an error, by name, and the error at a place.
use Rattle.std.specs.Prelude.{ℕ, Result}
use Rattle.cursor.specs.declared.Cursor.{Cursor}
use Rattle.token_kind.specs.declared.LexerError.{LexerError}
use Rattle.token_kind.specs.declared.Token.{Token}

abbrev pub after_minus : ℕ
after_minus = 1

abbrev pub symbol : ℕ
symbol = 2

abbrev pub after_at : ℕ
after_at = 3

abbrev pub import_string : ℕ
import_string = 4

abbrev pub open_string : ℕ
open_string = 5

abbrev pub nothing_after_sign : ℕ
nothing_after_sign = 6

abbrev pub no_number_after_sign : ℕ
no_number_after_sign = 7

abbrev pub no_fraction : ℕ
no_fraction = 8

abbrev pub bad_color : ℕ
bad_color = 9

abbrev pub z_wanted : ℕ
z_wanted = 10

abbrev pub empty_zoom_range : ℕ
empty_zoom_range = 11

abbrev pub open_comment : ℕ
open_comment = 12

unfoldable pub lexer_error : ℕ → Cursor → LexerError
lexer_error reason c = record { reason = reason; line = c.line; character = c.character }

-- what a reader of one kind of token answers: the token and the place behind it, or an error
abbrev pub Reading : Type 0
Reading = Result (Token × Cursor) LexerError
