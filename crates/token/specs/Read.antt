-- The readers of tokens. Each takes the text and the place behind what was read; the order is that of the Rust.
use Rattle.std.specs.Prelude.{ℕ, suc, Bool, true, eqb, length, Option, Some, None, Result, Ok, Err}
use Rattle.base.specs.Bytes.{Bytes, ascii, same, within}
use Rattle.base.specs.Choice.{pick}
use Rattle.base.specs.Turns.{Turn, more, done, turns}
use Rattle.base.specs.declared.Range.{Range}
use Rattle.space.specs.Space.{is_white_space}
use Rattle.cursor.specs.Class.{in_span, can_be_in_at_directive, can_start_identifier, can_continue_identifier}
use Rattle.cursor.specs.Cursor.{next_char}
use Rattle.cursor.specs.declared.Cursor.{Cursor}
use Rattle.token_kind.specs.Reason.{Reading, after_minus, symbol, after_at, import_string, open_string, lexer_error}
use Rattle.token_kind.specs.Signs.{get_two_char_simple_token, get_one_char_simple_token}
use Rattle.token_number.specs.Number.{read_number}
use Rattle.token_zoom.specs.Zoom.{read_color, read_zoom_range}
use Rattle.token_kind.specs.declared.LexerError.{LexerError}
use Rattle.token_kind.specs.declared.Token.{Token}
use Rattle.token_kind.specs.declared.Token.TheVariants.{Import, Identifier, Text, ColorRef}
use Rattle.base.specs.Option.{on_option, on_option2, on_result2}

abbrev pub range : ℕ → ℕ → Range
range from to = record { from = from; to = to }

-- characters of a class go on
abbrev pub class_turn : (ℕ → Bool) → Bytes → Cursor → Turn Cursor Cursor
class_turn p s c = on_result2 (next_char s c) (λ d. done c) λ ch d. pick (p ch) (more d) (done c)

abbrev pub class_end : (ℕ → Bool) → Bytes → Cursor → Cursor
class_end p s c = turns (class_turn p s) c (suc (length s)) c

-- behind a name
unfoldable pub identifier_end : Bytes → Cursor → Cursor
identifier_end = class_end can_continue_identifier

unfoldable pub read_identifier : Bytes → ℕ → Cursor → Reading
read_identifier s from c = let end = identifier_end s c in Ok (Identifier (range from end.at), end)

-- to the closing quote
abbrev pub quoted_turn : Bytes → ℕ → Cursor → Turn Cursor (Result (Range × Cursor) LexerError)
quoted_turn s from c =
    on_result2 (next_char s c) (λ d. done (Err (lexer_error open_string d))) λ ch d.
    pick (eqb ch 34) (done (Ok (range from c.at, d))) (more d)

unfoldable pub read_quoted : Bytes → Cursor → Result (Range × Cursor) LexerError
read_quoted s c = turns (quoted_turn s c.at) (Err (lexer_error open_string c)) (suc (length s)) c

unfoldable pub read_string : Bytes → Cursor → Reading
read_string s c = on_result2 (read_quoted s c) Err λ text d. Ok (Text text, d)

-- behind a blank or a bracket, if one stands here
unfoldable pub skip_one : Bytes → ℕ → Cursor → Cursor
skip_one s bracket c =
    on_result2 (next_char s c) (λ d. c) λ ch d.
    pick (is_white_space ch) d (pick (eqb ch bracket) d c)

unfoldable pub read_import : Bytes → Cursor → Reading
read_import s c =
    on_result2 (next_char s c) (λ d. Err (lexer_error import_string d)) λ ch d.
    pick (eqb ch 34)
    (on_result2 (read_quoted s d) Err λ text e. Ok (Import text, skip_one s 41 e))
    (Err (lexer_error import_string d))

-- the word from a place up to c
unfoldable pub read_directive : Bytes → ℕ → Cursor → Reading
read_directive s from c =
    pick (same (within (range from c.at) s) (ascii "import"))
    (read_import s (skip_one s 40 c))
    (Ok (ColorRef (range from c.at), c))

-- behind a word
unfoldable pub at_directive_end : Bytes → Cursor → Cursor
at_directive_end = class_end can_be_in_at_directive

unfoldable pub read_at_directive : Bytes → Cursor → Reading
read_at_directive s c =
    on_result2 (next_char s c) (λ d. Err (lexer_error after_at d)) λ ch d.
    pick (can_be_in_at_directive ch) (read_directive s c.at (at_directive_end s d)) (Err (lexer_error after_at d))

unfoldable pub read_after_minus : Bytes → ℕ → Cursor → Reading
read_after_minus s idx c =
    on_result2 (next_char s c) (λ d. Err (lexer_error after_minus c)) λ ch d.
    pick (in_span 48 57 ch) (read_number s 45 c)
    (pick (can_continue_identifier ch) (read_identifier s idx c)
    (Err (lexer_error after_minus c)))

unfoldable pub read_other : Bytes → ℕ → ℕ → Cursor → Reading
read_other s idx ch c =
    pick (eqb ch 45) (read_after_minus s idx c)
    (pick (eqb ch 124) (read_zoom_range s c)
    (pick (eqb ch 35) (read_color s c)
    (Err (lexer_error symbol c))))

-- 0-9 + .
unfoldable pub starts_number : ℕ → Bool
starts_number ch = pick (in_span 48 57 ch) true (pick (eqb ch 43) true (eqb ch 46))

unfoldable pub read_long : Bytes → ℕ → ℕ → Cursor → Reading
read_long s idx ch c =
    pick (eqb ch 64) (read_at_directive s c)
    (pick (eqb ch 42) (Ok (Identifier (range idx c.at), c))
    (pick (can_start_identifier ch) (read_identifier s idx c)
    (pick (eqb ch 34) (read_string s c)
    (pick (starts_number ch) (read_number s ch c)
    (read_other s idx ch c)))))

unfoldable pub read_single : Bytes → ℕ → ℕ → Cursor → Reading
read_single s idx ch c = on_option (get_one_char_simple_token ch) (read_long s idx ch c) λ token. Ok (token, c)

-- the sign of two letters that ch begins
unfoldable pub read_pair : Bytes → ℕ → Cursor → Option (Token × Cursor)
read_pair s ch c =
    on_result2 (next_char s c) (λ d. None) λ next d.
    on_option (get_two_char_simple_token ch next) None λ token.
    Some (token, d)

-- the token that the character ch at the place idx begins; c is behind it
unfoldable pub read_token : Bytes → ℕ → ℕ → Cursor → Reading
read_token s idx ch c = on_option2 (read_pair s ch c) (read_single s idx ch c) λ token d. Ok (token, d)
