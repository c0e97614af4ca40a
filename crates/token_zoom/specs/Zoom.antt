-- Colours and zoom ranges.
use Rattle.std.specs.Prelude.{ℕ, suc, ◌&&◌, ◌+◌, ◌*◌, ◌/◌, ◌%◌, Bool, true, false, eqb, length, Option, Some, None, is_none, Ok, Err}
use Rattle.base.specs.Bytes.{Bytes}
use Rattle.base.specs.Choice.{pick}
use Rattle.base.specs.Turns.{Turn, more, done, turns}
use Rattle.color.specs.Named.{rgb}
use Rattle.color.specs.declared.Color.{Color as Rgb}
use Rattle.cursor.specs.Class.{to_digit}
use Rattle.cursor.specs.Cursor.{bump, next_char}
use Rattle.cursor.specs.declared.Cursor.{Cursor}
use Rattle.token_kind.specs.Reason.{Reading, bad_color, z_wanted, empty_zoom_range, lexer_error}
use Rattle.token_kind.specs.declared.Token.TheVariants.{ZoomRange, Color}
use Rattle.token_zoom.specs.declared.Hex.{Hex}
use Rattle.base.specs.Option.{on_option, on_option2, on_result2}

unfoldable pub read_digit : Bytes → ℕ → Cursor → Option (ℕ × Cursor)
read_digit s radix c =
    on_result2 (next_char s c) (λ d. None) λ ch d.
    on_option (to_digit ch radix) None λ digit.
    Some (digit, d)

-- the digits so far: how many, and the last seven of them as a number
abbrev pub hex : ℕ → ℕ → Cursor → Hex
hex n v c = record { count = n; value = v; end = c }

unfoldable pub hex_added : ℕ → ℕ → ℕ
hex_added v d = v % 0x100_0000 * 16 + d

abbrev pub hex_turn : Bytes → Hex → Turn Hex Hex
hex_turn s h =
    on_option2 (read_digit s 16 h.end) (done h) λ digit d.
    more (hex (bump h.count) (hex_added h.value digit) d)

unfoldable pub read_hex_digits : Bytes → Cursor → Hex
read_hex_digits s c = turns (hex_turn s) (hex 0 0 c) (suc (length s)) (hex 0 0 c)

-- of the digits abcdef: ab, cd, ef
unfoldable pub six_digits : ℕ → Rgb
six_digits v = rgb (v / 65536 % 256) (v / 256 % 256) (v % 256)

-- of the digits abc: aa, bb, cc
unfoldable pub three_digits : ℕ → Rgb
three_digits v = rgb (v / 256 % 16 * 17) (v / 16 % 16 * 17) (v % 16 * 17)

unfoldable pub read_color : Bytes → Cursor → Reading
read_color s c =
    let h = read_hex_digits s c in
    pick (eqb h.count 6) (Ok (Color (six_digits h.value), h.end))
    (pick (eqb h.count 3) (Ok (Color (three_digits h.value), h.end))
    (Err (lexer_error bad_color h.end)))

-- one or two digits
unfoldable pub read_zoom_level : Bytes → Cursor → Option ℕ × Cursor
read_zoom_level s c =
    on_option2 (read_digit s 10 c) (None, c) λ num1 d.
    on_option2 (read_digit s 10 d) (Some num1, d) λ num2 e.
    (Some (10 * num1 + num2), e)

unfoldable pub read_hyphen : Bytes → Cursor → Bool × Cursor
read_hyphen s c =
    on_result2 (next_char s c) (λ d. (false, c)) λ ch d.
    pick (eqb ch 45) (true, d) (false, c)

-- the second level counts only after a hyphen
unfoldable pub ranged : Option ℕ → Bool → Option ℕ → Cursor → Reading
ranged min had max end = pick had (Ok (ZoomRange min max, end)) (Ok (ZoomRange min min, end))

unfoldable pub zoom_range : Option ℕ → Bool → Option ℕ → Cursor → Reading
zoom_range min had max end =
    pick (is_none min && is_none max)
    (Err (lexer_error empty_zoom_range end))
    (ranged min had max end)

-- behind |z: a second level is read without a hyphen too
unfoldable pub read_levels : Bytes → Cursor → Reading
read_levels s c =
    let (min, d) = read_zoom_level s c in
    let (had, e) = read_hyphen s d in
    let (max, end) = read_zoom_level s e in
    zoom_range min had max end

unfoldable pub read_zoom_range : Bytes → Cursor → Reading
read_zoom_range s c =
    on_result2 (next_char s c) (λ d. Err (lexer_error z_wanted d)) λ ch d.
    pick (eqb ch 122) (read_levels s d) (Err (lexer_error z_wanted d))
