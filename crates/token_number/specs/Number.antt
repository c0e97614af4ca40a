-- Numbers.
use Rattle.std.specs.Prelude.{ℕ, Bool, true, false, eqb, pos, Ok, Err}
use Rattle.std.specs.Float.{binary64}
use Rattle.std.specs.Float.Ieee.{of_int}
use Rattle.base.specs.Bytes.{Bytes}
use Rattle.base.specs.Choice.{pick}
use Rattle.base.specs.Table.{zero_float}
use Rattle.cursor.specs.Class.{to_digit}
use Rattle.cursor.specs.Cursor.{next_char}
use Rattle.cursor.specs.Number.{sum, value, read_digits}
use Rattle.cursor.specs.declared.Cursor.{Cursor}
use Rattle.cursor.specs.declared.number.Digits.{Digits}
use Rattle.cursor.specs.declared.number.Sum.{Sum}
use Rattle.token_kind.specs.Reason.{Reading, nothing_after_sign, no_number_after_sign, no_fraction, lexer_error}
use Rattle.token_kind.specs.declared.Token.TheVariants.{Number}
use Rattle.base.specs.Option.{on_option, on_result2}

-- a dot, and no digit behind it
unfoldable pub is_bare_dot : Sum → Bool
is_bare_dot x = pick x.dot (eqb x.places 0) false

unfoldable pub finish_number : Bool → Digits → Reading
finish_number minus x =
    pick (is_bare_dot x.sum) (Err (lexer_error no_fraction x.end)) (Ok (Number (value x.sum minus), x.end))

abbrev pub first_digit : ℕ → Bool → Sum
first_digit digit dot = sum (of_int binary64 (pos digit)) zero_float 0 dot

unfoldable pub read_unsigned : Bytes → Bool → ℕ → Cursor → Reading
read_unsigned s minus ch c =
    on_option (to_digit ch 10)
    (pick (eqb ch 46) (finish_number minus (read_digits s c (first_digit 0 true))) (Err (lexer_error no_number_after_sign c)))
    λ digit. finish_number minus (read_digits s c (first_digit digit false))

unfoldable pub read_signed : Bytes → Bool → Cursor → Reading
read_signed s minus c = on_result2 (next_char s c) (λ d. Err (lexer_error nothing_after_sign d)) λ ch d. read_unsigned s minus ch d

unfoldable pub read_number : Bytes → ℕ → Cursor → Reading
read_number s ch c =
    pick (eqb ch 45) (read_signed s true c)
    (pick (eqb ch 43) (read_signed s false c)
    (read_unsigned s false ch c))
