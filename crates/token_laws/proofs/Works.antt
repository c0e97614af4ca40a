-- The cases are worked out by computation.
use mathlib.Core.Path.{refl}
use lib.Ieee.{of_bits, of_int, add, mul, div, neg}
use Rattle.base.specs.Choice.{pick}
use Rattle.base.specs.Bytes.{same}
use Rattle.base.specs.Turns.{turns}
use Rattle.utf8.specs.Elim.{on-Char}
use Rattle.utf8.specs.Utf8.{fits, gathered, by_row, char_of, char_at}
use Rattle.space.specs.Space.{among, is_white_space}
use Rattle.cursor.specs.Elim.{on-Significant}
use Rattle.cursor.specs.Cursor.{bump, passed, next_char}
use Rattle.cursor.specs.Class.{can_be_in_at_directive, can_start_identifier, can_continue_identifier, digit_value, to_digit}
use Rattle.cursor.specs.Blank.{skip_line_comment, skip_block_comment, try_skip_comment, next_significant_char}
use Rattle.cursor.specs.Number.{add_digit, times_odd, pow_ten, digit_added, takes_dot, read_digits, size, sign, value}
use Rattle.token.specs.Elim.{on-Step}
use Rattle.token_kind.specs.Reason.{lexer_error}
use Rattle.token_kind.specs.Signs.{is_pair, first_pair, get_two_char_simple_token, first_letter, get_one_char_simple_token}
use Rattle.token_zoom.specs.Zoom.{read_digit, hex_added, read_hex_digits, six_digits, three_digits, read_color, read_zoom_level, read_hyphen, ranged, zoom_range, read_levels, read_zoom_range}
use Rattle.token_number.specs.Number.{is_bare_dot, finish_number, read_unsigned, read_signed, read_number}
use Rattle.token.specs.Read.{identifier_end, read_identifier, read_quoted, read_string, skip_one, read_import, read_directive, at_directive_end, read_at_directive, read_after_minus, read_other, starts_number, read_long, read_single, read_pair, read_token}
use Rattle.token.specs.Step.{step_of}
use Rattle.token_laws.specs.Tokens.{tokens_from, tokens}
use Rattle.token_laws.specs.Worked.{cases, All, none, next}
use Rattle.base.specs.Option.{on_option, on_result}

pub all_worked : All cases
unfolding pick same turns on-Char fits gathered by_row char_of char_at among is_white_space on_option on-Significant bump passed next_char can_be_in_at_directive can_start_identifier can_continue_identifier digit_value to_digit skip_line_comment skip_block_comment try_skip_comment next_significant_char add_digit times_odd pow_ten digit_added takes_dot read_digits size sign value on-Step on_result lexer_error is_pair first_pair get_two_char_simple_token first_letter get_one_char_simple_token read_digit hex_added read_hex_digits six_digits three_digits read_color read_zoom_level read_hyphen ranged zoom_range read_levels read_zoom_range identifier_end read_identifier read_quoted read_string skip_one read_import read_directive at_directive_end read_at_directive is_bare_dot finish_number read_unsigned read_signed read_number read_after_minus read_other starts_number read_long read_single read_pair read_token step_of tokens_from tokens of_bits of_int add mul div neg
all_worked =
    next refl (
    next refl (
    next refl (
    next refl (
    next refl (
    next refl (
    next refl (
    next refl (
    next refl (
    next refl (
    next refl (
    next refl (
    next refl (
    next refl (
    next refl (
    next refl (
    next refl (
    next refl (
    next refl (
    next refl (
    next refl (
    next refl (
    next refl (none)))))))))))))))))))))))
