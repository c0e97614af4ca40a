-- The marked cases, the productions and the hypotheses of demand 3 are worked out by computation.
use mathlib.Core.Path.{refl}
use lib.Ieee.{of_bits, of_int, add, mul, div, neg, lt, le}
use Rattle.base.specs.Choice.{pick}
use Rattle.base.specs.Bytes.{same, precedes}
use Rattle.base.specs.Turns.{turns}
use Rattle.base.specs.Map.{member, lookup}
use Rattle.utf8.specs.Elim.{on-Char}
use Rattle.utf8.specs.Utf8.{fits, gathered, by_row, char_of, char_at, is_utf8}
use Rattle.space.specs.Space.{among, is_white_space}
use Rattle.cursor.specs.Elim.{on-Significant}
use Rattle.cursor.specs.Cursor.{bump, passed, next_char}
use Rattle.cursor.specs.Class.{can_be_in_at_directive, can_start_identifier, can_continue_identifier, digit_value, to_digit}
use Rattle.cursor.specs.Blank.{skip_line_comment, skip_block_comment, try_skip_comment, next_significant_char}
use Rattle.cursor.specs.Number.{add_digit, times_odd, pow_ten, digit_added, takes_dot, read_digits, size, sign, value}
use Rattle.token.specs.Elim.{on-Step}
use Rattle.token_kind.specs.Reason.{lexer_error}
use Rattle.token_kind.specs.Signs.{is_pair, first_pair, get_two_char_simple_token, first_letter, get_one_char_simple_token}
use Rattle.token_zoom.specs.Zoom.{read_digit, hex_added, read_hex_digits, six_digits, three_digits, read_color, read_zoom_level, read_hyphen, ranged, zoom_range, read_levels, read_zoom_range}
use Rattle.token_number.specs.Number.{is_bare_dot, finish_number, read_unsigned, read_signed, read_number}
use Rattle.token.specs.Read.{identifier_end, read_identifier, read_quoted, read_string, skip_one, read_import, read_directive, at_directive_end, read_at_directive, read_after_minus, read_other, starts_number, read_long, read_single, read_pair, read_token}
use Rattle.token.specs.Step.{step_of}
use Rattle.base.specs.Table.{capacity_of}
use Rattle.group.specs.Number.{number_from, number_at, groups_of, group_of, single, joined}
use Rattle.group.specs.Pair.{sized_of, part_at, pair_at, pairs_at, skip_of, nth_of, entries_at, all_utf8, sized_bytes, pair_bytes, map_bytes}
use Rattle.bundle.specs.Bundle.{count_of, first_at, ranges_of, texts_of, good_name, good_names, is_bundle, check_of, find_in, find_of, bundle_bytes}
use Rattle.grammar.specs.View.{is_sign, on_import, on_identifier, on_string, on_color_ref, on_number, on_zoom_range, on_color, color_of}
use Rattle.grammar.specs.Input.{on_next, on_option, after}
use Rattle.grammar.specs.Reader.{to_binary_string_test_type, to_binary_numeric_test_type, width_increment, is_colors, plain_test, bang_test, read_test, read_number_list, tokens_to_semi_colon, read_simple_eval, read_property_value, read_properties, read_parts, read_selector, skip_colors, read_rule, parse, import_file, load}
use Rattle.grammar.specs.Reading.{id_to_object_type, define, color_named}
use Rattle.grammar.specs.Entries.{count}
use Rattle.grammar.specs.Capacity.{add as add-grammar, add_all}
use Rattle.input.specs.Text.{text_of, next_of, token_of, left}
use Rattle.input.specs.Source.{next_at}
use Rattle.keep.specs.Encode.{add_rows, color_rows}
use Rattle.parser.specs.Load.{first_text, loaded, load_of}
use Rattle.sheet.specs.Digits.{is_whole}
use Rattle.entity.specs.Layout.{rises_from, rising, tags_of, value_of, closed_of, tags_at, entity_at, single_of, entity_bytes}
use Rattle.cascade.specs.Match.{present, true_value, unary_holds, equals, text_holds, compares, number_verdict, numeric_verdict, test_verdict, fits_type, applies, tests_verdict, verdict}
use Rattle.cascade.specs.Number.{as_integer, ranged as ranged-integer, negative, unsigned, digits, after_digits, spelt, whole_number, decimals, after_decimals, exponent_of, decimal_from, scaled, value_of as numberValueOf, unsigned_number, tag_number}
use Rattle.valid.specs.Valid.{span_in, marked_span, rule_sound, selector_sound, named_entry, two_zeros, number_value, test_value, test_sound, one_span, two_spans, color_words, delta_words, value_sound, property_sound, all_below, entries_held, counts_held, entries_sound, tables_sound}
use Rattle.decode.specs.Decode.{places, type_at, key_at, test_at, layer_at, rules_at}
use Rattle.cascade.specs.Map.{keep, and_map}
use Rattle.cascade.specs.Numbered.{assign}
use Rattle.table.specs.Value.{value_at}
use mathlib.Core.List.{flat_map}
use Rattle.marked.specs.Reach.{Met}
use Rattle.walk.specs.Run.{bind, over, copied, assign_at, assign_all, seek, new_row, touch_of, step_of as stepRun, hit_of, selectors_of, rule_of, rules_of}
use Rattle.walk.specs.Maps.{finish, walk_of, maps_of}
use Rattle.token_laws.specs.Tokens.{tokens_from, tokens}
use Rattle.marked.specs.Marked.{True, marks, AllTrue, none, next}
use Rattle.marked.specs.Productions.{productions, none_left, and_then, Hold, no_more, one_more}
use Rattle.base.specs.Option.{on_option as on_option', on_result}

-- what all of them run through
computed : Unit {0}
unfolding is_utf8 member pick same turns on-Char fits gathered by_row char_of char_at among is_white_space on_option on_option' on-Significant bump passed next_char can_be_in_at_directive can_start_identifier can_continue_identifier digit_value to_digit skip_line_comment skip_block_comment try_skip_comment next_significant_char add_digit times_odd pow_ten digit_added takes_dot read_digits size sign value on-Step on_result lexer_error is_pair first_pair get_two_char_simple_token first_letter get_one_char_simple_token read_digit hex_added read_hex_digits six_digits three_digits read_color read_zoom_level read_hyphen ranged zoom_range read_levels read_zoom_range identifier_end read_identifier read_quoted read_string skip_one read_import read_directive at_directive_end read_at_directive is_bare_dot finish_number read_unsigned read_signed read_number read_after_minus read_other starts_number read_long read_single read_pair read_token step_of of_bits of_int add mul div neg capacity_of number_from number_at groups_of group_of single joined sized_of part_at pair_at pairs_at skip_of nth_of entries_at all_utf8 sized_bytes pair_bytes map_bytes count_of first_at ranges_of texts_of good_name good_names is_bundle check_of find_in find_of bundle_bytes is_sign on_import on_identifier on_string on_color_ref on_number on_zoom_range on_color color_of on_next after to_binary_string_test_type to_binary_numeric_test_type width_increment is_colors plain_test bang_test read_test read_number_list tokens_to_semi_colon read_simple_eval read_property_value read_properties read_parts read_selector skip_colors read_rule parse import_file load id_to_object_type define color_named count add-grammar add_all text_of next_of token_of left next_at add_rows color_rows first_text loaded load_of precedes lookup is_whole rises_from rising tags_of value_of closed_of tags_at entity_at single_of entity_bytes present true_value unary_holds equals text_holds compares number_verdict numeric_verdict test_verdict fits_type applies tests_verdict verdict span_in marked_span rule_sound selector_sound named_entry two_zeros number_value test_value test_sound one_span two_spans color_words delta_words value_sound property_sound all_below entries_held counts_held entries_sound tables_sound places type_at key_at test_at layer_at bind over copied assign_at assign_all seek new_row touch_of stepRun hit_of selectors_of rule_of rules_of finish walk_of maps_of negative unsigned digits after_digits spelt whole_number decimals after_decimals exponent_of decimal_from scaled numberValueOf unsigned_number tag_number lt le tokens_from tokens True
computed = tt

pub all_marked : AllTrue marks
unfolding computed
all_marked =
    next refl (next refl (next refl (next refl (next refl (next refl (next refl (next refl (next refl (next refl (next refl (next refl (next refl (next refl (next refl (next refl (next refl (none)))))))))))))))))

pub all_worked : Hold productions
unfolding computed
all_worked =
    one_more (and_then refl (and_then refl (and_then refl none_left))) (and_then refl (and_then refl (and_then refl none_left)))
    (one_more (and_then refl (and_then refl (and_then refl none_left))) (and_then refl (and_then refl (and_then refl none_left)))
    (one_more (and_then refl (and_then refl (and_then refl none_left))) (and_then refl (and_then refl (and_then refl none_left)))
    (one_more (and_then refl (and_then refl (and_then refl none_left))) (and_then refl (and_then refl (and_then refl none_left)))
    (one_more (and_then refl (and_then refl (and_then refl none_left))) (and_then refl (and_then refl (and_then refl none_left)))
    (one_more (and_then refl (and_then refl (and_then refl none_left))) (and_then refl (and_then refl (and_then refl none_left)))
    (one_more (and_then refl (and_then refl (and_then refl none_left))) (and_then refl (and_then refl (and_then refl none_left))) no_more))))))

-- the hypotheses of demand 3 for two sheets and two entities, as bytes
pub bytes_met : Met
unfolding computed value_at rules_at keep and_map flat_map as_integer ranged-integer assign
bytes_met =
    record {
      left = refl;
      tested = refl;
      kinds = refl;
      tags = refl;
      there = refl;
      layers = refl;
      layer_one = refl;
      first_call_lem = refl;
      second_call = refl;
    }
