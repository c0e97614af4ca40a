-- What MapCSS readers would stumble on: for each such production three texts that the grammar has and three near misses.
-- Then readings, refusals with their places, and the moments of storing, all by computation.
use Rattle.std.specs.Prelude.{ℕ, ◌≡◌, Bool, true, false, cond, ◌&&◌, eqb, Float}
use Prim.Native.String.{String}
use Rattle.std.proofs.Math.Path.{refl}
use mathlib.Core.List.{List, [], ◌∷◌, map}
use Rattle.std.proofs.Math.Option.{none, some}
use Rattle.base.specs.Bytes.{ascii, same}
use Rattle.base.specs.Map.{entry, lookup}
use Rattle.base.specs.Choice.{and_left, and_right}
use Rattle.color.specs.declared.Color.{Color}
use Rattle.sheet.specs.Sheet.{way, is_false, equal}
use Rattle.grammar.specs.Token.{Name, Token}
use Rattle.grammar.specs.View.{is_sign, on_import, on_identifier, on_string, on_color_ref, on_number, on_zoom_range, on_color, color_of}
use Rattle.grammar.specs.Reading.{unary, text, digits, width_delta, Reading, rule_item, rule, property, bare, with_test, with_layer, color_def, define, color_named, id_to_object_type}
use Rattle.grammar.specs.Input.{rule_entry, selector_entry, test_entry, number_entry, color_entry, Reason, end_of_file, object_type, expected, color_reference, eval_form, no_text, not_whole, too_deep, full, on_next, on_option, after, Answer, refused, read}
use Rattle.grammar.specs.Reader.{to_binary_string_test_type, to_binary_numeric_test_type, width_increment, is_colors, plain_test, bang_test, read_test, read_number_list, tokens_to_semi_colon, read_simple_eval, read_property_value, read_properties, read_parts, read_selector, skip_colors, read_rule, parse, import_file, load}
use Rattle.grammar.specs.Entries.{count}
use Rattle.grammar.specs.Capacity.{Tables, tables, empty, add, limited}
use Rattle.grammar.specs.Texts.{Bundle, Place, Cursor, cursor, text_named, listed, read_bundle, HasReading, HasAll, HasNone}
use Rattle.grammar.proofs.TextsProof.{sound, accepts_all, accepts_none, has_all, has_none}
use Rattle.grammar.specs.Spelling.{name, nought, black, tokens}

-- what every text below runs through
reader : Unit {0}
unfolding same lookup text_named is_sign on_import on_identifier on_string on_color_ref on_number on_zoom_range on_color color_of
    on_next on_option after to_binary_string_test_type to_binary_numeric_test_type width_increment is_colors plain_test
    bang_test read_test read_number_list tokens_to_semi_colon read_simple_eval read_property_value read_properties read_parts
    read_selector skip_colors read_rule parse import_file load define color_named id_to_object_type add
reader = tt

-- ---- has, and has not

pub record Stumble : Type 0 where
  pub has : List String
  pub has_not : List String

abbrev pub stumble : (a b c x y z : String) → Stumble
stumble a b c x y z = record { has = a ∷ b ∷ c ∷ []; has_not = x ∷ y ∷ z ∷ [] }

abbrev pub stumbles : List Stumble
stumbles =
    -- way,{..}: a comma may stand before the brace
    stumble "way , { }" "way , { a : b ; }" "way , node , { }" ", { }" "way , , { }" "way , }"
    -- {..}: a rule without selectors
    ∷ stumble "{ }" "{ a : b ; }" "{ a : b ; c : 0 , 0 ; }" "{" "{ a : b }" "{ { } }"
    -- [x?!]: behind the key, and only there
    ∷ stumble "way [ x ? ! ] { }" "way [ 'x ? ! ] { }" "way [ x : y ? ! ] { }" "way [ ! x ? ! ] { }" "way [ x ! ? ] { }"
    "way [ x ? ! ? ] { }"
    -- |z1: behind the type, in any place
    ∷ stumble "way |1 { }" "way [ x ] |1 { }" "way :: x |1 { }" "|1 { }" "way { |1 }" "way , |1 { }"
    -- two zoom ranges
    ∷ stumble "way |1 |2 { }" "way |1 [ x ] |2 { }" "way |1 |2 |3 { }" "way |1 , |2 { }" "way |1 |2" "way |1 { } |2"
    -- @c:};: a definition takes any one token
    ∷ stumble "@c : } ;" "@c : red ;" "@c : &x ;" "@c : ;" "@c red ;" "@c : a b ;"
    -- eval(prop("width")): one form, with a number before the last bracket or none
    ∷ stumble "{ a : eval ( prop ( 'width ) ) ; }" "{ a : eval ( prop ( 'width ) 0 ) ; }"
    "{ eval : eval ( prop ( 'width ) ) ; }" "{ a : eval ( prop ( width ) ) ; }"
    "{ a : eval ( prop ( 'width ) 0 0 ) ; }" "{ a : eval ; }"
    -- colors{..}: skipped to the next closing brace
    ∷ stumble "colors { }" "colors }" "colors , way { a : b ; }" "colors {" "colors" "colors { a { } }"
    -- way::x,colors{..}: ends the rule
    ∷ stumble "way :: x , colors { }" "way , colors }" "way , area , colors { a }" "way colors { }"
    "way :: x , colors {" "way , colors { } a : b ; }"
    -- :class: an identifier
    ∷ stumble "way : closed { }" "way : a : b { }" "way : a :: b [ x ] { }" "way : { }" "way : 'a { }" ": a { }"
    ∷ []

module _ (countable : Float → Bool) where
  abbrev pub Holds : List Stumble → Type 0
  Holds [] = Unit
  Holds (s ∷ ss) = (HasAll countable (map tokens s.has) × HasNone countable (map tokens s.has_not)) × Holds ss

  abbrev judged : List Stumble → Bool
  judged [] = true
  judged (s ∷ ss) = (accepts_all countable (map tokens s.has) && accepts_none countable (map tokens s.has_not)) && judged ss

  judged_holds : (ss : List Stumble) → judged ss ≡ true → Holds ss
  judged_holds [] e = tt
  judged_holds (s ∷ ss) e =
      let h = and_left (accepts_all countable (map tokens s.has) && accepts_none countable (map tokens s.has_not)) (judged ss) e in
      let a = accepts_all countable (map tokens s.has) in
      let b = accepts_none countable (map tokens s.has_not) in (
        (
          has_all countable (map tokens s.has) (and_left a b h),
          has_none countable (map tokens s.has_not) (and_right a b h),
        ),
        judged_holds ss (and_right (a && b) (judged ss) e),
      )

  all_judged : judged stumbles ≡ true
  unfolding reader
  all_judged = refl

  pub examples : Holds stumbles
  examples = judged_holds stumbles all_judged

  -- ---- readings

  -- a later zoom range replaces the earlier
  pub later_zoom : HasReading countable [] (tokens "way |1 |2 { }") (rule_item (rule (record { object_type = way; min_zoom = some 2; max_zoom = some 2; tests = []; layer_id = none } ∷ []) []) ∷ [])
  unfolding reader
  later_zoom = sound countable [] _ _ _ _ refl

  -- :class is dropped
  pub class_dropped : HasReading countable [] (tokens "way : a { }") (rule_item (rule (bare way ∷ []) []) ∷ [])
  unfolding reader
  class_dropped = sound countable [] _ _ _ _ refl

  -- [x?!] is [!x?]
  pub question_bang :
      HasReading countable [] (tokens "way [ x ? ! ] { }") (rule_item (rule (with_test (bare way) (unary is_false (name "x")) ∷ []) []) ∷ [])
  unfolding reader
  question_bang = sound countable [] _ _ _ _ refl

  -- colors ends the rule, with the selectors read before it and no properties
  pub colors_rule :
      HasReading countable [] (tokens "way :: x , colors { a : b ; }") (rule_item (rule (with_layer (bare way) (name "x") ∷ []) []) ∷ [])
  unfolding reader
  colors_rule = sound countable [] _ _ _ _ refl

  -- a definition that is no colour has no effect
  pub no_effect : HasReading countable [] (tokens "@c : } ;") []
  unfolding reader
  no_effect = sound countable [] _ _ _ _ refl

  -- marked case 9
  pub delta_nought :
      HasReading countable [] (tokens "{ casing-width : eval ( prop ( 'width ) ) ; }") (rule_item (rule [] (property (name "casing-width") (width_delta nought) ∷ [])) ∷ [])
  unfolding reader
  delta_nought = sound countable [] _ _ _ _ refl

  -- marked case 12
  pub nothing_read : HasReading countable [] [] []
  unfolding reader
  nothing_read = sound countable [] _ _ _ _ refl

  -- ---- refusals: the reason, the text and the character, each token being two characters wide

  -- marked case 6: the place reached by reading the end
  pub cut_short : read_bundle countable [] (tokens "way") ≡ refused (end_of_file, (0, 3)) empty
  unfolding reader
  cut_short = refl

  -- marked case 7: behind the reference
  pub not_a_color :
      read_bundle countable [] (tokens "@a : red ; way { color : @a ; }") ≡ refused (color_reference, (0, 18)) (tables (selector_entry (bare way) ∷ []) [])
  unfolding reader
  not_a_color = refl

  -- an eval form: at the word, once its semicolon is read
  pub bad_eval : read_bundle countable [] (tokens "{ a : eval x ; }") ≡ refused (eval_form, (0, 7)) empty
  unfolding reader
  bad_eval = refl

  -- without its semicolon the form is not judged
  pub eval_cut_short : read_bundle countable [] (tokens "{ a : eval x }") ≡ refused (end_of_file, (0, 13)) empty
  unfolding reader
  eval_cut_short = refl

  -- an object type: at its first character
  pub bad_type :
      read_bundle countable [] (tokens "way , x { }") ≡ refused (object_type, (0, 5)) (tables (selector_entry (bare way) ∷ []) [])
  unfolding reader
  bad_type = refl

  -- another token expected: at its first character
  pub not_expected : read_bundle countable [] (tokens "{ a b ; }") ≡ refused (expected, (0, 5)) empty
  unfolding reader
  not_expected = refl

  -- ---- imports: nine texts in a chain load, the tenth is 21 in text 8, an unknown name is 5 there too

  -- texts 1 to 8, each importing the next; what text 8 has is left open
  abbrev chain : String → Bundle
  chain s =
      entry (ascii "1") (tokens "&2 ;") ∷ entry (ascii "2") (tokens "&3 ;") ∷ entry (ascii "3") (tokens "&4 ;") ∷ entry
      (ascii "4") (tokens "&5 ;") ∷ entry (ascii "5") (tokens "&6 ;")
      ∷ entry (ascii "6") (tokens "&7 ;") ∷ entry (ascii "7") (tokens "&8 ;") ∷ entry (ascii "8") (tokens s) ∷ entry
      (ascii "9") (tokens "{ }") ∷ []

  pub nine_texts : read_bundle countable (chain "{ }") (tokens "&1 ;") ≡ read (rule_item (rule [] []) ∷ []) (cursor 0 5 []) (tables (rule_entry ∷ []) [])
  unfolding reader
  nine_texts = refl

  pub ten_texts : read_bundle countable (chain "&9 ; { }") (tokens "&1 ;") ≡ refused (too_deep, (8, 4)) empty
  unfolding reader
  ten_texts = refl

  pub unknown_text : read_bundle countable (chain "&x ; { }") (tokens "&1 ;") ≡ refused (no_text, (8, 4)) empty
  unfolding reader
  unknown_text = refl

  -- ---- the moments of storing: tables with room for as many entries as the function says

  abbrev loaded : (Float → Bool) → (ℕ → ℕ) → List Token → Answer Reading Cursor Tables (Reason × Place)
  loaded whole capacity p = load (listed whole [] (limited capacity)) (cursor 0 0 p) empty

  -- as many entries as k of every table, n of numbers
  abbrev numbers_only : ℕ → ℕ → ℕ
  numbers_only n k = cond (eqb k 5) n 9

  -- a listed number is stored before the next token is read
  pub listed_at_once :
      loaded countable (numbers_only 1) (tokens "{ d : 0 , 0 ; }") ≡ refused (full (number_entry nought), (0, 12)) (tables (number_entry nought ∷ []) [])
  unfolding reader count
  listed_at_once = refl

  pub listed_before_end : loaded countable (numbers_only 0) (tokens "{ d : 0") ≡ refused (full (number_entry nought), (0, 8)) empty
  unfolding reader count
  listed_before_end = refl

  -- at one token: the grammar's own judgement, then 6, then the number, then the entry itself
  pub judged_first : loaded countable (λ k. 0) (tokens "way [ a < 0 x") ≡ refused (expected, (0, 11)) empty
  unfolding reader count
  judged_first = refl

  pub six_first : loaded (λ x. false) (λ k. 0) (tokens "way [ a = 0 ] {") ≡ refused (not_whole, (0, 12)) empty
  unfolding reader count
  six_first = refl

  pub number_first : loaded (λ x. true) (λ k. 0) (tokens "way [ a = 0 ] {") ≡ refused (full (number_entry nought), (0, 12)) empty
  unfolding reader count
  number_first = refl

  pub then_the_test :
      loaded (λ x. true) (λ k. cond (eqb k 5) 1 0) (tokens "way [ a = 0 ] {") ≡ refused (full (test_entry (text equal (name "a") (digits nought))), (0, 12)) (tables (number_entry nought ∷ []) [])
  unfolding reader count
  then_the_test = refl

  -- a delta at its semicolon, just before its property
  pub delta_first :
      loaded countable (λ k. 0) (tokens "{ a : eval ( prop ( 'width ) ) ; }") ≡ refused (full (number_entry nought), (0, 22)) empty
  unfolding reader count
  delta_first = refl

  -- a selector at its comma
  pub selector_at_comma : loaded countable (λ k. 0) (tokens "way , x") ≡ refused (full (selector_entry (bare way)), (0, 4)) empty
  unfolding reader count
  selector_at_comma = refl

  -- a colors block takes a rule entry at its closing brace
  pub colors_takes_a_rule : loaded countable (λ k. 0) (tokens "colors { } x") ≡ refused (full rule_entry, (0, 6)) empty
  unfolding reader count
  colors_takes_a_rule = refl

  -- a colour at its semicolon, defined anew without an entry
  pub once_for_each_name :
      loaded countable (λ k. 1) (tokens "@a : # ; @a : # ; @b : # ; x") ≡ refused (full (color_entry (name "b") black), (0, 24)) (tables [] (color_def (name "a") black ∷ []))
  unfolding reader count
  once_for_each_name = refl

-- a colour defined anew keeps the place of its first name
pub first_name : (n m : Name) (c d : Color) → same m.bytes n.bytes ≡ true → define (color_def n c ∷ []) m d ≡ color_def n d ∷ []
unfolding define
first_name n m c d e = rw e refl
