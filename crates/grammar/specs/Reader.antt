-- The reader: parser.rs, function by function, over any tokenizer and any tables. Loops and recursion take fuel.
-- Refusals 4 reasons 2, 3 and 4 are where their token begins, reason 6 where the word eval does; all others at the place reached.
use Rattle.std.specs.Prelude.{ℕ, zero, suc, Bool, true, false, cond, List, [], ◌∷◌, ◌++◌, Float}
use Rattle.std.proofs.Math.Option.{Option, none, some}
use Rattle.std.specs.Float.Ieee.{of_bits}
use Rattle.std.specs.Float.{binary64}
use Rattle.base.specs.Bytes.{Bytes, ascii, same}
use Rattle.sheet.specs.Sheet.{exists, not_exists, is_true, is_false, TextTest, equal, not_equal, NumericTest, less, less_or_equal, greater, greater_or_equal}
use Rattle.grammar.specs.Token.{Name, joined, Sign, Token, left_paren, right_paren, left_bracket, right_bracket, left_brace, right_brace, equal_sign, not_equal_sign, less_sign, greater_sign, less_or_equal_sign, greater_or_equal_sign, bang, question_mark, colon, double_colon, semi_colon, comma}
use Rattle.grammar.specs.View.{on_sign, on_import, on_identifier, on_string, on_color_ref, on_number, on_zoom_range, on_color, color_of}
use Rattle.grammar.specs.Reading.{plain, digits, Test, unary, text, numeric, Value, word, quoted, colored, numbers, width_delta, Selector, Property, property, Rule, rule, rule_item, color_item, Reading, Colors, color_named, bare, with_zoom, with_test, with_layer, add_selector, id_to_object_type}
use Rattle.grammar.specs.Input.{rule_entry, selector_entry, test_entry, property_entry, number_entry, color_entry, end_of_file, object_type, unexpected, expected, color_reference, eval_form, no_text, not_whole, too_deep, Input, Answer, refused, read, on_next, on_option, after, fail, keep}

unfoldable pub to_binary_string_test_type : Token → Option TextTest
to_binary_string_test_type t =
    on_sign equal_sign t (some equal)
    (on_sign not_equal_sign t (some not_equal) none)

unfoldable pub to_binary_numeric_test_type : Token → Option NumericTest
to_binary_numeric_test_type t =
    on_sign less_sign t (some less)
    (on_sign less_or_equal_sign t (some less_or_equal)
    (on_sign greater_sign t (some greater)
    (on_sign greater_or_equal_sign t (some greater_or_equal) none)))

-- ---- the form of eval, on the tokens before its semicolon: (prop("width")), with a number before the last bracket or none

abbrev pub want : {B : Type 0} → Sign → List Token → (List Token → Option B) → Option B
want c [] k = none
want c (t ∷ ts) k = on_sign c t (k ts) none

abbrev pub want_word : {B : Type 0} → Bytes → List Token → (List Token → Option B) → Option B
want_word a [] k = none
want_word a (t ∷ ts) k = on_identifier t (λ b. cond (same b.bytes a) (k ts) none) none

abbrev pub want_string : {B : Type 0} → Bytes → List Token → (List Token → Option B) → Option B
want_string a [] k = none
want_string a (t ∷ ts) k = on_string t (λ b. cond (same b.bytes a) (k ts) none) none

abbrev pub suffix : List Token → Option Float
suffix [] = none
suffix (t ∷ []) = on_sign right_paren t (some (of_bits binary64 0)) none
suffix (t ∷ u ∷ []) = on_sign right_paren u (on_number t some none) none
suffix (t ∷ u ∷ v ∷ ts) = none

unfoldable pub width_increment : List Token → Option Float
width_increment ts =
    want left_paren ts λ ts.
    want_word (ascii "prop") ts λ ts.
    want left_paren ts λ ts.
    want_string (ascii "width") ts λ ts.
    want right_paren ts suffix

-- the auxiliary section from Maps.ME MapCSS
unfoldable pub is_colors : Token → Bool
is_colors t = on_identifier t (λ a. same a.bytes (ascii "colors")) false

-- what a definition reads as: nothing, unless it is a colour
abbrev pub definition : Name → Token → Reading
definition n t = on_option (color_of t) [] λ x. color_item n x ∷ []

module _ {C T P R : Type 0} (i : Input C T P R) where
  module _ {A : Type 0} where
    abbrev pub read_mandatory_token : C → T → (Token → P → C → Answer A C T R) → Answer A C T R
    read_mandatory_token c τ k = on_next (i.next c) (λ r. refused r τ) (λ d. fail i end_of_file (i.reached d) τ) k

    abbrev pub unexpected_token : P → T → Answer A C T R
    unexpected_token o τ = fail i unexpected o τ

    abbrev pub expect_simple_token : Sign → C → T → (C → Answer A C T R) → Answer A C T R
    expect_simple_token g c τ k = read_mandatory_token c τ λ t o d. on_sign g t (k d) (fail i expected o τ)

    abbrev pub read_identifier : C → T → (Name → C → Answer A C T R) → Answer A C T R
    read_identifier c τ k = read_mandatory_token c τ λ t o d. on_identifier t (λ a. k a d) (unexpected_token o τ)

    -- more tokens than fuel: never, where the fuel is as Input says
    abbrev pub out_of_fuel : C → T → Answer A C T R
    out_of_fuel c τ = fail i end_of_file (i.reached c) τ

  -- ---- tests: stored at their bracket, a number just before its test

  abbrev pub keep_test : Test → C → T → Answer Test C T R
  keep_test x c τ = keep i (test_entry x) c τ λ τ. read x c τ

  -- with the number x
  abbrev pub keep_number_test : Float → Test → C → T → Answer Test C T R
  keep_number_test x y c τ = keep i (number_entry x) c τ λ τ. keep_test y c τ

  -- behind the word b, and behind the number x
  abbrev pub read_word_operand : TextTest → Name → Name → C → T → Answer Test C T R
  read_word_operand op a b d τ = expect_simple_token right_bracket d τ λ e. keep_test (text op a (plain b)) e τ

  abbrev pub read_digits_operand : TextTest → Name → Float → C → T → Answer Test C T R
  read_digits_operand op a x d τ = expect_simple_token right_bracket d τ λ e.
      cond (i.countable x)
      (keep_number_test x (text op a (digits x)) e τ)
      (fail i not_whole (i.reached e) τ)

  abbrev pub read_operand : TextTest → Name → C → T → Answer Test C T R
  read_operand op a c τ = read_mandatory_token c τ λ t o d.
      on_identifier t (λ b. read_word_operand op a b d τ)
      (on_number t (λ x. read_digits_operand op a x d τ)
      (unexpected_token o τ))

  abbrev pub read_number : NumericTest → Name → C → T → Answer Test C T R
  read_number op a c τ = read_mandatory_token c τ λ t o d.
      on_number t (λ x. expect_simple_token right_bracket d τ λ e. keep_number_test x (numeric op a x) e τ)
      (unexpected_token o τ)

  -- behind the question mark, without and with a bang before the key
  abbrev pub question_test : Name → C → T → Answer Test C T R
  question_test a d τ = read_mandatory_token d τ λ t o e.
      on_sign right_bracket t (keep_test (unary is_true a) e τ)
      (on_sign bang t (expect_simple_token right_bracket e τ λ f. keep_test (unary is_false a) f τ)
      (unexpected_token o τ))

  abbrev pub bang_question_test : Name → C → T → Answer Test C T R
  bang_question_test a d τ = read_mandatory_token d τ λ t o e.
      on_sign right_bracket t (keep_test (unary is_false a) e τ)
      (unexpected_token o τ)

  -- behind the key: the next token t, where it begins, and the place behind it
  unfoldable pub plain_test : Name → T → Token → P → C → Answer Test C T R
  plain_test a τ t o d =
      on_option (to_binary_string_test_type t)
      (on_option (to_binary_numeric_test_type t)
      (on_sign right_bracket t (keep_test (unary exists a) d τ)
      (on_sign question_mark t (question_test a d τ)
      (unexpected_token o τ)))
      λ op. read_number op a d τ)
      λ op. read_operand op a d τ

  unfoldable pub bang_test : Name → T → Token → P → C → Answer Test C T R
  bang_test a τ t o d =
      on_sign right_bracket t (keep_test (unary not_exists a) d τ)
      (on_sign question_mark t (bang_question_test a d τ)
      (unexpected_token o τ))

  abbrev pub read_key : {A : Type 0} → Name → C → T → (Name → T → Token → P → C → Answer A C T R) → Answer A C T R
  read_key a c τ k = read_mandatory_token c τ λ t o d.
      on_sign colon t (read_identifier d τ λ b e. read_mandatory_token e τ λ t o f. k (joined a b) τ t o f)
      (k a τ t o d)

  -- behind the bang
  abbrev pub read_bang_test : C → T → Answer Test C T R
  read_bang_test d τ = read_identifier d τ λ a e. read_key a e τ bang_test

  unfoldable pub read_test : C → T → Answer Test C T R
  read_test c τ = read_mandatory_token c τ λ t o d.
      on_identifier t (λ a. read_key a d τ plain_test)
      (on_string t (λ a. read_key a d τ plain_test)
      (on_sign bang t (read_bang_test d τ)
      (unexpected_token o τ)))

  -- ---- properties: stored at their semicolon, a listed number at once, a delta just before its property

  -- behind the number x
  unfoldable pub read_number_list : ℕ → Float → C → T → Answer (List Float) C T R
  read_number_list zero x c τ = out_of_fuel c τ
  read_number_list (suc k) x c τ =
      keep i (number_entry x) c τ λ τ.
      read_mandatory_token c τ λ t o d.
      on_sign semi_colon t (read (x ∷ []) d τ)
      (on_sign comma t (read_mandatory_token d τ λ t o e.
      on_number t (λ y. after (read_number_list k y e τ) λ ys f τ. read (x ∷ ys) f τ)
      (unexpected_token o τ))
      (unexpected_token o τ))

  unfoldable pub tokens_to_semi_colon : ℕ → C → T → Answer (List Token) C T R
  tokens_to_semi_colon zero c τ = out_of_fuel c τ
  tokens_to_semi_colon (suc k) c τ = read_mandatory_token c τ λ t o d.
      on_sign semi_colon t (read [] d τ)
      (after (tokens_to_semi_colon k d τ) λ ts e τ. read (t ∷ ts) e τ)

  abbrev pub keep_delta : Float → C → T → Answer Value C T R
  keep_delta x c τ = keep i (number_entry x) c τ λ τ. read (width_delta x) c τ

  -- all tokens up to the semicolon, and only then the form; o is where the word eval begins
  unfoldable pub read_simple_eval : ℕ → P → C → T → Answer Value C T R
  read_simple_eval k o c τ =
      after (tokens_to_semi_colon k c τ) λ ts d τ.
      on_option (width_increment ts) (fail i eval_form o τ) λ x.
      keep_delta x d τ

  -- before the semicolon
  abbrev pub end_value : Value → C → T → Answer Value C T R
  end_value v d τ = expect_simple_token semi_colon d τ λ e. read v e τ

  -- behind the word a and its colon, and behind the word a
  abbrev pub joined_value : Name → C → T → Answer Value C T R
  joined_value a d τ = read_identifier d τ λ b e. end_value (word (joined a b)) e τ

  abbrev pub word_value : Name → C → T → Answer Value C T R
  word_value a d τ = read_mandatory_token d τ λ t o e.
      on_sign colon t (joined_value a e τ)
      (on_sign semi_colon t (read (word a) e τ)
      (unexpected_token o τ))

  -- o is where the identifier begins
  abbrev pub identifier_value : ℕ → Name → P → C → T → Answer Value C T R
  identifier_value k a o d τ = cond (same a.bytes (ascii "eval")) (read_simple_eval k o d τ) (word_value a d τ)

  abbrev pub reference_value : Colors → Name → C → T → Answer Value C T R
  reference_value Γ n d τ = on_option (color_named n Γ) (fail i color_reference (i.reached d) τ) λ x. end_value (colored x) d τ

  abbrev pub numbers_value : ℕ → Float → C → T → Answer Value C T R
  numbers_value k x d τ = after (read_number_list k x d τ) λ xs e τ. read (numbers xs) e τ

  unfoldable pub read_property_value : ℕ → Colors → C → T → Answer Value C T R
  read_property_value k Γ c τ = read_mandatory_token c τ λ t o d.
      on_identifier t (λ a. identifier_value k a o d τ)
      (on_string t (λ a. end_value (quoted a) d τ)
      (on_color t (λ x. end_value (colored x) d τ)
      (on_color_ref t (λ n. reference_value Γ n d τ)
      (on_number t (λ x. numbers_value k x d τ)
      (unexpected_token o τ)))))

  -- behind the name a
  abbrev pub read_property : {A : Type 0} → ℕ → Colors → Name → C → T → (Value → C → T → Answer A C T R) → Answer A C T R
  read_property k Γ a d τ next = expect_simple_token colon d τ λ e.
      after (read_property_value k Γ e τ) λ x f τ.
      keep i (property_entry (property a x)) f τ λ τ. next x f τ

  unfoldable pub read_properties : ℕ → Colors → C → T → Answer (List Property) C T R
  read_properties zero Γ c τ = out_of_fuel c τ
  read_properties (suc k) Γ c τ = read_mandatory_token c τ λ t o d.
      on_identifier t (λ a. read_property k Γ a d τ λ x f τ.
      after (read_properties k Γ f τ) λ ps g τ. read (property a x ∷ ps) g τ)
      (on_sign right_brace t (read [] d τ)
      (unexpected_token o τ))

  -- ---- selectors: stored at their comma or brace; whether more are expected

  abbrev pub keep_selector : Selector → Bool → C → T → Answer (Selector × Bool) C T R
  keep_selector σ more c τ = keep i (selector_entry σ) c τ λ τ. read (σ, more) c τ

  unfoldable pub read_parts : ℕ → Selector → C → T → Answer (Selector × Bool) C T R
  read_parts zero σ c τ = out_of_fuel c τ
  read_parts (suc k) σ c τ = read_mandatory_token c τ λ t o d.
      on_sign left_brace t (keep_selector σ false d τ)
      (on_sign comma t (keep_selector σ true d τ)
      (on_zoom_range t (λ a b. read_parts k (with_zoom σ a b) d τ)
      (on_sign left_bracket t (after (read_test d τ) λ x e τ. read_parts k (with_test σ x) e τ)
      (on_sign colon t (read_identifier d τ λ a e. read_parts k σ e τ)
      (on_sign double_colon t (read_identifier d τ λ a e. read_parts k (with_layer σ a) e τ)
      (unexpected_token o τ))))))

  -- the first token t, where it begins, and the place behind it
  unfoldable pub read_selector : ℕ → T → Token → P → C → Answer (Selector × Bool) C T R
  read_selector k τ t o d =
      on_identifier t (λ a. on_option (id_to_object_type a.bytes) (fail i object_type o τ) λ y. read_parts k (bare y) d τ)
      (unexpected_token o τ)

  -- ---- rules: stored at their closing brace, a colors block too

  unfoldable pub skip_colors : ℕ → C → T → Answer Unit C T R
  skip_colors zero c τ = out_of_fuel c τ
  skip_colors (suc k) c τ = read_mandatory_token c τ λ t o d. on_sign right_brace t (read tt d τ) (skip_colors k d τ)

  abbrev pub keep_rule : List Selector → List Property → C → T → Answer Rule C T R
  keep_rule ss ps c τ = keep i rule_entry c τ λ τ. read (rule ss ps) c τ

  -- behind the opening brace, and behind the word colors
  abbrev pub read_body : ℕ → Colors → List Selector → C → T → Answer Rule C T R
  read_body k Γ ss d τ = after (read_properties k Γ d τ) λ ps e τ. keep_rule ss ps e τ

  abbrev pub read_block : ℕ → C → T → Answer Rule C T R
  read_block k d τ = after (skip_colors k d τ) λ x e τ. keep_rule [] [] e τ

  -- at the start t of a selector; Γ are the colours, of which a rule defines none
  unfoldable pub read_rule : ℕ → Colors → T → Token → P → C → Answer Rule C T R
  read_rule zero Γ τ t o d = out_of_fuel d τ
  read_rule (suc k) Γ τ t o d =
      on_sign left_brace t (read_body k Γ [] d τ)
      (cond (is_colors t) (read_block k d τ)
      (after (read_selector k τ t o d) λ s e τ.
      cond s.1
      (read_mandatory_token e τ λ t o f. after (read_rule k Γ τ t o f) λ r g τ. read (add_selector s.0 r) g τ)
      (read_body k Γ (s.0 ∷ []) e τ)))

  -- ---- sheets: a colour is stored at its semicolon; a definition that is no colour has no effect

  abbrev pub keep_color : {A : Type 0} → Name → Token → C → T → (T → Answer A C T R) → Answer A C T R
  keep_color n t c τ k = on_option (color_of t) (k τ) λ x. keep i (color_entry n x) c τ k

  abbrev pub read_color_def : Name → C → T → Answer Reading C T R
  read_color_def n c τ =
      expect_simple_token colon c τ λ d.
      read_mandatory_token d τ λ t o e.
      expect_simple_token semi_colon e τ λ f.
      keep_color n t f τ λ τ. read (definition n t) f τ

  abbrev pub before : Reading → Answer Reading C T R → Answer Reading C T R
  before js a = after a λ ks c τ. read (js ++ ks) c τ

  -- imp: what reads an imported text
  unfoldable pub parse : (Name → C → T → Answer Reading C T R) → ℕ → C → T → Answer Reading C T R
  parse imp zero c τ = on_next (i.next c) (λ r. refused r τ) (λ d. read [] d τ) λ t o d. out_of_fuel c τ
  parse imp (suc k) c τ = on_next (i.next c) (λ r. refused r τ) (λ d. read [] d τ) λ t o d.
      on_import t (λ n. expect_simple_token semi_colon d τ λ e. after (imp n e τ) λ js f τ. before js (parse imp k e τ))
      (on_color_ref t (λ n. after (read_color_def n d τ) λ js e τ. before js (parse imp k e τ))
      (after (read_rule (suc k) (i.store.colors τ) τ t o d) λ r e τ. before (rule_item r ∷ []) (parse imp k e τ)))

  -- behind the import's semicolon; parse and importFile call each other, the remaining depth falling
  unfoldable pub import_file : ℕ → Name → C → T → Answer Reading C T R
  import_file zero n c τ = on_option (i.text n.bytes) (fail i no_text (i.reached c) τ) λ d. fail i too_deep (i.reached c) τ
  import_file (suc k) n c τ = on_option (i.text n.bytes) (fail i no_text (i.reached c) τ) λ d. parse (import_file k) (i.fuel d) d τ

  unfoldable pub load : C → T → Answer Reading C T R
  load c τ = parse (import_file 8) (i.fuel c) c τ
