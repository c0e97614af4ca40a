-- The numbers of a load's refusals: a term that copies the reader.
use Prim.Native.Nat.{ℕ, zero, suc}
use mathlib.Core.Path.{subst}
use mathlib.Core.Bool.{Bool, true, false, cond}
use mathlib.Core.List.{List, []}
use mathlib.Core.Option.{Option, none, some}
use lib.Ieee.{Float}
use Rattle.base.specs.Bytes.{Bytes, ascii, same}
use Rattle.base.specs.Choice.{pick_split}
use Rattle.base.specs.declared.refusal.Refusal.{Refusal}
use Rattle.bundle.specs.Bundle.{is_bundle, check_of}
use Rattle.cursor.specs.declared.Cursor.{Cursor}
use Rattle.sheet.specs.Sheet.{TextTest, NumericTest}
use Rattle.token.specs.Elim.{on-Step, on_step}
use Rattle.token_kind.specs.declared.LexerError.{LexerError}
use Rattle.token.specs.declared.Step.{Step}
use Rattle.token.specs.declared.Step.TheVariants.{End, Took}
use Rattle.token_kind.specs.declared.Token.{Token as Token'}
use Rattle.grammar.specs.Accepted.{load_into}
use Rattle.grammar.specs.Capacity.{Tables, empty, limited}
use Rattle.grammar.specs.Input.{Entry, Next, broken, end, token, Reason, number_of, no_text, not_whole, too_deep, full, Input, over, Answer, refused, read, on_next, on_option, after, keep}
use Rattle.grammar.specs.Reader.{to_binary_string_test_type, to_binary_numeric_test_type, width_increment, is_colors, read_mandatory_token, expect_simple_token, read_identifier, read_operand, read_number, plain_test, bang_test, read_key, read_test, read_number_list, tokens_to_semi_colon, read_simple_eval, end_value, read_property_value, read_properties, read_parts, read_selector, skip_colors, read_body, read_rule, read_color_def, parse, import_file, load}
use Rattle.grammar.specs.Reading.{Value, Selector, Colors, color_named, bare, with_zoom, with_test, with_layer, id_to_object_type, Reading}
use Rattle.grammar.specs.Token.{Name, joined, Sign, Token, right_bracket, left_bracket, left_brace, right_brace, bang, question_mark, colon, double_colon, semi_colon, comma}
use Rattle.grammar.specs.View.{is_sign, on_sign, color_of}
use Rattle.grammar.proofs.ViewLaws.{import_holds, identifier_holds, string_holds, color_ref_holds, number_holds, zoom_range_holds, color_holds}
use Rattle.keep.specs.Encode.{Lengths, capacities}
use Rattle.input.specs.Source.{Spot, next_at}
use Rattle.keep.specs.Source.{reading}
use Rattle.input.specs.Text.{next_of}
use Rattle.input.specs.declared.Source.{Source}
use Rattle.parser.specs.Load.{Held, zeros, sheet_at, loaded, load_of}
use Rattle.mapcss.specs.Numbers.{OneOf, first, later, load_numbers, LoadNumbers}
use Rattle.std.specs.Prelude.{Result, Ok, Err}
use Rattle.base.specs.Option.{on_result}
use Rattle.parser.specs.declared.Counts.{Counts}

-- Q holds of the refusal, if the answer is one
data Fair {A C T R : Type 0} (Q : R → Type 0) : Answer A C T R → Type 0 where
  reads : {x : A} {c : C} {τ : T} → Fair Q (read x c τ)
  refuses : {r : R} {τ : T} → Q r → Fair Q (refused r τ)

abbrev NextFair : {C P R : Type 0} → (R → Type 0) → Next C P R → Type 0
NextFair Q (broken r) = Q r
NextFair Q (end c) = Unit {0}
NextFair Q (token t o c) = Unit {0}

module _ {C T P R : Type 0} (i : Input C T P R) (Q : R → Type 0) (lexed : (c : C) → NextFair Q (i.next c))
    (told : (r : Reason) (o : P) → Q (i.why r o)) where
  module _ {A : Type 0} where
    failed : {r : Reason} {o : P} {τ : T} → Fair {A = A} {C = C} Q (refused (i.why r o) τ)
    failed {r} {o} = refuses (told r o)

    choice : (b : Bool) {f g : Answer A C T R} → Fair Q f → Fair Q g → Fair Q (cond b f g)
    choice true x y = x
    choice false x y = y

    sign_fair : (g : Sign) (t : Token) {f h : Answer A C T R} → Fair Q f → Fair Q h → Fair Q (on_sign g t f h)
    sign_fair g t x y = choice (is_sign g t) x y

    option_fair :
        {B : Type 0} (o : Option B) {f : Answer A C T R} {k : B → Answer A C T R}
        → Fair Q f
        → ((x : B) → Fair Q (k x))
        → Fair Q (on_option o f k)
    unfolding on_option
    option_fair none x y = x
    option_fair (some b) x y = y b

    after_fair :
        {B : Type 0} {a : Answer B C T R} {k : B → C → T → Answer A C T R}
        → Fair Q a
        → ((x : B) (c : C) (τ : T) → Fair Q (k x c τ))
        → Fair Q (after a k)
    unfolding after
    after_fair reads k = k _ _ _
    after_fair (refuses q) k = refuses q

    next_fair :
        (c : C) (τ : T) {f : C → Answer A C T R} {k : Token → P → C → Answer A C T R}
        → ((d : C) → Fair Q (f d))
        → ((t : Token) (o : P) (d : C) → Fair Q (k t o d))
        → Fair Q (on_next (i.next c) (λ r. refused r τ) f k)
    unfolding on_next
    next_fair c τ {f} {k} x y = go (i.next c) (lexed c)
      where
        go : (n : Next C P R) → NextFair Q n → Fair Q (on_next n (λ r. refused r τ) f k)
        go (broken r) q = refuses q
        go (end d) q = x d
        go (token t o d) q = y t o d

    token_fair :
        (c : C) (τ : T) {k : Token → P → C → Answer A C T R}
        → ((t : Token) (o : P) (d : C) → Fair Q (k t o d))
        → Fair Q (read_mandatory_token i c τ k)
    token_fair c τ y = next_fair c τ (λ d. failed) y

    expect_fair :
        (g : Sign) (c : C) (τ : T) {k : C → Answer A C T R}
        → ((d : C) → Fair Q (k d))
        → Fair Q (expect_simple_token i g c τ k)
    expect_fair g c τ y = token_fair c τ λ t o d. sign_fair g t (y d) failed

    name_fair :
        (c : C) (τ : T) {k : Name → C → Answer A C T R}
        → ((a : Name) (d : C) → Fair Q (k a d))
        → Fair Q (read_identifier i c τ k)
    name_fair c τ y = token_fair c τ λ t o d. identifier_holds (Fair Q) t _ _ (λ a q. y a d) failed

    keep_fair : (e : Entry) (c : C) (τ : T) {k : T → Answer A C T R} → ((τ : T) → Fair Q (k τ)) → Fair Q (keep i e c τ k)
    keep_fair e c τ y = option_fair (i.store.put e τ) failed y

  -- ---- tests

  operand_fair : (op : TextTest) (a : Name) (c : C) (τ : T) → Fair Q (read_operand i op a c τ)
  operand_fair op a c τ = token_fair c τ λ t o d.
      identifier_holds (Fair Q) t _ _ (λ b q. expect_fair right_bracket d τ λ e. keep_fair _ e τ λ τ. reads)
      (number_holds (Fair Q) t _ _
      (λ x q.
      expect_fair right_bracket d τ λ e. choice (i.countable x) (keep_fair _ e τ λ τ. keep_fair _ e τ λ τ. reads) failed)
      failed)

  number_fair : (op : NumericTest) (a : Name) (c : C) (τ : T) → Fair Q (read_number i op a c τ)
  number_fair op a c τ = token_fair c τ λ t o d.
      number_holds (Fair Q) t _ _ (λ x q. expect_fair right_bracket d τ λ e. keep_fair _ e τ λ τ. keep_fair _ e τ λ τ. reads) failed

  plain_fair : (a : Name) (τ : T) (t : Token) (o : P) (d : C) → Fair Q (plain_test i a τ t o d)
  unfolding plain_test
  plain_fair a τ t o d =
      option_fair (to_binary_string_test_type t)
      (option_fair (to_binary_numeric_test_type t)
      (sign_fair right_bracket t (keep_fair _ d τ λ τ. reads)
      (sign_fair question_mark t
      (token_fair d τ λ t o e.
      sign_fair right_bracket t (keep_fair _ e τ λ τ. reads)
      (sign_fair bang t (expect_fair right_bracket e τ λ f. keep_fair _ f τ λ τ. reads) failed))
      failed))
      λ op. number_fair op a d τ)
      λ op. operand_fair op a d τ

  bang_fair : (a : Name) (τ : T) (t : Token) (o : P) (d : C) → Fair Q (bang_test i a τ t o d)
  unfolding bang_test
  bang_fair a τ t o d =
      sign_fair right_bracket t (keep_fair _ d τ λ τ. reads)
      (sign_fair question_mark t (token_fair d τ λ t o e. sign_fair right_bracket t (keep_fair _ e τ λ τ. reads) failed) failed)

  key_fair :
      {A : Type 0} (a : Name) (c : C) (τ : T) (k : Name → T → Token → P → C → Answer A C T R)
      → ((a : Name) (t : Token) (o : P) (d : C) → Fair Q (k a τ t o d))
      → Fair Q (read_key i a c τ k)
  key_fair a c τ k h = token_fair c τ λ t o d.
      sign_fair colon t (name_fair d τ λ b e. token_fair e τ λ t o f. h (joined a b) t o f) (h a t o d)

  test_fair : (c : C) (τ : T) → Fair Q (read_test i c τ)
  unfolding read_test
  test_fair c τ = token_fair c τ λ t o d.
      identifier_holds (Fair Q) t _ _ (λ a q. key_fair a d τ (plain_test i) λ a. plain_fair a τ)
      (string_holds (Fair Q) t _ _ (λ a q. key_fair a d τ (plain_test i) λ a. plain_fair a τ)
      (sign_fair bang t (name_fair d τ λ a e. key_fair a e τ (bang_test i) λ a. bang_fair a τ) failed))

  -- ---- properties

  numbers_fair : (k : ℕ) (x : Float) (c : C) (τ : T) → Fair Q (read_number_list i k x c τ)
  unfolding read_number_list
  numbers_fair zero x c τ = failed
  numbers_fair (suc k) x c τ = keep_fair _ c τ λ τ. token_fair c τ λ t o d.
      sign_fair semi_colon t reads
      (sign_fair comma t
      (token_fair d τ λ t o e. number_holds (Fair Q) t _ _ (λ y q. after_fair (numbers_fair k y e τ) λ ys f τ. reads) failed)
      failed)

  tokens_fair : (k : ℕ) (c : C) (τ : T) → Fair Q (tokens_to_semi_colon i k c τ)
  unfolding tokens_to_semi_colon
  tokens_fair zero c τ = failed
  tokens_fair (suc k) c τ = token_fair c τ λ t o d.
      sign_fair semi_colon t reads (after_fair (tokens_fair k d τ) λ ts e τ. reads)

  eval_fair : (k : ℕ) (o : P) (c : C) (τ : T) → Fair Q (read_simple_eval i k o c τ)
  unfolding read_simple_eval
  eval_fair k o c τ = after_fair (tokens_fair k c τ) λ ts d τ.
      option_fair (width_increment ts) failed λ x. keep_fair _ d τ λ τ. reads

  end_fair : (v : Value) (c : C) (τ : T) → Fair Q (end_value i v c τ)
  end_fair v c τ = expect_fair semi_colon c τ λ d. reads

  value_fair : (k : ℕ) (Γ : Colors) (c : C) (τ : T) → Fair Q (read_property_value i k Γ c τ)
  unfolding read_property_value
  value_fair k Γ c τ = token_fair c τ λ t o d.
      identifier_holds (Fair Q) t _ _
      (λ a q.
      choice (same a.bytes (ascii "eval")) (eval_fair k o d τ)
      (token_fair d τ λ t o e. sign_fair colon t (name_fair e τ λ b f. end_fair _ f τ) (sign_fair semi_colon t reads failed)))
      (string_holds (Fair Q) t _ _ (λ a q. end_fair _ d τ)
      (color_holds (Fair Q) t _ _ (λ x q. end_fair _ d τ)
      (color_ref_holds (Fair Q) t _ _ (λ n q. option_fair (color_named n Γ) failed λ x. end_fair _ d τ)
      (number_holds (Fair Q) t _ _ (λ x q. after_fair (numbers_fair k x d τ) λ xs e τ. reads) failed))))

  properties_fair : (k : ℕ) (Γ : Colors) (c : C) (τ : T) → Fair Q (read_properties i k Γ c τ)
  unfolding read_properties
  properties_fair zero Γ c τ = failed
  properties_fair (suc k) Γ c τ = token_fair c τ λ t o d.
      identifier_holds (Fair Q) t _ _
      (λ a q.
      expect_fair colon d τ λ e.
      after_fair (value_fair k Γ e τ) λ x f τ.
      keep_fair _ f τ λ τ.
      after_fair (properties_fair k Γ f τ) λ ps g τ. reads)
      (sign_fair right_brace t reads failed)

  -- ---- selectors and rules

  parts_fair : (k : ℕ) (σ : Selector) (c : C) (τ : T) → Fair Q (read_parts i k σ c τ)
  unfolding read_parts
  parts_fair zero σ c τ = failed
  parts_fair (suc k) σ c τ = token_fair c τ λ t o d.
      sign_fair left_brace t (keep_fair _ d τ λ τ. reads)
      (sign_fair comma t (keep_fair _ d τ λ τ. reads)
      (zoom_range_holds (Fair Q) t _ _ (λ a b q. parts_fair k (with_zoom σ a b) d τ)
      (sign_fair left_bracket t (after_fair (test_fair d τ) λ x e τ. parts_fair k (with_test σ x) e τ)
      (sign_fair colon t (name_fair d τ λ a e. parts_fair k σ e τ)
      (sign_fair double_colon t (name_fair d τ λ a e. parts_fair k (with_layer σ a) e τ) failed)))))

  selector_fair : (k : ℕ) (τ : T) (t : Token) (o : P) (d : C) → Fair Q (read_selector i k τ t o d)
  unfolding read_selector
  selector_fair k τ t o d =
      identifier_holds (Fair Q) t _ _
      (λ a q. option_fair (id_to_object_type a.bytes) failed λ y. parts_fair k (bare y) d τ)
      failed

  skip_fair : (k : ℕ) (c : C) (τ : T) → Fair Q (skip_colors i k c τ)
  unfolding skip_colors
  skip_fair zero c τ = failed
  skip_fair (suc k) c τ = token_fair c τ λ t o d. sign_fair right_brace t reads (skip_fair k d τ)

  body_fair : (k : ℕ) (Γ : Colors) (ss : List Selector) (c : C) (τ : T) → Fair Q (read_body i k Γ ss c τ)
  body_fair k Γ ss c τ = after_fair (properties_fair k Γ c τ) λ ps e τ. keep_fair _ e τ λ τ. reads

  rule_fair : (k : ℕ) (Γ : Colors) (τ : T) (t : Token) (o : P) (d : C) → Fair Q (read_rule i k Γ τ t o d)
  unfolding read_rule
  rule_fair zero Γ τ t o d = failed
  rule_fair (suc k) Γ τ t o d =
      sign_fair left_brace t (body_fair k Γ [] d τ)
      (choice (is_colors t) (after_fair (skip_fair k d τ) λ x e τ. keep_fair _ e τ λ τ. reads)
      (after_fair (selector_fair k τ t o d) λ s e τ.
      choice s.1
      (token_fair e τ λ t o f. after_fair (rule_fair k Γ τ t o f) λ r g τ. reads)
      (body_fair k Γ _ e τ)))

  -- ---- sheets

  color_fair : (n : Name) (c : C) (τ : T) → Fair Q (read_color_def i n c τ)
  color_fair n c τ = expect_fair colon c τ λ d. token_fair d τ λ t o e. expect_fair semi_colon e τ λ f.
      option_fair (color_of t) reads λ x. keep_fair _ f τ λ τ. reads

  parse_fair :
      (imp : Name → C → T → Answer Reading C T R)
      → ((n : Name) (c : C) (τ : T) → Fair Q (imp n c τ))
      → (k : ℕ) (c : C) (τ : T)
      → Fair Q (parse i imp k c τ)
  unfolding parse
  parse_fair imp h zero c τ = next_fair c τ (λ d. reads) λ t o d. failed
  parse_fair imp h (suc k) c τ = next_fair c τ (λ d. reads) λ t o d.
      import_holds (Fair Q) t _ _
      (λ n q.
      expect_fair semi_colon d τ λ e. after_fair (h n e τ) λ js f τ. after_fair (parse_fair imp h k e τ) λ ks g τ. reads)
      (color_ref_holds (Fair Q) t _ _
      (λ n q. after_fair (color_fair n d τ) λ js e τ. after_fair (parse_fair imp h k e τ) λ ks g τ. reads)
      (after_fair (rule_fair (suc k) (i.store.colors τ) τ t o d) λ r e τ. after_fair (parse_fair imp h k e τ) λ ks g τ. reads))

  import_fair : (k : ℕ) (n : Name) (c : C) (τ : T) → Fair Q (import_file i k n c τ)
  unfolding import_file
  import_fair zero n c τ = option_fair (i.text n.bytes) failed λ d. failed
  import_fair (suc k) n c τ = option_fair (i.text n.bytes) failed λ d. parse_fair (import_file i k) (import_fair k) (i.fuel d) d τ

  load_fair : (c : C) (τ : T) → Fair Q (load i c τ)
  unfolding load
  load_fair c τ = parse_fair (import_file i 8) (import_fair 8) (i.fuel c) c τ

-- ---- a load

abbrev Listed : Refusal → Type 0
Listed e = OneOf load_numbers e.number

step_split :
    {B : Type 0} (F : B → Type 0) (x : Result Step LexerError) (f : LexerError → B) (g : Cursor → B) (h : Token' → ℕ → ℕ → Cursor → B)
    → ((e : LexerError) → F (f e))
    → ((d : Cursor) → F (g d))
    → ((t : Token') (a b : ℕ) (d : Cursor) → F (h t a b d))
    → F (on_step x f g h)
unfolding on-Step on_result
step_split F (Err e) f g h p q r = p e
step_split F (Ok (End d)) f g h p q r = q d
step_split F (Ok (Took t a b d)) f g h p q r = r t a b d

next_listed_lem : (bundle : Bytes) (s : Source) (c : Cursor) → NextFair Listed (next_at bundle s c)
unfolding next_at
next_listed_lem bundle s c =
    step_split (NextFair Listed) (next_of bundle s c) _ _ _ (λ e. later (later first)) (λ d. tt) (λ t a b d. tt)

reason_listed : (r : Reason) → OneOf load_numbers (number_of r).0
reason_listed no_text = later (later (later (later first)))
reason_listed not_whole = later (later (later (later (later first))))
reason_listed (full e) = later (later (later (later (later (later first)))))
reason_listed too_deep = later (later (later (later (later (later (later first))))))
reason_listed r = later (later (later first))

abbrev CheckedIn : Result ℕ Refusal → Type 0
CheckedIn (Err e) = Listed e
CheckedIn (Ok n) = Unit {0}

abbrev LoadedIn : Result Counts Refusal → Type 0
LoadedIn (Err e) = Listed e
LoadedIn (Ok n) = Unit {0}

check_in : (bundle : Bytes) → CheckedIn (check_of bundle)
unfolding check_of
check_in bundle =
    pick_split CheckedIn (is_bundle bundle) _ _ (λ q. pick_split CheckedIn _ _ _ (λ q. tt) (λ q. later first)) (λ q. first)

loaded_in : (l : Lengths) {a : Answer Reading Spot Tables Refusal} → Fair Listed a → LoadedIn (loaded l a).0
unfolding loaded
loaded_in l reads = tt
loaded_in l (refuses q) = q

load_in : (bundle : Bytes) (l : Lengths) → LoadedIn (load_of bundle l).0
unfolding load_of on_result
load_in bundle l = go (check_of bundle) (check_in bundle)
  where
    answer : Answer Reading Spot Tables Refusal
    answer = load_into (reading bundle) (capacities l) (sheet_at bundle)

    go : (x : Result ℕ Refusal) → CheckedIn x → LoadedIn (on_result x (λ e. (Err e, zeros l)) (λ count. loaded l answer)).0
    go (Err e) h = h
    go (Ok n) h =
        loaded_in l
        (load_fair (over (reading bundle) (reading bundle).fuel (limited (capacities l))) Listed
        (λ c. next_listed_lem bundle c.source c.cursor)
        (λ r o. reason_listed r) (sheet_at bundle) empty)

pub load_numbers_lem : LoadNumbers
load_numbers_lem bundle l e h p = subst (λ (x : Result Counts Refusal × Held). LoadedIn x.0) p (load_in bundle l)
