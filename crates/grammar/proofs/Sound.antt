-- What the reader accepts: it is a phrase of the grammar, and its entries are in the tables, in order.
use Prim.Native.Nat.{ℕ, zero, suc}
use Rattle.std.specs.Prelude.{◌≡◌, Bool, true, false, Float}
use Rattle.std.proofs.Math.Path.{refl, sym, ap}
use Rattle.std.proofs.Common.{◌∙◌, subst}
use Rattle.std.proofs.lemmas.Bool.{cond_both}
use Rattle.std.proofs.lemmas.List.{append-nil}
use mathlib.Core.List.{List, [], ◌∷◌, ◌++◌, append_assoc}
use Rattle.std.proofs.Math.Option.{Option, none, some}
use Rattle.base.specs.Bytes.{Bytes, ascii, same}
use Rattle.base.specs.Choice.{clash, different}
use Rattle.base.proofs.Compare.{same_true}
use Rattle.color.specs.declared.Color.{Color}
use Rattle.sheet.specs.Sheet.{ObjectType, TextTest, NumericTest}
use Rattle.grammar.specs.Token.{Name, joined, Sign, Token, import, identifier, string, color_ref, number, color, sign, left_paren, right_paren, left_bracket, right_bracket, left_brace, right_brace, equal_sign, not_equal_sign, less_sign, greater_sign, less_or_equal_sign, greater_or_equal_sign, bang, question_mark, colon, double_colon, semi_colon, comma}
use Rattle.grammar.specs.View.{on_identifier, on_color, color_of}
use Rattle.grammar.proofs.ViewLaws.{sign_holds, identifier_holds, string_holds, number_holds}
use Rattle.grammar.specs.Reading.{Test, text, plain, Value, numbers, Selector, Property, Rule, rule_item, color_item, Reading, Colors, define, color_named, colors_after, bare, with_zoom, with_test, with_layer, id_to_object_type}
use Rattle.grammar.specs.Input.{Entry, rule_entry, selector_entry, property_entry, color_entry, token, Input, Answer, read, on_option, keep}
use Rattle.grammar.specs.Reader.{to_binary_string_test_type, to_binary_numeric_test_type, want, want_word, want_string, suffix, width_increment, is_colors, read_operand, read_number, plain_test, bang_test, read_key, read_test, read_number_list, tokens_to_semi_colon, read_simple_eval, read_property_value, read_properties, read_parts, read_selector, skip_colors, read_rule, definition, keep_color, read_color_def, parse, import_file, load}
use Rattle.grammar.specs.Grammar.{IsName, single, double, IsKey, named, quoted_key, quoted_double, IsEquality, eq, ne, IsComparison, lt, le, gt, ge, plain_operand, digits_operand, IsTest, there, true_tag, false_tag, missing, untrue, compared, measured, IsNumbers, last_number, more_numbers, IsDelta, zero_delta, some_delta, IsValue, one_word, two_words, a_string, a_color, reference, list, eval, IsProperties, closed, assign, HasParts, nothing, zooms, tested, class, layer, IsSelector, typed, IsSkipped, stop, over, IsRule, body, auxiliary, last_selector, selector_then, finish, a_rule, defined, dropped, imported}
use Rattle.grammar.specs.Entries.{test_entries, tests_entries, numbers_entries, value_entries, properties_entries, selectors_entries, rule_entries, entries_of, tint, tints}
use Rattle.grammar.specs.Stream.{Gives, here, ◌▸◌, WholeTo, TextOf, Sheet}
use Rattle.grammar.proofs.Laws.{Puts, kept, ◌◂◌, join, both, found, Phrase, Sound, refused_sound, read_sound, next_sound, option_sound, test_sound_lem, sign_sound, import_sound, identifier_sound, string_sound, color_ref_sound, number_sound, color_sound, zoom_sound, after_sound, token_sound, expect_sound, name_sound, keep_sound}

-- ---- what an option holds

module _ {B : Type 0} (P : B → Type 0) where
  abbrev pub Tells : Option B → Type 0
  Tells o = (x : B) → o ≡ some x → P x

  none_tells : Tells none
  none_tells x e = different cc

  some_tells : {x : B} → P x → Tells (some x)
  some_tells {x} h y e = let q : x ≡ y = cc in subst P q h

module _ {B : Type 0} (P : List Token → B → Type 0) where
  want_tells :
      (c : Sign) (ts : List Token) (k : List Token → Option B)
      → ((us : List Token) → Tells (P (sign c ∷ us)) (k us))
      → Tells (P ts) (want c ts k)
  want_tells c [] k h = none_tells _
  want_tells c (t ∷ ts) k h =
      sign_holds (Tells (P (t ∷ ts))) c t _ _
      (λ q. subst (λ t. Tells (P (t ∷ ts)) (k ts)) (sym q) (h ts))
      (λ n. none_tells _)

  word_tells :
      (a : Bytes) (ts : List Token) (k : List Token → Option B)
      → ((n : Name) → n.bytes ≡ a → (us : List Token) → Tells (P (identifier n ∷ us)) (k us))
      → Tells (P ts) (want_word a ts k)
  word_tells a [] k h = none_tells _
  word_tells a (t ∷ ts) k h = identifier_holds (Tells (P (t ∷ ts))) t _ _
      (λ b q. cond_both (same b.bytes a) _ _ (Tells (P (t ∷ ts)))
      (λ z. subst (λ t. Tells (P (t ∷ ts)) (k ts)) (sym q) (h b (same_true b.bytes a z) ts))
      (λ z. none_tells _))
      (none_tells _)

  string_tells :
      (a : Bytes) (ts : List Token) (k : List Token → Option B)
      → ((n : Name) → n.bytes ≡ a → (us : List Token) → Tells (P (string n ∷ us)) (k us))
      → Tells (P ts) (want_string a ts k)
  string_tells a [] k h = none_tells _
  string_tells a (t ∷ ts) k h = string_holds (Tells (P (t ∷ ts))) t _ _
      (λ b q. cond_both (same b.bytes a) _ _ (Tells (P (t ∷ ts)))
      (λ z. subst (λ t. Tells (P (t ∷ ts)) (k ts)) (sym q) (h b (same_true b.bytes a z) ts))
      (λ z. none_tells _))
      (none_tells _)

suffix_tells :
    (a b : Name)
    → a.bytes ≡ ascii "prop"
    → b.bytes ≡ ascii "width"
    → (ts : List Token)
    → Tells (IsDelta (sign left_paren ∷ identifier a ∷ sign left_paren ∷ string b ∷ sign right_paren ∷ ts)) (suffix ts)
suffix_tells a b ea eb [] = none_tells _
suffix_tells a b ea eb (t ∷ []) = sign_holds (Tells _) right_paren t _ _ (λ q. rw q (some_tells _ (zero_delta a b ea eb))) (λ n. none_tells _)
suffix_tells a b ea eb (t ∷ u ∷ []) = sign_holds (Tells _) right_paren u _ _
    (λ q. number_holds (Tells _) t _ _ (λ x r. rw (q, r) (some_tells _ (some_delta a b x ea eb))) (none_tells _))
    (λ n. none_tells _)
suffix_tells a b ea eb (t ∷ u ∷ v ∷ ts) = none_tells _

delta_tells : (ts : List Token) (x : Float) → width_increment ts ≡ some x → IsDelta ts x
unfolding width_increment
delta_tells ts =
    want_tells IsDelta left_paren ts _ λ ts.
    word_tells (λ us. IsDelta (sign left_paren ∷ us)) (ascii "prop") ts _ λ a ea ts.
    want_tells (λ us. IsDelta (sign left_paren ∷ identifier a ∷ us)) left_paren ts _ λ ts.
    string_tells (λ us. IsDelta (sign left_paren ∷ identifier a ∷ sign left_paren ∷ us)) (ascii "width") ts _ λ b eb ts.
    want_tells (λ us. IsDelta (sign left_paren ∷ identifier a ∷ sign left_paren ∷ string b ∷ us)) right_paren ts _ (suffix_tells a b ea eb)

-- ---- what the signs of a test tell

abbrev pub Told : {B : Type 0} → (Sign → B → Type 0) → Token → B → Type 0
Told X t op = (g : Sign) × ((t ≡ sign g) × X g op)

equality_tells : (t : Token) → Tells (Told IsEquality t) (to_binary_string_test_type t)
unfolding to_binary_string_test_type
equality_tells t =
    sign_holds (Tells (Told IsEquality t)) equal_sign t _ _ (λ q. some_tells _ (_, (q, eq))) λ n.
    sign_holds (Tells (Told IsEquality t)) not_equal_sign t _ _ (λ q. some_tells _ (_, (q, ne))) λ n.
    none_tells _

comparison_tells : (t : Token) → Tells (Told IsComparison t) (to_binary_numeric_test_type t)
unfolding to_binary_numeric_test_type
comparison_tells t =
    sign_holds (Tells (Told IsComparison t)) less_sign t _ _ (λ q. some_tells _ (_, (q, lt))) λ n.
    sign_holds (Tells (Told IsComparison t)) less_or_equal_sign t _ _ (λ q. some_tells _ (_, (q, le))) λ n.
    sign_holds (Tells (Told IsComparison t)) greater_sign t _ _ (λ q. some_tells _ (_, (q, gt))) λ n.
    sign_holds (Tells (Told IsComparison t)) greater_or_equal_sign t _ _ (λ q. some_tells _ (_, (q, ge))) λ n.
    none_tells _

colors_tell : (t : Token) → is_colors t ≡ true → (a : Name) × ((t ≡ identifier a) × (a.bytes ≡ ascii "colors"))
unfolding is_colors on_identifier
colors_tell (identifier x) e = (x, (refl, same_true x.bytes (ascii "colors") e))
colors_tell t e = clash e refl

-- ---- the tests that the parts of a selector add

module _ {countable : Float → Bool} where
  unfoldable pub added : {σ τ : Selector} {p : List Token} → HasParts countable σ p τ → List Test
  added nothing = []
  added (zooms a b h) = added h
  added (tested {x = x} t h) = x ∷ added h
  added (class a h) = added h
  added (layer a h) = added h

  pub added_is : {σ τ : Selector} {p : List Token} (h : HasParts countable σ p τ) → τ.tests ≡ σ.tests ++ added h
  unfolding added
  added_is {σ} nothing = sym (append-nil σ.tests)
  added_is (zooms a b h) = added_is h
  added_is {σ} (tested {x = x} t h) = added_is h ∙ append_assoc σ.tests (x ∷ []) (added h)
  added_is (class a h) = added_is h
  added_is (layer a h) = added_is h

-- ---- the entries of a rule define no colour

tints_append : (Γ : Colors) (es fs : List Entry) → tints Γ (es ++ fs) ≡ tints (tints Γ es) fs
unfolding tints
tints_append Γ [] fs = refl
tints_append Γ (e ∷ es) fs = tints_append (tint Γ e) es fs

test_tints : (Γ : Colors) (t : Test) → tints Γ (test_entries t) ≡ Γ
unfolding tints
test_tints Γ (text o a (plain b)) = refl
test_tints Γ t = refl

tests_tint : (Γ : Colors) (ts : List Test) → tints Γ (tests_entries ts) ≡ Γ
unfolding tints tests_entries
tests_tint Γ [] = refl
tests_tint Γ (t ∷ ts) =
    tints_append Γ (test_entries t) (tests_entries ts)
    ∙ ap (λ Γ. tints Γ (tests_entries ts)) (test_tints Γ t)
    ∙ tests_tint Γ ts

numbers_tint : (Γ : Colors) (xs : List Float) → tints Γ (numbers_entries xs) ≡ Γ
unfolding tints numbers_entries
numbers_tint Γ [] = refl
numbers_tint Γ (x ∷ xs) = numbers_tint Γ xs

value_tints : (Γ : Colors) (v : Value) → tints Γ (value_entries v) ≡ Γ
unfolding tints
value_tints Γ (numbers xs) = numbers_tint Γ xs
value_tints Γ v = refl

properties_tint : (Γ : Colors) (ps : List Property) → tints Γ (properties_entries ps) ≡ Γ
unfolding tints properties_entries
properties_tint Γ [] = refl
properties_tint Γ (p ∷ ps) =
    tints_append Γ (value_entries p.value) (property_entry p ∷ properties_entries ps)
    ∙ ap (λ Γ. tints Γ (properties_entries ps)) (value_tints Γ p.value)
    ∙ properties_tint Γ ps

selectors_tint : (Γ : Colors) (ss : List Selector) (es : List Entry) → tints Γ (selectors_entries ss es) ≡ tints Γ es
unfolding tints selectors_entries
selectors_tint Γ [] es = refl
selectors_tint Γ (σ ∷ ss) es =
    tints_append Γ (tests_entries σ.tests) (selector_entry σ ∷ selectors_entries ss es)
    ∙ ap (λ Γ. tints Γ (selectors_entries ss es)) (tests_tint Γ σ.tests)
    ∙ selectors_tint Γ ss es

rule_tints : (Γ : Colors) (r : Rule) → tints Γ (rule_entries r) ≡ Γ
unfolding tints rule_entries
rule_tints Γ r =
    selectors_tint Γ r.selectors (properties_entries r.properties ++ (rule_entry ∷ []))
    ∙ tints_append Γ (properties_entries r.properties) (rule_entry ∷ [])
    ∙ properties_tint Γ r.properties

pub reading_tints : (Γ : Colors) (js : Reading) → tints Γ (entries_of js) ≡ colors_after Γ js
unfolding tints entries_of colors_after
reading_tints Γ [] = refl
reading_tints Γ (rule_item r ∷ js) =
    tints_append Γ (rule_entries r) (entries_of js)
    ∙ ap (λ Γ. tints Γ (entries_of js)) (rule_tints Γ r)
    ∙ reading_tints Γ js
reading_tints Γ (color_item n c ∷ js) = reading_tints (define Γ n c) js

pub entries_append : (js ks : Reading) → entries_of (js ++ ks) ≡ entries_of js ++ entries_of ks
unfolding entries_of
entries_append [] ks = refl
entries_append (rule_item r ∷ js) ks =
    ap (λ es. rule_entries r ++ es) (entries_append js ks)
    ∙ sym (append_assoc (rule_entries r) (entries_of js) (entries_of ks))
entries_append (color_item n c ∷ js) ks = ap (λ es. color_entry n c ∷ es) (entries_append js ks)

-- the sign behind a selector's parts
abbrev pub ender : Bool → Sign
ender true = comma
ender false = left_brace

module _ {C T P R : Type 0} (i : Input C T P R) where
  -- ---- tests

  abbrev Tests : C → T → Test → C → T → Type 0
  Tests c τ = Phrase i (IsTest i.countable) test_entries c τ

  operand_sound :
      {p : List Token} {a : Name} {g : Sign} {op : TextTest} {c₀ c d : C} {o : P} {τ : T}
      → IsKey p a
      → Gives i c₀ p c
      → i.next c ≡ token (sign g) o d
      → IsEquality g op
      → Sound (Tests c₀ τ) (read_operand i op a d τ)
  operand_sound {d = d} {τ = τ} y g e z = token_sound _ i d τ λ t o v f.
      identifier_sound _ t
      (λ b q.
      expect_sound _ i right_bracket v τ λ o w x. keep_sound _ i _ w τ λ υ m. read_sound _
      (_, (join i g (e ▸ found i f q ▸ x ▸ here), (m ◂ kept, compared y z (plain_operand b)))))
      (number_sound _ t (λ x q. expect_sound _ i right_bracket v τ λ o w u. test_sound_lem _ (i.countable x)
      (λ n.
      keep_sound _ i _ w τ λ υ m. keep_sound _ i _ w υ λ φ l. read_sound _
      (_, (join i g (e ▸ found i f q ▸ u ▸ here), (m ◂ l ◂ kept, compared y z (digits_operand x n)))))
      (λ n. refused_sound _ _ _))
      (refused_sound _ _ _))

  number_test_sound :
      {p : List Token} {a : Name} {g : Sign} {op : NumericTest} {c₀ c d : C} {o : P} {τ : T}
      → IsKey p a
      → Gives i c₀ p c
      → i.next c ≡ token (sign g) o d
      → IsComparison g op
      → Sound (Tests c₀ τ) (read_number i op a d τ)
  number_test_sound {d = d} {τ = τ} y g e z = token_sound _ i d τ λ t o v f.
      number_sound _ t
      (λ x q.
      expect_sound _ i right_bracket v τ λ o w u. keep_sound _ i _ w τ λ υ m. keep_sound _ i _ w υ λ φ l. read_sound
      _
      (_, (join i g (e ▸ found i f q ▸ u ▸ here), (m ◂ l ◂ kept, measured y z x))))
      (refused_sound _ _ _)

  plain_sound :
      {p : List Token} {a : Name} {c₀ c d : C} {o : P} {τ : T} {t : Token}
      → IsKey p a
      → Gives i c₀ p c
      → i.next c ≡ token t o d
      → Sound (Tests c₀ τ) (plain_test i a τ t o d)
  unfolding plain_test
  plain_sound {d = d} {τ = τ} {t = t} y g e =
      option_sound _ (to_binary_string_test_type t)
      (λ n. option_sound _ (to_binary_numeric_test_type t)
      (λ n. sign_sound _ right_bracket t (λ q. keep_sound _ i _ d τ λ υ m. read_sound _ (_, (join i g (found i e q ▸ here), (m ◂ kept, there y)))) λ n.
      sign_sound _ question_mark t (λ q. token_sound _ i d τ λ t o v f.
      sign_sound _ right_bracket t
      (λ r.
      keep_sound _ i _ v τ λ υ m. read_sound _
      (_, (join i g (found i e q ▸ found i f r ▸ here), (m ◂ kept, true_tag y)))) λ n.
      sign_sound _ bang t
      (λ r.
      expect_sound _ i right_bracket v τ λ o w z. keep_sound _ i _ w τ λ υ m. read_sound _
      (_, (join i g (found i e q ▸ found i f r ▸ z ▸ here), (m ◂ kept, false_tag y)))) λ n.
      refused_sound _ _ _)
      λ n. refused_sound _ _ _)
      (λ op q. let h = comparison_tells t op q in number_test_sound y g (found i e h.1.0) h.1.1))
      (λ op q. let h = equality_tells t op q in operand_sound y g (found i e h.1.0) h.1.1)

  bang_sound :
      {p : List Token} {a : Name} {c₀ c d : C} {o : P} {τ : T} {t : Token}
      → IsName p a
      → Gives i c₀ (sign bang ∷ p) c
      → i.next c ≡ token t o d
      → Sound (Tests c₀ τ) (bang_test i a τ t o d)
  unfolding bang_test
  bang_sound {d = d} {τ = τ} {t = t} y g e =
      sign_sound _ right_bracket t
      (λ q. keep_sound _ i _ d τ λ υ m. read_sound _ (_, (join i g (found i e q ▸ here), (m ◂ kept, missing y))))
      λ n.
      sign_sound _ question_mark t (λ q. token_sound _ i d τ λ t o v f.
      sign_sound _ right_bracket t
      (λ r.
      keep_sound _ i _ v τ λ υ m. read_sound _
      (_, (join i g (found i e q ▸ found i f r ▸ here), (m ◂ kept, untrue y)))) λ n.
      refused_sound _ _ _)
      λ n. refused_sound _ _ _

  key_sound : {A : Type 0} (S : A → C → T → Type 0) (a : Name) (c : C) (τ : T) (k : Name → T → Token → P → C → Answer A C T R)
      → ((t : Token) (o : P) (d : C) → i.next c ≡ token t o d → Sound S (k a τ t o d))
      →
      ((b : Name) (t : Token) (o : P) (d e : C) → Gives i c (sign colon ∷ identifier b ∷ []) d → i.next d ≡ token t o
      e → Sound S (k (joined a b) τ t o e))
      → Sound S (read_key i a c τ k)
  key_sound S a c τ k h₁ h₂ = token_sound _ i c τ λ t o u e.
      sign_sound _ colon t
      (λ q. name_sound _ i u τ λ b o v f. token_sound _ i v τ λ t o w z. h₂ b t o v w (found i e q ▸ f ▸ here) z)
      λ n. h₁ t o u e

  pub test_reads : (c : C) (τ : T) → Sound (Tests c τ) (read_test i c τ)
  unfolding read_test
  test_reads c τ = token_sound _ i c τ λ t o u e.
      identifier_sound _ t
      (λ a q.
      key_sound _ a u τ (plain_test i)
      (λ t o v f. plain_sound (named (single a)) (found i e q ▸ here) f)
      (λ b t o v w g f. plain_sound (named (double a b)) (found i e q ▸ g) f))
      (string_sound _ t
      (λ a q.
      key_sound _ a u τ (plain_test i)
      (λ t o v f. plain_sound (quoted_key a) (found i e q ▸ here) f)
      (λ b t o v w g f. plain_sound (quoted_double a b) (found i e q ▸ g) f))
      (sign_sound _ bang t (λ q. name_sound _ i u τ λ a o v z. key_sound _ a v τ (bang_test i) (λ t o w f. bang_sound (single a) (found i e q ▸ z ▸ here) f) (λ b t o w x g f. bang_sound (double a b) (found i e q ▸ z ▸ g) f)) λ n.
      refused_sound _ _ _))

  -- ---- properties

  numbers_read :
      (k : ℕ) (x : Float) (c : C) (τ : T)
      → Sound (Phrase i (λ p xs. IsNumbers (number x ∷ p) xs) numbers_entries c τ) (read_number_list i k x c τ)
  unfolding read_number_list numbers_entries
  numbers_read zero x c τ = refused_sound _ _ _
  numbers_read (suc k) x c τ = keep_sound _ i _ c τ λ υ m. token_sound _ i c υ λ t o u e.
      sign_sound _ semi_colon t (λ q. read_sound _ (_, (found i e q ▸ here, (m ◂ kept, last_number x)))) λ n.
      sign_sound _ comma t (λ q. token_sound _ i u υ λ t o v f.
      number_sound _ t
      (λ y r.
      after_sound _ _ (numbers_read k y v υ) λ ys w φ h. read_sound _
      (_, (found i e q ▸ found i f r ▸ h.1.0, (m ◂ h.1.1.0, more_numbers x h.1.1.1))))
      (refused_sound _ _ _))
      λ n. refused_sound _ _ _

  -- tokens, and then the sign g
  abbrev pub Upto : Sign → C → List Token → C → Type 0
  Upto g c p d = (w : C) × ((o : P) × (Gives i c p w × (i.next w ≡ token (sign g) o d)))

  tokens_read : (k : ℕ) (c : C) (τ : T) → Sound (λ p d υ. Upto semi_colon c p d × (τ ≡ υ)) (tokens_to_semi_colon i k c τ)
  unfolding tokens_to_semi_colon
  tokens_read zero c τ = refused_sound _ _ _
  tokens_read (suc k) c τ = token_sound _ i c τ λ t o u e.
      sign_sound _ semi_colon t (λ q. read_sound _ ((c, (o, (here, found i e q))), refl)) λ n.
      after_sound _ _ (tokens_read k u τ) λ ts v υ h. read_sound _ ((h.0.0, (h.0.1.0, (e ▸ h.0.1.1.0, h.0.1.1.1))), h.1)

  -- the same tables
  same_tables : {τ υ φ : T} {es : List Entry} → τ ≡ υ → Puts i υ es φ → Puts i τ es φ
  same_tables {φ} {es} e h = subst (λ τ. Puts i τ es φ) (sym e) h

  eval_reads :
      {Γ : Colors} (k : ℕ) (a : Name) (o : P) (c d : C) (τ : T)
      → a.bytes ≡ ascii "eval"
      → i.next c ≡ token (identifier a) o d
      → Sound (Phrase i (IsValue Γ) value_entries c τ) (read_simple_eval i k o d τ)
  unfolding read_simple_eval
  eval_reads k a o c d τ z e =
      after_sound _ _ (tokens_read k d τ) λ ts v υ h. option_sound _ (width_increment ts)
      (λ n. refused_sound _ _ _)
      λ x w. keep_sound _ i _ v υ λ φ m.
      read_sound _ (_, (e ▸ join i h.0.1.1.0 (h.0.1.1.1 ▸ here), (same_tables h.1 (m ◂ kept), eval a z (delta_tells ts x w))))

  pub value_reads : (k : ℕ) (Γ : Colors) (c : C) (τ : T) → Sound (Phrase i (IsValue Γ) value_entries c τ) (read_property_value i k Γ c τ)
  unfolding read_property_value
  value_reads k Γ c τ = token_sound _ i c τ λ t o u e.
      identifier_sound _ t (λ a q. test_sound_lem _ (same a.bytes (ascii "eval"))
      (λ z. eval_reads k a o c u τ (same_true a.bytes (ascii "eval") z) (found i e q))
      (λ z. token_sound _ i u τ λ t o v f.
      sign_sound _ colon t
      (λ r.
      name_sound _ i v τ λ b o w g. expect_sound _ i semi_colon w τ λ o x y. read_sound _
      (_, (found i e q ▸ found i f r ▸ g ▸ y ▸ here, (kept, two_words a b z)))) λ n.
      sign_sound _ semi_colon t (λ r. read_sound _ (_, (found i e q ▸ found i f r ▸ here, (kept, one_word a z)))) λ n.
      refused_sound _ _ _))
      (string_sound _ t (λ a q. expect_sound _ i semi_colon u τ λ o v f. read_sound _ (_, (found i e q ▸ f ▸ here, (kept, a_string a))))
      (color_sound _ t (λ c q. expect_sound _ i semi_colon u τ λ o v f. read_sound _ (_, (found i e q ▸ f ▸ here, (kept, a_color c))))
      (color_ref_sound _ t
      (λ n q.
      option_sound _ (color_named n Γ)
      (λ z. refused_sound _ _ _)
      λ c l. expect_sound _ i semi_colon u τ λ o v f. read_sound _
      (_, (found i e q ▸ f ▸ here, (kept, reference n c l))))
      (number_sound _ t
      (λ x q.
      after_sound _ _ (numbers_read k x u τ) λ xs v υ h. read_sound _
      (_, (found i e q ▸ h.1.0, (h.1.1.0, list h.1.1.1))))
      (refused_sound _ _ _)))))

  properties_read :
      (k : ℕ) (Γ : Colors) (c : C) (τ : T)
      → Sound (Phrase i (IsProperties Γ) properties_entries c τ) (read_properties i k Γ c τ)
  unfolding read_properties properties_entries
  properties_read zero Γ c τ = refused_sound _ _ _
  properties_read (suc k) Γ c τ = token_sound _ i c τ λ t o u e.
      identifier_sound _ t (λ a q. expect_sound _ i colon u τ λ o v f.
      after_sound _ _ (value_reads k Γ v τ) λ x w υ h. keep_sound _ i _ w υ λ φ m. after_sound _ _ (properties_read k Γ w φ) λ ps z ψ g.
      read_sound _ (
        _,
        (
          found i e q ▸ f ▸ join i h.1.0 g.1.0,
          (both i h.1.1.0 (m ◂ g.1.1.0), assign a h.1.1.1 g.1.1.1),
        ),
      ))
      (sign_sound _ right_brace t (λ q. read_sound _ (_, (found i e q ▸ here, (kept, closed)))) λ n.
      refused_sound _ _ _)

  -- ---- selectors

  abbrev Parts : Selector → C → T → Selector × Bool → C → T → Type 0
  Parts σ c τ y d υ =
      (p : List Token) ×
      (Upto (ender y.1) c p d ×
      ((h : HasParts i.countable σ p y.0) × Puts i τ (tests_entries (added h) ++ (selector_entry y.0 ∷ []))
      υ))

  parts_read : (k : ℕ) (σ : Selector) (c : C) (τ : T) → Sound (Parts σ c τ) (read_parts i k σ c τ)
  unfolding read_parts added tests_entries
  parts_read zero σ c τ = refused_sound _ _ _
  parts_read (suc k) σ c τ = token_sound _ i c τ λ t o u e.
      sign_sound _ left_brace t
      (λ q. keep_sound _ i _ u τ λ υ m. read_sound _ ([], ((c, (o, (here, found i e q))), (nothing, m ◂ kept))))
      λ n.
      sign_sound _ comma t (λ q. keep_sound _ i _ u τ λ υ m. read_sound _ ([], ((c, (o, (here, found i e q))), (nothing, m ◂ kept)))) λ n.
      zoom_sound _ t (λ a b q. λ y v υ r. let h = parts_read k (with_zoom σ a b) u τ y v υ r in
      (_, ((h.1.0.0, (h.1.0.1.0, (found i e q ▸ h.1.0.1.1.0, h.1.0.1.1.1))), (zooms a b h.1.1.0, h.1.1.1))))
      (sign_sound _ left_bracket t (λ q. after_sound _ _ (test_reads u τ) λ x v υ g. λ y w φ r. let h = parts_read k (with_test σ x) v υ y w φ r in (
        _,
        (
          (h.1.0.0, (h.1.0.1.0, (found i e q ▸ join i g.1.0 h.1.0.1.1.0, h.1.0.1.1.1))),
          (
            tested g.1.1.1 h.1.1.0,
            rw
                (append_assoc (test_entries x) (tests_entries (added h.1.1.0)) (selector_entry y.0 ∷ []))
                (both i g.1.1.0 h.1.1.1),
          ),
        ),
      )) λ n.
      sign_sound _ colon t (λ q. name_sound _ i u τ λ a o v f. λ y w υ r. let h = parts_read k σ v τ y w υ r in
      (_, ((h.1.0.0, (h.1.0.1.0, (found i e q ▸ f ▸ h.1.0.1.1.0, h.1.0.1.1.1))), (class a h.1.1.0, h.1.1.1)))) λ n.
      sign_sound _ double_colon t (λ q. name_sound _ i u τ λ a o v f. λ y w υ r. let h = parts_read k (with_layer σ a) v τ y w υ r in
      (_, ((h.1.0.0, (h.1.0.1.0, (found i e q ▸ f ▸ h.1.0.1.1.0, h.1.0.1.1.1))), (layer a h.1.1.0, h.1.1.1)))) λ n.
      refused_sound _ _ _)

  -- a selector and the sign behind it; its entries stand before any others
  abbrev Selectors : C → T → Selector × Bool → C → T → Type 0
  Selectors c τ y d υ =
      (p : List Token) ×
      (Upto (ender y.1) c p d ×
      (IsSelector i.countable p y.0 × Puts i τ (tests_entries y.0.tests ++ (selector_entry y.0 ∷ [])) υ))

  selector_puts :
      (y : ObjectType) (σ : Selector) {p : List Token} {τ υ : T} (h : HasParts i.countable (bare y) p σ)
      → Puts i τ (tests_entries (added h) ++ (selector_entry σ ∷ [])) υ
      → Puts i τ (tests_entries σ.tests ++ (selector_entry σ ∷ [])) υ
  selector_puts y σ {τ = τ} {υ = υ} h m =
      let q : σ.tests ≡ added h = added_is h in
      subst (λ ts. Puts i τ (tests_entries ts ++ (selector_entry σ ∷ [])) υ) (sym q) m

  pub selector_reads :
      (k : ℕ) (τ : T) (t : Token) (o : P) (c d : C)
      → i.next c ≡ token t o d
      → Sound (Selectors c τ) (read_selector i k τ t o d)
  unfolding read_selector
  selector_reads k τ t o c d e =
      identifier_sound _ t (λ a q. option_sound _ (id_to_object_type a.bytes) (λ n. refused_sound _ _ _) λ y l. λ s v υ r.
      let h = parts_read k (bare y) d τ s v υ r in (
        _,
        (
          (h.1.0.0, (h.1.0.1.0, (found i e q ▸ h.1.0.1.1.0, h.1.0.1.1.1))),
          (typed a y l h.1.1.0, selector_puts y s.0 h.1.1.0 h.1.1.1),
        ),
      ))
      (refused_sound _ _ _)

  -- a selector's entries, and what comes behind them
  selector_both :
      (σ : Selector) {τ υ φ : T} {es : List Entry}
      → Puts i τ (tests_entries σ.tests ++ (selector_entry σ ∷ [])) υ
      → Puts i υ es φ
      → Puts i τ (tests_entries σ.tests ++ (selector_entry σ ∷ es)) φ
  selector_both σ {τ = τ} {φ = φ} {es = es} m l =
      subst (λ l. Puts i τ l φ) (append_assoc (tests_entries σ.tests) (selector_entry σ ∷ []) es) (both i m l)

  -- ---- rules

  skip_reads : (k : ℕ) (c : C) (τ : T) → Sound (λ x d υ. Phrase i (λ p x. IsSkipped p) (λ x. []) c τ x d υ) (skip_colors i k c τ)
  unfolding skip_colors
  skip_reads zero c τ = refused_sound _ _ _
  skip_reads (suc k) c τ = token_sound _ i c τ λ t o u e.
      sign_sound _ right_brace t (λ q. read_sound _ (_, (found i e q ▸ here, (kept, stop)))) λ n.
      λ y v υ r. let h = skip_reads k u τ y v υ r in (_, (e ▸ h.1.0, (h.1.1.0, over t n h.1.1.1)))

  pub rule_reads :
      (k : ℕ) (Γ : Colors) (τ : T) (t : Token) (o : P) (c d : C)
      → i.next c ≡ token t o d
      → Sound (Phrase i (IsRule i.countable Γ) rule_entries c τ) (read_rule i k Γ τ t o d)
  unfolding read_rule rule_entries selectors_entries properties_entries
  rule_reads zero Γ τ t o c d e = refused_sound _ _ _
  rule_reads (suc k) Γ τ t o c d e =
      sign_sound _ left_brace t
      (λ q.
      after_sound _ _ (properties_read k Γ d τ) λ ps v υ h. keep_sound _ i _ v υ λ φ m. read_sound _
      (_, (found i e q ▸ h.1.0, (both i h.1.1.0 (m ◂ kept), body h.1.1.1)))) λ n.
      test_sound_lem _ (is_colors t)
      (λ z.
      let w = colors_tell t z in
      after_sound _ _ (skip_reads k d τ) λ x v υ h. keep_sound _ i _ v υ λ φ m. read_sound _ (
        _,
        (found i e w.1.0 ▸ h.1.0, (both i h.1.1.0 (m ◂ kept), auxiliary w.0 w.1.1 h.1.1.1)),
      ))
      (λ z. after_sound _ _ (selector_reads k τ t o c d e) λ s v υ h.
      test_sound_lem _ s.1
      (λ b. token_sound _ i v υ λ t o w f. after_sound _ _ (rule_reads k Γ υ t o v w f) λ r x φ g.
      read_sound _ (
        _,
        (
          join i h.1.0.1.1.0 (found i h.1.0.1.1.1 (ap (λ b. sign (ender b)) b) ▸ g.1.0),
          (selector_both s.0 h.1.1.1 g.1.1.0, selector_then h.1.1.0 g.1.1.1),
        ),
      ))
      (λ b. after_sound _ _ (properties_read k Γ v υ) λ ps w φ g. keep_sound _ i _ w φ λ ψ m.
      read_sound _ (
        _,
        (
          join i h.1.0.1.1.0 (found i h.1.0.1.1.1 (ap (λ b. sign (ender b)) b) ▸ g.1.0),
          (selector_both s.0 h.1.1.1 (both i g.1.1.0 (m ◂ kept)), last_selector h.1.1.0 g.1.1.1),
        ),
      )))

  -- ---- sheets

  abbrev Sheets : ℕ → C → T → Reading → C → T → Type 0
  Sheets d c τ js f υ = (p : List Token) × (WholeTo i c p f × (Puts i τ (entries_of js) υ × Sheet i d (i.store.colors τ) p js))

  abbrev Imports : ℕ → Name → T → Reading → C → T → Type 0
  Imports d n τ js e υ =
      (k : ℕ) ×
      ((d ≡ suc k) ×
      ((q : List Token) ×
      (TextOf i n.bytes q × (Puts i τ (entries_of js) υ × Sheet i k (i.store.colors τ) q js))))

  -- tokens before a text
  further : {p q : List Token} {c d f : C} → Gives i c p d → WholeTo i d q f → WholeTo i c (p ++ q) f
  further g w = (w.0, (join i g w.1.0, w.1.1))

  entries_both : (js ks : Reading) {τ υ φ : T} → Puts i τ (entries_of js) υ → Puts i υ (entries_of ks) φ → Puts i τ (entries_of (js ++ ks)) φ
  entries_both js ks m l = rw (entries_append js ks) (both i m l)

  imports :
      {d : ℕ} (js : Reading) (τ υ : T) (e : C) (n : Name)
      → Imports d n τ js e υ
      → {p : List Token} {ks : Reading}
      → Sheet i d (colors_after (i.store.colors τ) js) p ks
      → Sheet i d (i.store.colors τ) (import n ∷ sign semi_colon ∷ p) (js ++ ks)
  imports js τ υ e n h g = rw h.1.0 (imported n h.1.1.1.0 h.1.1.1.1.1 (rw h.1.0 at g))

  -- what a definition puts in front of the rest
  definition_is :
      {d : ℕ} {Γ : Colors} {p : List Token} {js : Reading} (n : Name) (t : Token)
      → Sheet i d (colors_after Γ (definition n t)) p js
      → Sheet i d Γ (color_ref n ∷ sign colon ∷ t ∷ sign semi_colon ∷ p) (definition n t ++ js)
  unfolding color_of on_color on_option colors_after
  definition_is n (color c) h = defined n c h
  definition_is n t h = dropped n _ refl h

  color_kept :
      {A : Type 0} (S : A → C → T → Type 0) (n : Name) (t : Token) (c : C) (τ : T) {k : T → Answer A C T R}
      → ((υ : T) → Puts i τ (entries_of (definition n t)) υ → Sound S (k υ))
      → Sound S (keep_color i n t c τ k)
  unfolding on_option entries_of
  color_kept S n t c τ {k} h = go (color_of t) h
    where
      go :
          (o : Option Color)
          → ((υ : T) → Puts i τ (entries_of (on_option o [] λ x. color_item n x ∷ [])) υ → Sound S (k υ))
          → Sound S (on_option o (k τ) λ x. keep i (color_entry n x) c τ k)
      go none h = h τ kept
      go (some x) h = keep_sound S i _ c τ λ υ m. h υ (m ◂ kept)

  -- behind the reference: what is read is the definition by some token
  abbrev Defines : Name → C → T → Reading → C → T → Type 0
  Defines n c τ js d υ =
      (t : Token) ×
      ((js ≡ definition n t) × (Gives i c (sign colon ∷ t ∷ sign semi_colon ∷ []) d × Puts i τ (entries_of js) υ))

  pub color_reads : (n : Name) (c : C) (τ : T) → Sound (Defines n c τ) (read_color_def i n c τ)
  color_reads n c τ = expect_sound _ i colon c τ λ o v f. token_sound _ i v τ λ t o w g. expect_sound _ i semi_colon w τ λ o z r.
      color_kept _ n t z τ λ υ m. read_sound _ (t, (refl, (f ▸ g ▸ r ▸ here, m)))

  defines :
      {d : ℕ} {Γ : Colors} {p : List Token} (js : Reading) {ks : Reading} (n : Name) (t : Token)
      → js ≡ definition n t
      → Sheet i d (colors_after Γ js) p ks
      → Sheet i d Γ (color_ref n ∷ sign colon ∷ t ∷ sign semi_colon ∷ p) (js ++ ks)
  defines {d} {Γ} {p} js {ks} n t e h =
      subst (λ js. Sheet i d Γ (color_ref n ∷ sign colon ∷ t ∷ sign semi_colon ∷ p) (js ++ ks)) (sym e)
      (definition_is n t (subst (λ js. Sheet i d (colors_after Γ js) p ks) e h))

  -- the colours of the tables follow their entries
  module _ (tinted : (e : Entry) (τ υ : T) → i.store.put e τ ≡ some υ → i.store.colors υ ≡ tint (i.store.colors τ) e) where
    puts_tint : {τ υ : T} {es : List Entry} → Puts i τ es υ → i.store.colors υ ≡ tints (i.store.colors τ) es
    unfolding tints
    puts_tint kept = refl
    puts_tint (◌◂◌ {τ = τ} {υ = υ} {e = e} {es = es} m h) = puts_tint h ∙ ap (λ Γ. tints Γ es) (tinted e τ υ m)

    pub reading_colors : {τ υ : T} (js : Reading) → Puts i τ (entries_of js) υ → i.store.colors υ ≡ colors_after (i.store.colors τ) js
    reading_colors {τ} js m = puts_tint m ∙ reading_tints (i.store.colors τ) js

    pub rule_colors : {τ υ : T} (r : Rule) → Puts i τ (rule_entries r) υ → i.store.colors υ ≡ i.store.colors τ
    rule_colors {τ} r m = puts_tint m ∙ rule_tints (i.store.colors τ) r

    recolored : {d : ℕ} {Γ Δ : Colors} {p : List Token} {js : Reading} → Γ ≡ Δ → Sheet i d Γ p js → Sheet i d Δ p js
    recolored {d} {p = p} {js = js} e h = subst (λ Γ. Sheet i d Γ p js) e h

    sheet_reads :
        (d : ℕ) (imp : Name → C → T → Answer Reading C T R)
        → ((n : Name) (c : C) (τ : T) → Sound (Imports d n τ) (imp n c τ))
        → (k : ℕ) (c : C) (τ : T)
        → Sound (Sheets d c τ) (parse i imp k c τ)
    unfolding parse entries_of
    sheet_reads d imp hi zero c τ =
        next_sound _ (i.next c) τ
        (λ f e. read_sound _ ([], ((c, (here, e)), (kept, finish))))
        λ t o u e. refused_sound _ _ _
    sheet_reads d imp hi (suc k) c τ = next_sound _ (i.next c) τ (λ f e. read_sound _ ([], ((c, (here, e)), (kept, finish)))) λ t o u e.
        import_sound _ t
        (λ n q. expect_sound _ i semi_colon u τ λ o v f. after_sound _ _ (hi n v τ) λ js z υ g. after_sound _ _ (sheet_reads d imp hi k v υ) λ ks x φ h.
        read_sound _ (
          _,
          (
            further (found i e q ▸ f ▸ here) h.1.0,
            (
              entries_both js ks g.1.1.1.1.0 h.1.1.0,
              imports js τ υ z n g (recolored (reading_colors js g.1.1.1.1.0) h.1.1.1),
            ),
          ),
        ))
        (color_ref_sound _ t (λ n q. after_sound _ _ (color_reads n u τ) λ js v υ g. after_sound _ _ (sheet_reads d imp hi k v υ) λ ks x φ h.
        read_sound _ (
          _,
          (
            further (found i e q ▸ g.1.1.0) h.1.0,
            (
              entries_both js ks g.1.1.1 h.1.1.0,
              defines js n g.0 g.1.0 (recolored (reading_colors js g.1.1.1) h.1.1.1),
            ),
          ),
        ))
        (after_sound _ _ (rule_reads (suc k) (i.store.colors τ) τ t o c u e) λ r v υ g. after_sound _ _ (sheet_reads d imp hi k v υ) λ ks x φ h.
        read_sound _ (
          _,
          (
            further g.1.0 h.1.0,
            (
              both i g.1.1.0 h.1.1.0,
              a_rule g.1.1.1 (recolored (rule_colors r g.1.1.0) h.1.1.1),
            ),
          ),
        )))

    imports_read : (d : ℕ) (n : Name) (c : C) (τ : T) → Sound (Imports d n τ) (import_file i d n c τ)
    unfolding import_file
    imports_read zero n c τ = option_sound _ (i.text n.bytes) (λ z. refused_sound _ _ _) λ u e. refused_sound _ _ _
    imports_read (suc d) n c τ = option_sound _ (i.text n.bytes) (λ z. refused_sound _ _ _) λ u e. λ y v υ o.
        let h = sheet_reads d (import_file i d) (imports_read d) (i.fuel u) u τ y v υ o in
        (d, (refl, (h.0, ((u, (e, (v, h.1.0))), h.1.1))))

    -- what is loaded has a derivation, and the tables hold its entries, in order
    pub load_sound :
        (c : C) (τ : T) (js : Reading) (f : C) (υ : T)
        → load i c τ ≡ read js f υ
        → (p : List Token) × (WholeTo i c p f × (Puts i τ (entries_of js) υ × Sheet i 8 (i.store.colors τ) p js))
    unfolding load
    load_sound c τ js f υ q = sheet_reads 8 (import_file i 8) (imports_read 8) (i.fuel c) c τ js f υ q
