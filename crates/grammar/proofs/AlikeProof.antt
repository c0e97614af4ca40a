-- The proof of LoadsAlike: a term that copies the reader.
use Prim.Native.Nat.{ℕ, zero, suc, ◌≤◌}
use Rattle.std.proofs.Common.{arith}
use Rattle.std.specs.Prelude.{◌≡◌, Bool, true, false, cond, length, Float}
use Rattle.std.proofs.Math.Path.{refl, subst}
use mathlib.Core.List.{List, [], ◌∷◌, ◌++◌}
use Rattle.std.proofs.Math.Option.{Option, none, some}
use Rattle.std.proofs.Math.ListN.{length-append}
use Rattle.base.specs.Bytes.{ascii, same}
use Rattle.color.specs.declared.Color.{Color}
use Rattle.sheet.specs.Sheet.{TextTest, NumericTest}
use Rattle.grammar.specs.Token.{Name, joined, Sign, Token, import, identifier, string, color_ref, number, zoom_range, color, right_bracket, left_bracket, left_brace, right_brace, bang, question_mark, colon, double_colon, semi_colon, comma}
use Rattle.grammar.specs.View.{is_sign, on_import, on_identifier, on_string, on_color_ref, on_number, on_zoom_range, on_color, color_of}
use Rattle.grammar.specs.Reading.{Test, Selector, Property, rule_item, Reading, Colors, color_named, property, bare, with_zoom, with_test, with_layer, id_to_object_type}
use Rattle.grammar.specs.Input.{Entry, rule_entry, selector_entry, test_entry, property_entry, number_entry, color_entry, full, Store, Next, broken, end, token, Input, over, Answer, refused, read, on_next, on_option, after, keep}
use Rattle.grammar.specs.Reader.{to_binary_string_test_type, to_binary_numeric_test_type, width_increment, is_colors, read_mandatory_token, expect_simple_token, read_identifier, keep_test, read_operand, read_number, plain_test, bang_test, read_key, read_test, read_number_list, tokens_to_semi_colon, read_simple_eval, read_property_value, read_properties, read_parts, read_selector, skip_colors, keep_rule, read_rule, read_color_def, before, parse, import_file, load}
use Rattle.grammar.specs.Stream.{Gives, here, ◌▸◌, Ample, Fueled}
use Rattle.grammar.proofs.Laws.{join, found, gives_over}
use Rattle.grammar.proofs.Sound.{test_reads, value_reads, selector_reads, rule_reads, color_reads}
use Rattle.grammar.proofs.Complete.{rule_long}
use Rattle.grammar.specs.Alike.{Alike, both_refused, both_read, BothPut, both_full, both_take, Proper, Stands, TokensGenuine, LoadsAlike}

module _ {C T U P R : Type 0} (i : Input C T P R) (g : C → ℕ) (z : Store U) (Genuine : Name → Type 0)
    (Small : Color → Type 0) (Rel : T → U → Type 0) (genuine : TokensGenuine Genuine Small i)
    (stands : Stands Genuine Small Rel i.store z) where
  abbrev j : Input C U P R
  j = over i g z

  -- ---- the same choice in both

  module _ {A : Type 0} where
    test_alike :
        (b : Bool) {f g : Answer A C T R} {h k : Answer A C U R}
        → Alike Rel f h
        → Alike Rel g k
        → Alike Rel (cond b f g) (cond b h k)
    test_alike true x y = x
    test_alike false x y = y

    option_alike :
        {B : Type 0} (o : Option B) {f : Answer A C T R} {g : B → Answer A C T R} {h : Answer A C U R} {k : B → Answer A C U R}
        → Alike Rel f h
        → ((x : B) → Alike Rel (g x) (k x))
        → Alike Rel (on_option o f g) (on_option o h k)
    unfolding on_option
    option_alike none x y = x
    option_alike (some b) x y = y b

    next_alike :
        (n : Next C P R) {τ : T} {υ : U} {f : C → Answer A C T R} {g : Token → P → C → Answer A C T R}
        {h : C → Answer A C U R} {k : Token → P → C → Answer A C U R}
        → Rel τ υ
        → ((d : C) → Alike Rel (f d) (h d))
        → ((t : Token) (o : P) (d : C) → n ≡ token t o d → Alike Rel (g t o d) (k t o d))
        → Alike Rel (on_next n (λ r. refused r τ) f g) (on_next n (λ r. refused r υ) h k)
    unfolding on_next
    next_alike (broken r) s x y = both_refused s
    next_alike (end d) s x y = x d
    next_alike (token t o d) s x y = y t o d refl

    -- what was read first is known
    after_alike :
        {B : Type 0} {a : Answer B C T R} {b : Answer B C U R} {f : B → C → T → Answer A C T R} {h : B → C → U → Answer A C U R}
        → Alike Rel a b
        → ((x : B) (c : C) (τ : T) (υ : U) → a ≡ read x c τ → Rel τ υ → Alike Rel (f x c τ) (h x c υ))
        → Alike Rel (after a f) (after b h)
    unfolding after
    after_alike (both_refused s) k = both_refused s
    after_alike (both_read s) k = k _ _ _ _ refl s

    import_alike :
        (t : Token) {f : Name → Answer A C T R} {g : Answer A C T R} {h : Name → Answer A C U R} {k : Answer A C U R}
        → ((x : Name) → Alike Rel (f x) (h x))
        → Alike Rel g k
        → Alike Rel (on_import t f g) (on_import t h k)
    unfolding on_import
    import_alike (import x) m n = m x
    import_alike t m n = n

    identifier_alike :
        (t : Token) {f : Name → Answer A C T R} {g : Answer A C T R} {h : Name → Answer A C U R} {k : Answer A C U R}
        → ((x : Name) → Alike Rel (f x) (h x))
        → Alike Rel g k
        → Alike Rel (on_identifier t f g) (on_identifier t h k)
    unfolding on_identifier
    identifier_alike (identifier x) m n = m x
    identifier_alike t m n = n

    string_alike :
        (t : Token) {f : Name → Answer A C T R} {g : Answer A C T R} {h : Name → Answer A C U R} {k : Answer A C U R}
        → ((x : Name) → Alike Rel (f x) (h x))
        → Alike Rel g k
        → Alike Rel (on_string t f g) (on_string t h k)
    unfolding on_string
    string_alike (string x) m n = m x
    string_alike t m n = n

    color_ref_alike :
        (t : Token) {f : Name → Answer A C T R} {g : Answer A C T R} {h : Name → Answer A C U R} {k : Answer A C U R}
        → ((x : Name) → t ≡ color_ref x → Alike Rel (f x) (h x))
        → Alike Rel g k
        → Alike Rel (on_color_ref t f g) (on_color_ref t h k)
    unfolding on_color_ref
    color_ref_alike (color_ref x) m n = m x refl
    color_ref_alike t m n = n

    number_alike :
        (t : Token) {f : Float → Answer A C T R} {g : Answer A C T R} {h : Float → Answer A C U R} {k : Answer A C U R}
        → ((x : Float) → Alike Rel (f x) (h x))
        → Alike Rel g k
        → Alike Rel (on_number t f g) (on_number t h k)
    unfolding on_number
    number_alike (number x) m n = m x
    number_alike t m n = n

    zoom_alike :
        (t : Token) {f : Option ℕ → Option ℕ → Answer A C T R} {g : Answer A C T R}
        {h : Option ℕ → Option ℕ → Answer A C U R} {k : Answer A C U R}
        → ((x : Option ℕ) (y : Option ℕ) → Alike Rel (f x y) (h x y))
        → Alike Rel g k
        → Alike Rel (on_zoom_range t f g) (on_zoom_range t h k)
    unfolding on_zoom_range
    zoom_alike (zoom_range x y) m n = m x y
    zoom_alike t m n = n

    color_alike :
        (t : Token) {f : Color → Answer A C T R} {g : Answer A C T R} {h : Color → Answer A C U R} {k : Answer A C U R}
        → ((x : Color) → Alike Rel (f x) (h x))
        → Alike Rel g k
        → Alike Rel (on_color t f g) (on_color t h k)
    unfolding on_color
    color_alike (color x) m n = m x
    color_alike t m n = n

    tint_alike :
        (t : Token) {f : Answer A C T R} {g : Color → Answer A C T R} {h : Answer A C U R} {k : Color → Answer A C U R}
        → Alike Rel f h
        → ((x : Color) → t ≡ color x → Alike Rel (g x) (k x))
        → Alike Rel (on_option (color_of t) f g) (on_option (color_of t) h k)
    unfolding color_of on_color on_option
    tint_alike (color x) m n = n x refl
    tint_alike t m n = m

  -- ---- fuel: a token less is left behind each token

  behind : {c d : C} {o : P} {t : Token} {k : ℕ} → i.next c ≡ token t o d → Ample i c (suc k) → Ample i d k
  behind {t = t} e a f p h = let l = a f (t ∷ p) (e ▸ h) in omega (arith, l)

  later : {c d : C} {p : List Token} {k : ℕ} → Gives i c p d → Ample i c k → Ample i d k
  later {p = p} h a f q m = let l = a f (p ++ q) (join i h m) in let n = length-append p q in omega (arith, l, n)

  beyond : {c d : C} {p : List Token} {k : ℕ} → Gives i c p d → 1 ≤ length p → Ample i c (suc k) → Ample i d k
  beyond {p = p} h y a f q m = let l = a f (p ++ q) (join i h m) in let n = length-append p q in omega (arith, l, n, y)

  never : {A : Type 0} {c : C} → Ample i c zero → A
  never {c = c} a = absurd (let l = a c [] here in omega (arith, l))

  -- ---- tokens and entries

  module _ {A : Type 0} where
    token_alike :
        (c : C) {τ : T} {υ : U} {f : Token → P → C → Answer A C T R} {h : Token → P → C → Answer A C U R}
        → Rel τ υ
        → ((t : Token) (o : P) (d : C) → i.next c ≡ token t o d → Alike Rel (f t o d) (h t o d))
        → Alike Rel (read_mandatory_token i c τ f) (read_mandatory_token j c υ h)
    token_alike c s k = next_alike (i.next c) s (λ d. both_refused s) k

    expect_alike :
        (x : Sign) (c : C) {τ : T} {υ : U} {f : C → Answer A C T R} {h : C → Answer A C U R}
        → Rel τ υ
        → ((o : P) (d : C) (t : Token) → i.next c ≡ token t o d → Alike Rel (f d) (h d))
        → Alike Rel (expect_simple_token i x c τ f) (expect_simple_token j x c υ h)
    expect_alike x c s k = token_alike c s λ t o d e. test_alike (is_sign x t) (k o d t e) (both_refused s)

    name_alike :
        (c : C) {τ : T} {υ : U} {f : Name → C → Answer A C T R} {h : Name → C → Answer A C U R}
        → Rel τ υ
        → ((a : Name) (o : P) (d : C) (t : Token) → i.next c ≡ token t o d → Alike Rel (f a d) (h a d))
        → Alike Rel (read_identifier i c τ f) (read_identifier j c υ h)
    name_alike c s k = token_alike c s λ t o d e. identifier_alike t (λ a. k a o d t e) (both_refused s)

    keep_alike :
        (e : Entry)
        → Proper Genuine Small e
        → (c : C) {τ : T} {υ : U} {f : T → Answer A C T R} {h : U → Answer A C U R}
        → Rel τ υ
        → ((φ : T) (ψ : U) → Rel φ ψ → Alike Rel (f φ) (h ψ))
        → Alike Rel (keep i e c τ f) (keep j e c υ h)
    unfolding on_option
    keep_alike e w c {τ} {υ} {f} {h} s k = go (i.store.put e τ) (z.put e υ) (stands.puts τ υ e w s)
      where
        go :
            (a : Option T) (b : Option U)
            → BothPut Rel a b
            → Alike Rel
            (on_option a (refused (i.why (full e) (i.reached c)) τ) f)
            (on_option b (refused (i.why (full e) (i.reached c)) υ) h)
        go none none both_full = both_refused s
        go (some φ) (some ψ) (both_take r) = k φ ψ r
        go none (some ψ) x'' = elim x'' [ ]
        go (some φ) none x3 = elim x3 [ ]

  -- ---- tests

  kept_test : (x : Test) (c : C) {τ : T} {υ : U} → Rel τ υ → Alike Rel (keep_test i x c τ) (keep_test j x c υ)
  kept_test x c s = keep_alike (test_entry x) tt c s λ φ ψ s. both_read s

  operand_alike : (op : TextTest) (a : Name) (c : C) {τ : T} {υ : U} → Rel τ υ → Alike Rel (read_operand i op a c τ) (read_operand j op a c υ)
  operand_alike op a c s = token_alike c s λ t o d e.
      identifier_alike t (λ b. expect_alike right_bracket d s λ o f t e. kept_test _ f s)
      (number_alike t (λ x. expect_alike right_bracket d s λ o f t e.
      test_alike (i.countable x) (keep_alike (number_entry x) tt f s λ φ ψ s. kept_test _ f s) (both_refused s))
      (both_refused s))

  number_test_alike :
      (op : NumericTest) (a : Name) (c : C) {τ : T} {υ : U}
      → Rel τ υ
      → Alike Rel (read_number i op a c τ) (read_number j op a c υ)
  number_test_alike op a c s = token_alike c s λ t o d e.
      number_alike t (λ x. expect_alike right_bracket d s λ o f t e. keep_alike (number_entry x) tt f s λ φ ψ s. kept_test _ f s)
      (both_refused s)

  plain_alike : (a : Name) (t : Token) (o : P) (d : C) {τ : T} {υ : U} → Rel τ υ → Alike Rel (plain_test i a τ t o d) (plain_test j a υ t o d)
  unfolding plain_test
  plain_alike a t o d s =
      option_alike (to_binary_string_test_type t)
      (option_alike (to_binary_numeric_test_type t)
      (test_alike (is_sign right_bracket t) (kept_test _ d s)
      (test_alike (is_sign question_mark t) (token_alike d s λ t o e f.
      test_alike (is_sign right_bracket t) (kept_test _ e s)
      (test_alike (is_sign bang t) (expect_alike right_bracket e s λ o f t e. kept_test _ f s)
      (both_refused s)))
      (both_refused s)))
      λ op. number_test_alike op a d s)
      λ op. operand_alike op a d s

  bang_alike : (a : Name) (t : Token) (o : P) (d : C) {τ : T} {υ : U} → Rel τ υ → Alike Rel (bang_test i a τ t o d) (bang_test j a υ t o d)
  unfolding bang_test
  bang_alike a t o d s =
      test_alike (is_sign right_bracket t) (kept_test _ d s)
      (test_alike (is_sign question_mark t) (token_alike d s λ t o e f.
      test_alike (is_sign right_bracket t) (kept_test _ e s)
      (both_refused s))
      (both_refused s))

  key_alike :
      (a : Name) (c : C) {τ : T} {υ : U} (f : Name → T → Token → P → C → Answer Test C T R)
      (h : Name → U → Token → P → C → Answer Test C U R)
      → Rel τ υ
      → ((a : Name) (t : Token) (o : P) (d : C) → Alike Rel (f a τ t o d) (h a υ t o d))
      → Alike Rel (read_key i a c τ f) (read_key j a c υ h)
  key_alike a c f h s k = token_alike c s λ t o d e.
      test_alike (is_sign colon t) (name_alike d s λ b o e t q. token_alike e s λ t o w l. k (joined a b) t o w)
      (k a t o d)

  test_reads_alike : (c : C) {τ : T} {υ : U} → Rel τ υ → Alike Rel (read_test i c τ) (read_test j c υ)
  unfolding read_test
  test_reads_alike c s = token_alike c s λ t o d e.
      identifier_alike t (λ a. key_alike a d (plain_test i) (plain_test j) s λ a t o f. plain_alike a t o f s)
      (string_alike t (λ a. key_alike a d (plain_test i) (plain_test j) s λ a t o f. plain_alike a t o f s)
      (test_alike (is_sign bang t) (name_alike d s λ a o e t f. key_alike a e (bang_test i) (bang_test j) s λ a t o f. bang_alike a t o f s)
      (both_refused s)))

  -- ---- properties

  numbers_alike :
      (k l : ℕ) (x : Float) (c : C) {τ : T} {υ : U}
      → Ample i c k
      → Ample i c l
      → Rel τ υ
      → Alike Rel (read_number_list i k x c τ) (read_number_list j l x c υ)
  unfolding read_number_list
  numbers_alike zero l x c a b s = never a
  numbers_alike (suc k) zero x c a b s = never b
  numbers_alike (suc k) (suc l) x c a b s = keep_alike (number_entry x) tt c s λ φ ψ s. token_alike c s λ t o d e.
      test_alike (is_sign semi_colon t) (both_read s)
      (test_alike (is_sign comma t) (token_alike d s λ t o f h.
      number_alike t
      (λ y.
      after_alike
      (numbers_alike k l y f (later (h ▸ here) (behind e a)) (later (h ▸ here) (behind e b)) s) λ ys
      w τ υ q s. both_read s)
      (both_refused s))
      (both_refused s))

  tokens_alike :
      (k l : ℕ) (c : C) {τ : T} {υ : U}
      → Ample i c k
      → Ample i c l
      → Rel τ υ
      → Alike Rel (tokens_to_semi_colon i k c τ) (tokens_to_semi_colon j l c υ)
  unfolding tokens_to_semi_colon
  tokens_alike zero l c a b s = never a
  tokens_alike (suc k) zero c a b s = never b
  tokens_alike (suc k) (suc l) c a b s = token_alike c s λ t o d e.
      test_alike (is_sign semi_colon t) (both_read s)
      (after_alike (tokens_alike k l d (behind e a) (behind e b) s) λ ts f τ υ q s. both_read s)

  eval_alike :
      (k l : ℕ) (o : P) (c : C) {τ : T} {υ : U}
      → Ample i c k
      → Ample i c l
      → Rel τ υ
      → Alike Rel (read_simple_eval i k o c τ) (read_simple_eval j l o c υ)
  unfolding read_simple_eval
  eval_alike k l o c a b s =
      after_alike (tokens_alike k l c a b s) λ ts d τ υ q s.
      option_alike (width_increment ts) (both_refused s) λ x. keep_alike (number_entry x) tt d s λ φ ψ s. both_read s

  value_alike :
      (k l : ℕ) (Γ : Colors) (c : C) {τ : T} {υ : U}
      → Ample i c (suc k)
      → Ample i c (suc l)
      → Rel τ υ
      → Alike Rel (read_property_value i k Γ c τ) (read_property_value j l Γ c υ)
  unfolding read_property_value
  value_alike k l Γ c a b s = token_alike c s λ t o d e.
      identifier_alike t (λ n.
      test_alike (same n.bytes (ascii "eval")) (eval_alike k l o d (behind e a) (behind e b) s)
      (token_alike d s λ t o f h.
      test_alike (is_sign colon t) (name_alike f s λ m o w t h. expect_alike semi_colon w s λ o x t h. both_read s)
      (test_alike (is_sign semi_colon t) (both_read s)
      (both_refused s))))
      (string_alike t (λ n. expect_alike semi_colon d s λ o f t h. both_read s)
      (color_alike t (λ x. expect_alike semi_colon d s λ o f t h. both_read s)
      (color_ref_alike t (λ n q. option_alike (color_named n Γ) (both_refused s) λ x. expect_alike semi_colon d s λ o f t h. both_read s)
      (number_alike t (λ x. after_alike (numbers_alike k l x d (behind e a) (behind e b) s) λ xs f τ υ q s. both_read s)
      (both_refused s)))))

  properties_alike :
      (k l : ℕ) (Γ : Colors) (c : C) {τ : T} {υ : U}
      → Ample i c k
      → Ample i c l
      → Rel τ υ
      → Alike Rel (read_properties i k Γ c τ) (read_properties j l Γ c υ)
  unfolding read_properties
  properties_alike zero l Γ c a b s = never a
  properties_alike (suc k) zero Γ c a b s = never b
  properties_alike (suc k) (suc l) Γ c a b s = token_alike c s λ t o d e.
      identifier_alike t (λ n. expect_alike colon d s λ o f t h.
      after_alike (value_alike k l Γ f (later (e ▸ h ▸ here) a) (later (e ▸ h ▸ here) b) s) λ x w τ υ q s.
      keep_alike (property_entry (property n x)) tt w s λ φ ψ s.
      let m = (value_reads i k Γ f _ x w τ q).1.0 in
      after_alike
      (properties_alike k l Γ w (later m (later (h ▸ here) (behind e a))) (later m (later (h ▸ here) (behind e b))) s)
      λ ps y τ υ q s. both_read s)
      (test_alike (is_sign right_brace t) (both_read s)
      (both_refused s))

  -- ---- selectors

  parts_alike :
      (k l : ℕ) (σ : Selector) (c : C) {τ : T} {υ : U}
      → Ample i c k
      → Ample i c l
      → Rel τ υ
      → Alike Rel (read_parts i k σ c τ) (read_parts j l σ c υ)
  unfolding read_parts
  parts_alike zero l σ c a b s = never a
  parts_alike (suc k) zero σ c a b s = never b
  parts_alike (suc k) (suc l) σ c a b s = token_alike c s λ t o d e.
      test_alike (is_sign left_brace t) (keep_alike (selector_entry σ) tt d s λ φ ψ s. both_read s)
      (test_alike (is_sign comma t) (keep_alike (selector_entry σ) tt d s λ φ ψ s. both_read s)
      (zoom_alike t (λ x y. parts_alike k l (with_zoom σ x y) d (behind e a) (behind e b) s)
      (test_alike (is_sign left_bracket t) (after_alike (test_reads_alike d s) λ x f τ υ q s.
      let m = (test_reads i d _ x f τ q).1.0 in
      parts_alike k l (with_test σ x) f (later m (behind e a)) (later m (behind e b)) s)
      (test_alike (is_sign colon t)
      (name_alike d s λ n o f t h. parts_alike k l σ f (later (h ▸ here) (behind e a)) (later (h ▸ here) (behind e b)) s)
      (test_alike (is_sign double_colon t)
      (name_alike d s λ n o f t h. parts_alike k l (with_layer σ n) f (later (h ▸ here) (behind e a)) (later (h ▸ here) (behind e b)) s)
      (both_refused s))))))

  selector_alike :
      (k l : ℕ) (t : Token) (o : P) (d : C) {τ : T} {υ : U}
      → Ample i d k
      → Ample i d l
      → Rel τ υ
      → Alike Rel (read_selector i k τ t o d) (read_selector j l υ t o d)
  unfolding read_selector
  selector_alike k l t o d a b s =
      identifier_alike t (λ n. option_alike (id_to_object_type n.bytes) (both_refused s) λ y. parts_alike k l (bare y) d a b s)
      (both_refused s)

  -- ---- rules

  skip_alike : (k l : ℕ) (c : C) {τ : T} {υ : U} → Ample i c k → Ample i c l → Rel τ υ → Alike Rel (skip_colors i k c τ) (skip_colors j l c υ)
  unfolding skip_colors
  skip_alike zero l c a b s = never a
  skip_alike (suc k) zero c a b s = never b
  skip_alike (suc k) (suc l) c a b s =
      token_alike c s λ t o d e. test_alike (is_sign right_brace t) (both_read s)
      (skip_alike k l d (behind e a) (behind e b) s)

  kept_rule :
      (ss : List Selector) (ps : List Property) (c : C) {τ : T} {υ : U}
      → Rel τ υ
      → Alike Rel (keep_rule i ss ps c τ) (keep_rule j ss ps c υ)
  kept_rule ss ps c s = keep_alike rule_entry tt c s λ φ ψ s. both_read s

  rule_alike :
      (k l : ℕ) (Γ : Colors) (t : Token) (o : P) (c d : C) {τ : T} {υ : U}
      → i.next c ≡ token t o d
      → Ample i c k
      → Ample i c l
      → Rel τ υ
      → Alike Rel (read_rule i k Γ τ t o d) (read_rule j l Γ υ t o d)
  unfolding read_rule
  rule_alike zero l Γ t o c d e a b s = never a
  rule_alike (suc k) zero Γ t o c d e a b s = never b
  rule_alike (suc k) (suc l) Γ t o c d e a b s =
      test_alike (is_sign left_brace t)
      (after_alike (properties_alike k l Γ d (behind e a) (behind e b) s) λ ps f τ υ q s. kept_rule [] ps f s)
      (test_alike (is_colors t) (after_alike (skip_alike k l d (behind e a) (behind e b) s) λ x f τ υ q s. kept_rule [] [] f s)
      (after_alike (selector_alike k l t o d (behind e a) (behind e b) s) λ x f τ υ q s.
      let r = selector_reads i k _ t o c d e x f τ q in
      let m = join i r.1.0.1.1.0 (r.1.0.1.1.1 ▸ here) in
      test_alike x.1
      (token_alike f s λ t o w h. after_alike
      (rule_alike k l Γ t o f w h (apart_long r.0 _ m a) (apart_long r.0 _ m b) s) λ r y τ υ q s.
      both_read s)
      (after_alike
      (properties_alike k l Γ f (apart_long r.0 _ m a) (apart_long r.0 _ m b) s) λ ps w τ υ q s.
      kept_rule (x.0 ∷ []) ps w s)))
    where
      apart_long : {c f : C} (p : List Token) (x : Token) {k : ℕ} → Gives i c (p ++ (x ∷ [])) f → Ample i c (suc k) → Ample i f k
      apart_long p x m a = beyond m (let n = length-append p (x ∷ []) in omega (arith, n)) a

  -- ---- sheets

  color_def_alike : (n : Name) → Genuine n → (c : C) {τ : T} {υ : U} → Rel τ υ → Alike Rel (read_color_def i n c τ) (read_color_def j n c υ)
  color_def_alike n y c s = expect_alike colon c s λ o d t e. token_alike d s λ x o f q. expect_alike semi_colon f s λ o w t e.
      tint_alike x (both_read s) λ v p. keep_alike (color_entry n v) (y, small q p) w s λ φ ψ s. both_read s
    where
      small : {d f : C} {o : P} {x : Token} {v : Color} → i.next d ≡ token x o f → x ≡ color v → Small v
      small {d} {f} {o} {x} {v} q p = genuine.1 d f o v (found i q p)

  before_alike :
      (js : Reading) {a : Answer Reading C T R} {b : Answer Reading C U R}
      → Alike Rel a b
      → Alike Rel (before i js a) (before j js b)
  before_alike js h = after_alike h λ ks c τ υ q s. both_read s

  parse_alike :
      (imp : Name → C → T → Answer Reading C T R) (imq : Name → C → U → Answer Reading C U R)
      → ((n : Name) (c : C) (τ : T) (υ : U) → Rel τ υ → Alike Rel (imp n c τ) (imq n c υ))
      → (k l : ℕ) (c : C) {τ : T} {υ : U}
      → Ample i c k
      → Ample i c l
      → Rel τ υ
      → Alike Rel (parse i imp k c τ) (parse j imq l c υ)
  unfolding parse
  parse_alike imp imq hi zero l c a b s = never a
  parse_alike imp imq hi (suc k) zero c a b s = never b
  parse_alike imp imq hi (suc k) (suc l) c {τ} {υ} a b s = next_alike (i.next c) s (λ d. both_read s) λ t o d e.
      import_alike t (λ n. expect_alike semi_colon d s λ o f t h. after_alike (hi n f _ _ s) λ js y τ υ q s.
      before_alike js (parse_alike imp imq hi k l f (later (h ▸ here) (behind e a)) (later (h ▸ here) (behind e b)) s))
      (color_ref_alike t (λ n q. after_alike (color_def_alike n (genuine.0 c d o n (found i e q)) d s) λ js f τ υ q s.
      let m = (color_reads i n d _ js f τ q).1.1.0 in
      before_alike js (parse_alike imp imq hi k l f (later m (behind e a)) (later m (behind e b)) s))
      (after_alike (ruled t o d e) λ r f τ υ q s.
      let m = rule_reads i (suc k) _ _ t o c d e r f τ q in
      before_alike (rule_item r ∷ [])
      (parse_alike imp imq hi k l f (beyond m.1.0 (rule_long i m.1.1.1) a)
      (beyond m.1.0 (rule_long i m.1.1.1) b) s)))
    where
      ruled :
          (t : Token) (o : P) (d : C)
          → i.next c ≡ token t o d
          → Alike Rel (read_rule i (suc k) (i.store.colors τ) τ t o d) (read_rule j (suc l) (z.colors υ) υ t o d)
      ruled t o d e =
          subst
          (λ Γ. Alike Rel (read_rule i (suc k) (i.store.colors τ) τ t o d) (read_rule j (suc l) Γ υ t o d))
          (stands.shows τ υ s)
          (rule_alike (suc k) (suc l) (i.store.colors τ) t o c d e a b s)

  module _ (fueled : Fueled i) (fueled' : (c : C) → Ample i c (g c)) where
    import_file_alike : (k : ℕ) (n : Name) (c : C) (τ : T) (υ : U) → Rel τ υ → Alike Rel (import_file i k n c τ) (import_file j k n c υ)
    unfolding import_file
    import_file_alike zero n c τ υ s = option_alike (i.text n.bytes) (both_refused s) λ d. both_refused s
    import_file_alike (suc k) n c τ υ s =
        option_alike (i.text n.bytes) (both_refused s) λ d. parse_alike (import_file i k) (import_file j k)
        (import_file_alike k) (i.fuel d) (g d) d (fueled d) (fueled' d) s

    load_alike : (c : C) (τ : T) (υ : U) → Rel τ υ → Alike Rel (load i c τ) (load j c υ)
    unfolding load
    load_alike c τ υ s = parse_alike (import_file i 8) (import_file j 8) (import_file_alike 8) (i.fuel c) (g c) c (fueled c) (fueled' c) s

pub loads_alike :
    {C T U P R : Type 0} (i : Input C T P R) (g : C → ℕ) (z : Store U) (Genuine : Name → Type 0)
    (Small : Color → Type 0) (Rel : T → U → Type 0)
    → TokensGenuine Genuine Small i
    → LoadsAlike Genuine Small i g z Rel
loads_alike i g z Genuine Small Rel n stands f f' c τ υ s =
    load_alike i g z Genuine Small Rel n stands f (λ c d p h. f' c d p (gives_over i g z h)) c τ υ s
