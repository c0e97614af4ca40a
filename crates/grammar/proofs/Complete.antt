-- What the grammar has, and the tables have room for, is read, with the same reading and these entries.
use Prim.Native.Nat.{ℕ, zero, suc, ◌≤◌, ◌<◌}
use Rattle.std.proofs.Common.{arith, sym, ◌∙◌, subst, append_assoc}
use Rattle.std.specs.Prelude.{length, ◌≡◌, Bool, List, [], ◌∷◌, ◌++◌, Float}
use Rattle.std.proofs.Math.ListN.{length-append}
use Rattle.std.proofs.Math.Path.{refl, ap}
use Rattle.std.proofs.Math.Bool.{true, false}
use Rattle.std.proofs.Math.Option.{Option, none, some}
use Rattle.base.specs.Bytes.{Bytes, ascii, same}
use Rattle.base.specs.Choice.{by-test, different}
use Rattle.base.proofs.Compare.{same_true, same_refl}
use Rattle.sheet.specs.Sheet.{ObjectType, TextTest, NumericTest}
use Rattle.grammar.specs.Token.{Name, Sign, Token, identifier, number, sign, left_brace, right_bracket, bang, colon, semi_colon, comma}
use Rattle.grammar.specs.View.{is_sign, on_import, on_identifier, on_string, on_color_ref, on_number, on_zoom_range, on_color, color_of}
use Rattle.grammar.specs.Reading.{Operand, Test, text, numeric, Value, Selector, Property, Rule, rule_item, Reading, Colors, define, colors_after, bare, with_zoom, with_test, with_layer, id_to_object_type}
use Rattle.grammar.specs.Input.{Entry, rule_entry, selector_entry, color_entry, token, end, Input, Answer, read, on_next, on_option, after}
use Rattle.grammar.specs.Reader.{to_binary_string_test_type, to_binary_numeric_test_type, width_increment, is_colors, plain_test, bang_test, read_test, read_number_list, tokens_to_semi_colon, read_simple_eval, read_property_value, read_properties, read_parts, read_selector, skip_colors, read_rule, before, parse, import_file, load}
use Rattle.grammar.specs.Grammar.{IsName, single, double, IsKey, named, quoted_key, quoted_double, IsEquality, eq, ne, IsComparison, lt, le, gt, ge, IsOperand, plain_operand, digits_operand, IsTest, there, true_tag, false_tag, missing, untrue, compared, measured, IsNumbers, last_number, more_numbers, IsDelta, zero_delta, some_delta, IsValue, one_word, two_words, a_string, a_color, reference, list, eval, IsProperties, closed, assign, HasParts, nothing, zooms, tested, class, layer, typed, IsSkipped, stop, over, IsRule, body, auxiliary, last_selector, selector_then, finish, a_rule, defined, dropped, imported}
use Rattle.grammar.specs.Entries.{test_entries, tests_entries, numbers_entries, value_entries, properties_entries, selectors_entries, rule_entries, entries_of, tint}
use Rattle.grammar.specs.Stream.{Gives, here, ◌▸◌, WholeTo, Sheet, Fueled}
use Rattle.grammar.proofs.Laws.{Puts, kept, ◌◂◌, uncons, split, unput, apart}
use Rattle.grammar.proofs.Sound.{added, added_is, ender, entries_append, reading_colors, rule_colors}

same_is : (a b : Bytes) → a ≡ b → same a b ≡ true
same_is a b e = rw e (same_refl b)

delta_done : {p : List Token} {x : Float} → IsDelta p x → width_increment p ≡ some x
unfolding width_increment is_sign on_identifier on_string on_number
delta_done (zero_delta a b ea eb) = rw (same_is a.bytes (ascii "prop") ea, same_is b.bytes (ascii "width") eb)
delta_done (some_delta a b x ea eb) = rw (same_is a.bytes (ascii "prop") ea, same_is b.bytes (ascii "width") eb)

-- no semicolon among them
abbrev Clear : List Token → Type 0
Clear [] = Unit
Clear (t ∷ p) = (is_sign semi_colon t ≡ false) × Clear p

delta_clear : {p : List Token} {x : Float} → IsDelta p x → Clear p
unfolding is_sign
delta_clear (zero_delta a b ea eb) = (refl, (refl, (refl, (refl, (refl, (refl, tt))))))
delta_clear (some_delta a b x ea eb) = (refl, (refl, (refl, (refl, (refl, (refl, (refl, tt)))))))

-- colors is no object type
not_colors : (a : Bytes) (y : ObjectType) → id_to_object_type a ≡ some y → same a (ascii "colors") ≡ false
unfolding id_to_object_type same
not_colors a y e =
    by-test (same a (ascii "colors"))
    (λ z. let q : ◌≡◌ {A = Option ObjectType} none (some y) = rw (same_true a (ascii "colors") z) at e in different cc)
    (λ z. z)

module _ {C T P R : Type 0} (i : Input C T P R) where
  -- the only token, the only entry
  only : {c d : C} {t : Token} → Gives i c (t ∷ []) d → (o : P) × (i.next c ≡ token t o d)
  only (e ▸ here) = (_, e)

  sole : {τ υ : T} {e : Entry} → Puts i τ (e ∷ []) υ → i.store.put e τ ≡ some υ
  sole (e ◂ kept) = e

  -- ---- tests

  key_done :
      {p : List Token} {a : Name} {c d e : C} {o : P} {g : Sign} (τ : T)
      → IsKey p a
      → Gives i c p d
      → i.next d ≡ token (sign g) o e
      → is_sign colon (sign g) ≡ false
      → read_test i c τ ≡ plain_test i a τ (sign g) o e
  unfolding read_test on_next on_identifier on_string is_sign
  key_done τ (named (single a)) (e ▸ here) f n = rw (e, f, n)
  key_done τ (named (double a b)) (e ▸ g ▸ h ▸ here) f n = rw (e, g, h, f)
  key_done τ (quoted_key a) (e ▸ here) f n = rw (e, f, n)
  key_done τ (quoted_double a b) (e ▸ g ▸ h ▸ here) f n = rw (e, g, h, f)

  bang_done :
      {p : List Token} {a : Name} {c d e : C} {o : P} {g : Sign} (τ : T)
      → IsName p a
      → Gives i c (sign bang ∷ p) d
      → i.next d ≡ token (sign g) o e
      → is_sign colon (sign g) ≡ false
      → read_test i c τ ≡ bang_test i a τ (sign g) o e
  unfolding read_test on_next on_identifier on_string is_sign
  bang_done τ (single a) (z ▸ e ▸ here) f n = rw (z, e, f, n)
  bang_done τ (double a b) (z ▸ e ▸ g ▸ h ▸ here) f n = rw (z, e, g, h, f)

  equality_done :
      {g : Sign} {op : TextTest}
      → IsEquality g op
      → (to_binary_string_test_type (sign g) ≡ some op) × (is_sign colon (sign g) ≡ false)
  unfolding to_binary_string_test_type is_sign
  equality_done eq = (refl, refl)
  equality_done ne = (refl, refl)

  comparison_done :
      {g : Sign} {op : NumericTest}
      → IsComparison g op
      → (to_binary_string_test_type (sign g) ≡ none) × ((to_binary_numeric_test_type (sign g) ≡ some op) × (is_sign colon (sign g) ≡ false))
  unfolding to_binary_string_test_type to_binary_numeric_test_type is_sign
  comparison_done lt = (refl, (refl, refl))
  comparison_done le = (refl, (refl, refl))
  comparison_done gt = (refl, (refl, refl))
  comparison_done ge = (refl, (refl, refl))

  compared_done :
      {p : List Token} {a : Name} {g : Sign} {op : TextTest} {t : Token} {x : Operand} {c d : C} {τ υ : T}
      → IsKey p a
      → IsEquality g op
      → IsOperand i.countable t x
      → Gives i c (p ++ (sign g ∷ t ∷ sign right_bracket ∷ [])) d
      → Puts i τ (test_entries (text op a x)) υ
      → read_test i c τ ≡ read (text op a x) d υ
  unfolding plain_test on_next on_option on_identifier on_number is_sign
  compared_done {p = p} {τ = τ} y z (plain_operand b) g m =
      let r = split i p g in
      let c = uncons i r.1.1 in
      let n = uncons i c.1.1.1 in
      let e = equality_done z in
      rw (key_done τ y r.1.0 c.1.1.0 e.1, e.0, n.1.1.0, (only n.1.1.1).1, sole m)
  compared_done {p = p} {τ = τ} y z (digits_operand x l) g m =
      let r = split i p g in
      let c = uncons i r.1.1 in
      let n = uncons i c.1.1.1 in
      let e = equality_done z in
      rw (
        key_done τ y r.1.0 c.1.1.0 e.1,
        e.0,
        n.1.1.0,
        (only n.1.1.1).1,
        l,
        (unput i m).1.0,
        sole (unput i m).1.1,
      )

  measured_done :
      {p : List Token} {a : Name} {g : Sign} {op : NumericTest} {c d : C} {τ υ : T}
      → IsKey p a
      → IsComparison g op
      → (x : Float)
      → Gives i c (p ++ (sign g ∷ number x ∷ sign right_bracket ∷ [])) d
      → Puts i τ (test_entries (numeric op a x)) υ
      → read_test i c τ ≡ read (numeric op a x) d υ
  unfolding plain_test on_next on_option on_number is_sign
  measured_done {p = p} {τ = τ} y z x g m =
      let r = split i p g in
      let c = uncons i r.1.1 in
      let n = uncons i c.1.1.1 in
      let e = comparison_done z in
      rw (
        key_done τ y r.1.0 c.1.1.0 e.1.1,
        e.0,
        e.1.0,
        n.1.1.0,
        (only n.1.1.1).1,
        (unput i m).1.0,
        sole (unput i m).1.1,
      )

  test_done :
      {p : List Token} {x : Test} {c d : C} {τ υ : T}
      → IsTest i.countable p x
      → Gives i c p d
      → Puts i τ (test_entries x) υ
      → read_test i c τ ≡ read x d υ
  unfolding plain_test bang_test to_binary_string_test_type to_binary_numeric_test_type on_next on_option on_identifier on_number is_sign
  test_done {τ} (there {p = p} y) g m =
      let r = split i p g in
      rw (key_done τ y r.1.0 (only r.1.1).1 refl, sole m)
  test_done {τ} (true_tag {p = p} y) g m =
      let r = split i p g in
      let c = uncons i r.1.1 in
      rw (key_done τ y r.1.0 c.1.1.0 refl, (only c.1.1.1).1, sole m)
  test_done {τ} (false_tag {p = p} y) g m =
      let r = split i p g in
      let c = uncons i r.1.1 in
      let b = uncons i c.1.1.1 in
      rw (key_done τ y r.1.0 c.1.1.0 refl, b.1.1.0, (only b.1.1.1).1, sole m)
  test_done {τ} (missing {p = p} y) g m =
      let r = split i (sign bang ∷ p) g in
      rw (bang_done τ y r.1.0 (only r.1.1).1 refl, sole m)
  test_done {τ} (untrue {p = p} y) g m =
      let r = split i (sign bang ∷ p) g in
      let c = uncons i r.1.1 in
      rw (bang_done τ y r.1.0 c.1.1.0 refl, (only c.1.1.1).1, sole m)
  test_done (compared y z o) g m = compared_done y z o g m
  test_done (measured y z x) g m = measured_done y z x g m

  -- ---- properties

  numbers_done :
      {p : List Token} {xs : List Float} {c d : C} {τ υ : T} (k : ℕ)
      → IsNumbers p xs
      → length p ≤ suc k
      → Gives i c p d
      → Puts i τ (numbers_entries xs) υ
      → (x : Float) × ((o : P) × ((v : C) × ((i.next c ≡ token (number x) o v) × (read_number_list i k x v τ ≡ read xs d υ))))
  unfolding read_number_list numbers_entries on_next on_option after on_number is_sign
  numbers_done zero (last_number x) l g m = absurd (omega arith)
  numbers_done zero (more_numbers x n) l g m = absurd (omega arith)
  numbers_done (suc k) (last_number x) l (e ▸ f ▸ here) (m ◂ kept) = (x, (_, (_, (e, rw (m, f)))))
  numbers_done (suc k) (more_numbers {p = p} x n) l (e ▸ f ▸ g) (m ◂ ms) =
      let h = numbers_done {p = p} k n (omega arith) g ms in
      (x, (_, (_, (e, rw (m, f, h.1.1.1.0, h.1.1.1.1)))))

  tokens_done :
      {p : List Token} {c d e : C} {o : P} (τ : T) (k : ℕ)
      → Clear p
      → length p < k
      → Gives i c p d
      → i.next d ≡ token (sign semi_colon) o e
      → tokens_to_semi_colon i k c τ ≡ read p e τ
  unfolding tokens_to_semi_colon on_next after is_sign
  tokens_done τ zero c l g e = absurd (omega arith)
  tokens_done τ (suc k) c l here e = rw e
  tokens_done τ (suc k) c l (◌▸◌ {p = p} f g) e = rw (f, c.0, tokens_done {p = p} τ k c.1 (omega arith) g e)

  value_done :
      {Γ : Colors} {p : List Token} {x : Value} {c d : C} {τ υ : T} (k : ℕ)
      → IsValue Γ p x
      → length p ≤ suc k
      → Gives i c p d
      → Puts i τ (value_entries x) υ
      → read_property_value i k Γ c τ ≡ read x d υ
  unfolding read_property_value read_simple_eval on_next after on_option on_identifier on_string on_color on_color_ref on_number is_sign
  value_done k (one_word a n) l (e ▸ f ▸ here) kept = rw (e, n, f)
  value_done k (two_words a b n) l (e ▸ f ▸ g ▸ h ▸ here) kept = rw (e, n, f, g, h)
  value_done k (a_string a) l (e ▸ f ▸ here) kept = rw (e, f)
  value_done k (a_color c) l (e ▸ f ▸ here) kept = rw (e, f)
  value_done k (reference n c r) l (e ▸ f ▸ here) kept = rw (e, r, f)
  value_done k (list n) l g m =
      let h = numbers_done k n l g m in
      rw (h.1.1.1.0, h.1.1.1.1)
  value_done {τ} k (eval {p = p} a z d) l (e ▸ g) (m ◂ kept) =
      let r = split i p g in
      rw (
        e,
        same_is a.bytes (ascii "eval") z,
        tokens_done τ k (delta_clear d) (omega (arith, l, length-append p (sign semi_colon ∷ []))) r.1.0
            (only r.1.1).1,
        delta_done d,
        m,
      )

  properties_done :
      {Γ : Colors} {p : List Token} {ps : List Property} {c d : C} {τ υ : T} (k : ℕ)
      → IsProperties Γ p ps
      → length p ≤ k
      → Gives i c p d
      → Puts i τ (properties_entries ps) υ
      → read_properties i k Γ c τ ≡ read ps d υ
  unfolding read_properties properties_entries on_next on_option after on_identifier is_sign
  properties_done zero closed l g m = absurd (omega arith)
  properties_done zero (assign a v d) l g m = absurd (omega arith)
  properties_done (suc k) closed l (e ▸ here) kept = rw e
  properties_done (suc k) (assign {p = p} {q = q} {x = x} a v d) l (e ▸ f ▸ g) m =
      let r = split i p g in
      let n = apart i (value_entries x) m in
      let o = unput i n.1.1 in
      rw (
        e,
        f,
        value_done k v (omega (arith, l, length-append p q)) r.1.0 n.1.0,
        o.1.0,
        properties_done {p = q} k d (omega (arith, l, length-append p q)) r.1.1 o.1.1,
      )

  -- ---- selectors

  parts_done :
      {σ φ : Selector} {p : List Token} {c d e : C} {o : P} {τ υ : T} (k : ℕ) (b : Bool) (h : HasParts i.countable σ p φ)
      → length p < k
      → Gives i c p d
      → i.next d ≡ token (sign (ender b)) o e
      → Puts i τ (tests_entries (added h) ++ (selector_entry φ ∷ [])) υ
      → read_parts i k σ c τ ≡ read (φ, b) e υ
  unfolding read_parts added tests_entries on_next on_option after on_identifier on_zoom_range is_sign
  parts_done zero b h l g e m = absurd (omega arith)
  parts_done (suc k) true nothing l here e m = rw (e, sole m)
  parts_done (suc k) false nothing l here e m = rw (e, sole m)
  parts_done {σ = σ} (suc k) b (zooms x y h) l (f ▸ g) e m = rw (f, parts_done {σ = with_zoom σ x y} k b h (omega arith) g e m)
  parts_done {σ = σ} {φ = φ} {τ = τ} {υ = υ} (suc k) b (tested {p = p} {q = q} {x = x} t h) l (f ▸ g) e m =
      let r = split i p g in
      let n =
      apart i (test_entries x)
      (subst
      (λ es. Puts i τ es υ)
      (append_assoc (test_entries x) (tests_entries (added h)) (selector_entry φ ∷ [])) m) in
      rw (f, test_done t r.1.0 n.1.0, parts_done {σ = with_test σ x} k b h (omega (arith, l, length-append p q)) r.1.1 e n.1.1)
  parts_done {σ = σ} (suc k) b (class a h) l (f ▸ z ▸ g) e m = rw (f, z, parts_done {σ = σ} k b h (omega arith) g e m)
  parts_done {σ = σ} (suc k) b (layer a h) l (f ▸ z ▸ g) e m = rw (f, z, parts_done {σ = with_layer σ a} k b h (omega arith) g e m)

  -- a selector's entries apart from those behind them
  selector_apart :
      (y : ObjectType) (σ : Selector) {p : List Token} (es : List Entry) {τ φ : T} (h : HasParts i.countable (bare y) p σ)
      → Puts i τ (tests_entries σ.tests ++ (selector_entry σ ∷ es)) φ
      → (υ : T) × (Puts i τ (tests_entries (added h) ++ (selector_entry σ ∷ [])) υ × Puts i υ es φ)
  selector_apart y σ es {τ} {φ} h m =
      let q : σ.tests ≡ added h = added_is h in
      apart i (tests_entries (added h) ++ (selector_entry σ ∷ []))
      (subst
      (λ l. Puts i τ l φ)
      (sym (append_assoc (tests_entries (added h)) (selector_entry σ ∷ []) es))
      (subst (λ ts. Puts i τ (tests_entries ts ++ (selector_entry σ ∷ es)) φ) q m))

  -- ---- rules

  skip_done : {p : List Token} {c d : C} (τ : T) (k : ℕ) → IsSkipped p → length p ≤ k → Gives i c p d → skip_colors i k c τ ≡ read tt d τ
  unfolding skip_colors on_next is_sign
  skip_done τ zero stop l g = absurd (omega arith)
  skip_done τ zero (over t n h) l g = absurd (omega arith)
  skip_done τ (suc k) stop l (e ▸ here) = rw e
  skip_done τ (suc k) (over {p = p} t n h) l (e ▸ g) = rw (e, n, skip_done {p = p} τ k h (omega arith) g)

  -- what a rule begins with
  pub data Start : Token → Type 0 where
    brace : Start (sign left_brace)
    type : (a : Name) → Start (identifier a)

  abbrev RuleDone : ℕ → Colors → Rule → C → T → C → T → Type 0
  RuleDone k Γ r c τ d υ =
      (t : Token) ×
      ((o : P) × ((v : C) × (Start t × ((i.next c ≡ token t o v) × (read_rule i k Γ τ t o v ≡ read r d υ)))))

  rule_done :
      {Γ : Colors} {p : List Token} {r : Rule} {c d : C} {τ υ : T} (k : ℕ)
      → IsRule i.countable Γ p r
      → length p ≤ k
      → Gives i c p d
      → Puts i τ (rule_entries r) υ
      → RuleDone k Γ r c τ d υ
  unfolding read_rule read_selector is_colors rule_entries selectors_entries properties_entries on_next after on_option on_identifier is_sign
  rule_done zero (body d) l g m = absurd (omega arith)
  rule_done zero (auxiliary a z d) l g m = absurd (omega arith)
  rule_done zero (last_selector (typed a y n h) d) l g m = absurd (omega arith)
  rule_done zero (selector_then (typed a y n h) d) l g m = absurd (omega arith)
  rule_done (suc k) (body {ps = ps} d) l (e ▸ g) m =
      let o = apart i (properties_entries ps) m in
      (_, (_, (_, (brace, (e, rw (properties_done k d (omega arith) g o.1.0, sole o.1.1))))))
  rule_done {τ = τ} (suc k) (auxiliary a z d) l (e ▸ g) m =
      (_, (_, (_, (type _, (e, rw (same_is a.bytes (ascii "colors") z, skip_done τ k d (omega arith) g, sole m))))))
  rule_done (suc k) (last_selector {q = q} {σ = σ} {ps = ps} (typed {p = p} a y n h) d) l (e ▸ g) m =
      let r = split i p g in
      let c = uncons i r.1.1 in
      let o = selector_apart y σ (properties_entries ps ++ (rule_entry ∷ [])) h m in
      let w = apart i (properties_entries ps) o.1.1 in (
        _,
        (
          _,
          (
            _,
            (
              type _,
              (
                e,
                rw (
                  not_colors a.bytes y n,
                  n,
                  parts_done k false h (omega (arith, l, length-append p (sign left_brace ∷ q))) r.1.0 c.1.1.0
                      o.1.0,
                  properties_done k d (omega (arith, l, length-append p (sign left_brace ∷ q))) c.1.1.1 w.1.0,
                  sole w.1.1,
                ),
              ),
            ),
          ),
        ),
      )
  rule_done (suc k) (selector_then {q = q} {σ = σ} {ss = ss} {ps = ps} (typed {p = p} a y n h) d) l (e ▸ g) m =
      let r = split i p g in
      let c = uncons i r.1.1 in
      let o = selector_apart y σ (selectors_entries ss (properties_entries ps ++ (rule_entry ∷ []))) h m in
      let f = rule_done {p = q} k d (omega (arith, l, length-append p (sign comma ∷ q))) c.1.1.1 o.1.1 in (
        _,
        (
          _,
          (
            _,
            (
              type _,
              (
                e,
                rw (
                  not_colors a.bytes y n,
                  n,
                  parts_done k true h (omega (arith, l, length-append p (sign comma ∷ q))) r.1.0 c.1.1.0 o.1.0,
                  f.1.1.1.1.0,
                  f.1.1.1.1.1,
                ),
              ),
            ),
          ),
        ),
      )

  -- ---- sheets

  rule_first :
      {t : Token} {o : P} {c v : C} (imp : Name → C → T → Answer Reading C T R) (k : ℕ) (τ : T)
      → Start t
      → i.next c ≡ token t o v
      → parse i imp (suc k) c τ ≡ after (read_rule i (suc k) (i.store.colors τ) τ t o v)
      (λ r e τ. before i (rule_item r ∷ []) (parse i imp k e τ))
  unfolding parse on_next on_import on_color_ref
  rule_first imp k τ brace e = rw e
  rule_first imp k τ (type a) e = rw e

  pub rule_long : {Γ : Colors} {p : List Token} {r : Rule} → IsRule i.countable Γ p r → 1 ≤ length p
  rule_long (body d) = omega arith
  rule_long (auxiliary a z d) = omega arith
  rule_long (last_selector (typed a y n h) d) = omega arith
  rule_long (selector_then (typed a y n h) d) = omega arith

  entries_apart :
      (js ks : Reading) {τ φ : T}
      → Puts i τ (entries_of (js ++ ks)) φ
      → (υ : T) × (Puts i τ (entries_of js) υ × Puts i υ (entries_of ks) φ)
  entries_apart js ks {τ} {φ} m = apart i (entries_of js) (subst (λ es. Puts i τ es φ) (entries_append js ks) m)

  module _
      (tinted : (e : Entry) (τ υ : T) → i.store.put e τ ≡ some υ → i.store.colors υ ≡ tint (i.store.colors τ) e)
      (fueled : Fueled i) where
    enough : (c d : C) (p : List Token) → Gives i c p d → length p ≤ i.fuel c
    enough c d p g = let l = fueled c d p g in omega (arith, l)

    sheet_done :
        {d : ℕ} {Γ : Colors} {p : List Token} {js : Reading} {c e f : C} {τ υ : T}
        → Sheet i d Γ p js
        → (k : ℕ)
        → i.store.colors τ ≡ Γ
        → length p ≤ k
        → Gives i c p e
        → i.next e ≡ end f
        → Puts i τ (entries_of js) υ
        → parse i (import_file i d) k c τ ≡ read js f υ
    unfolding parse import_file entries_of on_next after on_option on_import on_color_ref on_color color_of is_sign
    sheet_done finish zero q l here e kept = rw e
    sheet_done finish (suc k) q l here e kept = rw e
    sheet_done (a_rule {p = p} {q = q} d h) zero z l g e m = absurd (omega (arith, l, length-append p q, rule_long d))
    sheet_done {τ = τ} (a_rule {Γ = Γ} {p = p} {q = q} {r = x} d h) (suc k) z l g e m =
        let r = split i p g in
        let o = apart i (rule_entries x) m in
        let f = rule_done (suc k) d (omega (arith, l, length-append p q)) r.1.0 o.1.0 in
        rw (
          rule_first _ k τ f.1.1.1.0 f.1.1.1.1.0,
          z,
          f.1.1.1.1.1,
          sheet_done h k (rule_colors i tinted x o.1.0 ∙ z) (omega (arith, l, length-append p q, rule_long d))
              r.1.1 e o.1.1,
        )
    sheet_done (defined n c h) zero q l g e m = absurd (omega arith)
    sheet_done {τ = τ} (defined n c h) (suc k) q l (a ▸ b ▸ c' ▸ d ▸ g) e (◌◂◌ {υ = φ} m ms) =
        rw (
          a,
          b,
          c',
          d,
          m,
          sheet_done h k (tinted (color_entry n c) τ φ m ∙ ap (λ Γ. define Γ n c) q) (omega arith) g e ms,
        )
    sheet_done (dropped n t z h) zero q l g e m = absurd (omega arith)
    sheet_done (dropped n t z h) (suc k) q l (a ▸ b ▸ c ▸ d ▸ g) e m = rw (a, b, c, d, z, sheet_done h k q (omega arith) g e m)
    sheet_done (imported n x d h) zero q l g e m = absurd (omega arith)
    sheet_done (imported {js = js} {ks = ks} n x d h) (suc k) q l (a ▸ b ▸ g) e m =
        let o = entries_apart js ks m in
        let w = x.1.1.1 in
        rw (
          a,
          b,
          x.1.0,
          sheet_done d (i.fuel x.0) q (enough x.0 w.0 _ w.1.0) w.1.0 w.1.1 o.1.0,
          sheet_done h k
              (reading_colors i tinted js o.1.0 ∙ ap (λ Γ. colors_after Γ js) q) (omega arith) g e
              o.1.1,
        )

    -- what the grammar has, and the tables have room for, is loaded: never refused, and with these tables
    pub load_complete :
        {p : List Token} {js : Reading} (c f : C) (τ υ : T)
        → WholeTo i c p f
        → Puts i τ (entries_of js) υ
        → Sheet i 8 (i.store.colors τ) p js
        → load i c τ ≡ read js f υ
    unfolding load
    load_complete {p} c f τ υ w m d = sheet_done d (i.fuel c) refl (enough c w.0 p w.1.0) w.1.0 w.1.1 m
