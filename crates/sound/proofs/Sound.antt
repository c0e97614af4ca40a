-- The rows that a reading fills pass the check of handed tables, whatever stands behind them.
use Prim.Native.Nat.{ℕ, ◌*◌, ◌<◌, ◌≤◌}
use native.Mathlib.Omega.{arith}
use mathlib.Core.Path.{◌≡◌, refl, ◌∙◌, ap}
use mathlib.Core.Bool.{true}
use mathlib.Core.List.{List, [], ◌∷◌, ◌++◌, append_assoc}
use lib.Ieee.{Float}
use lib.ListN.{length, get_or, get_or-append}
use lib.Seq.{get_or_at}
use Rattle.base.specs.Table.{zero_float}
use Rattle.base.specs.declared.Range.{Range}
use Rattle.sheet.specs.Digits.{is_whole}
use Rattle.sheet.specs.Sheet.{ObjectType, all, UnaryTest, exists, TextTest, equal, not_equal, NumericTest, less}
use Rattle.table.specs.Value.{word}
use Rattle.entries.specs.Words.{rule_words, selector_words}
use Rattle.table.specs.declared.Name.{Name}
use Rattle.table.specs.declared.Name.TheVariants.{Plain, Joined}
use Rattle.valid.specs.Valid.{rule_sound, selector_sound, test_sound, property_sound, all_below}
use Rattle.grammar.specs.Reading.{plain, digits, Test, unary, text, numeric, Value, word as word_value, quoted, colored, numbers, width_delta, Selector, Property, Rule, rule_item, color_item, Reading}
use Rattle.grammar.specs.Input.{Entry, rule_entry, selector_entry, test_entry, property_entry, number_entry}
use Rattle.grammar.specs.Entries.{test_entries, tests_entries, numbers_entries, value_entries, properties_entries, selectors_entries, rule_entries, entries_of}
use Rattle.keep.specs.Encode.{Rows, no_rows, add_row, add_rows}
use Rattle.keep.specs.Lent.{range, type_number, level_in, layer_in, name_shown, unary_kind, word_kind, digits_kind, numeric_kind, test_row, value_shown, word_row, value_row, fresh_numbers}
use Rattle.input.specs.Text.{range_of}
use Rattle.valid.proofs.Below.{below_next}
use Rattle.sound.proofs.Checked.{row_there, span_words, rule_row, selector_row, test_row_lem, unary_value, word_value_lem, number_value_lem, property_row, one_value, two_value, color_value_lem, numbers_value_lem, delta_value}
use Rattle.sound.specs.Lies.{Each, none_left, and_then, Span, Lies, Layer, TestLies, ValueLies, PropertyLies, SelectorLies, RuleLies, ItemLies}
use Rattle.keep.proofs.Rows.{Even, even_row, rows_append}

module _ (bundle : ℕ) where
  -- the rows pass the check, before any tail, beside tables of as many entries or more
  pub record Sound (ρ : Rows) : Type 0 where
    pub even : Even ρ
    pub selector : ρ.tally.selector ≤ ρ.tally.selectors
    pub property : ρ.tally.property ≤ ρ.tally.properties
    pub test : ρ.tally.test ≤ ρ.tally.tests
    pub number : ρ.tally.number ≤ ρ.tally.numbers
    pub rules :
        (z : List ℕ) (s p : ℕ)
        → ρ.tally.selectors ≤ s
        → s < 4294967296
        → ρ.tally.properties ≤ p
        → p < 4294967296
        → all_below (rule_sound (ρ.rules ++ z) s p) ρ.tally.rules ≡ true
    pub selectors :
        (z : List ℕ) (m : ℕ)
        → ρ.tally.tests ≤ m
        → m < 4294967296
        → all_below (selector_sound (ρ.selectors ++ z) m bundle) ρ.tally.selectors ≡ true
    pub tests :
        (z : List ℕ) (xs : List Float) (m : ℕ)
        → ρ.tally.numbers ≤ m
        → m < 4294967296
        → all_below (test_sound (ρ.tests ++ z) (ρ.numbers ++ xs) m bundle) ρ.tally.tests ≡ true
    pub properties :
        (z : List ℕ) (m : ℕ)
        → ρ.tally.numbers ≤ m
        → m < 4294967296
        → all_below (property_sound (ρ.properties ++ z) m bundle) ρ.tally.properties ≡ true

  module _ (short : bundle < 4294967296) where
    sound_rule : (ρ : Rows) → Sound ρ → Sound (add_row ρ rule_entry)
    sound_rule ρ v =
        let n = ρ.tally in
        let row = rule_words (range n.selector n.selectors) (range n.property n.properties) in
        let a = v.selector in
        let b = v.property in
        record {
          even = even_row rule_entry ρ v.even;
          selector = omega arith;
          property = omega arith;
          test = v.test;
          number = v.number;
          rules =
              λ z s p h₁ h₂ g₁ g₂.
              rw (append_assoc ρ.rules row z)
              (below_next (rule_sound (ρ.rules ++ (row ++ z)) s p) n.rules (v.rules (row ++ z) s p h₁ h₂ g₁ g₂)
              (rule_row (ρ.rules ++ (row ++ z)) n.rules (word n.selector) (word n.selectors) (word n.property) (word n.properties) s p
              (row_there ρ.rules n.rules _ _ _ _ _ _ _ _ z v.even.rules)
              (span_words n.selector n.selectors s a h₁ h₂)
              (span_words n.property n.properties p b g₁ g₂)));
          selectors = v.selectors;
          tests = v.tests;
          properties = v.properties;
        }

    type_kind : (t : ObjectType) → (1 ≤ type_number t) × (type_number t ≤ 6)
    type_kind all = (omega arith, omega arith)
    type_kind t = (omega arith, omega arith)

    sound_selector : (σ : Selector) (ρ : Rows) → Layer bundle (layer_in σ.layer_id) → Sound ρ → Sound (add_row ρ (selector_entry σ))
    sound_selector σ ρ y v =
        let n = ρ.tally in
        let row =
        selector_words (type_number σ.object_type) (level_in σ.min_zoom) (level_in σ.max_zoom)
        (range n.test n.tests) (layer_in σ.layer_id) in
        let k = type_kind σ.object_type in
        let a = v.selector in
        record {
          even = even_row (selector_entry σ) ρ v.even;
          selector = omega arith;
          property = v.property;
          test = omega arith;
          number = v.number;
          rules = λ z s p h₁ h₂ g₁ g₂. v.rules z s p (omega arith) h₂ g₁ g₂;
          selectors =
              λ z m h g.
              rw (append_assoc ρ.selectors row z)
              (below_next (selector_sound (ρ.selectors ++ (row ++ z)) m bundle) n.selectors (v.selectors (row ++ z) m h g)
              (selector_row bundle short (ρ.selectors ++ (row ++ z)) n.selectors (type_number σ.object_type) _ _
              (word n.test) (word n.tests) m (layer_in σ.layer_id)
              (row_there ρ.selectors n.selectors _ _ _ _ _ _ _ _ z v.even.selectors)
              k.0 k.1
              (span_words n.test n.tests m v.test h g)
              y));
          tests = v.tests;
          properties = v.properties;
        }

    sound_number : (x : Float) (ρ : Rows) → Sound ρ → Sound (add_row ρ (number_entry x))
    sound_number x ρ v =
        let a = v.number in
        record {
          even = even_row (number_entry x) ρ v.even;
          selector = v.selector;
          property = v.property;
          test = v.test;
          number = omega arith;
          rules = v.rules;
          selectors = v.selectors;
          tests = λ z xs m h g. rw (append_assoc ρ.numbers (x ∷ []) xs) (v.tests z (x ∷ xs) m (omega arith) g);
          properties = λ z m h g. v.properties z m (omega arith) g;
        }

    -- the number of a test or a width delta is the first that no entry has taken
    abbrev Ready : Rows → Test → Type 0
    Ready ρ (text o a (digits x)) = (ρ.tally.number < ρ.tally.numbers) × (get_or ρ.numbers ρ.tally.number zero_float ≡ x)
    Ready ρ (numeric o a x) = ρ.tally.number < ρ.tally.numbers
    Ready ρ x = Unit {0}

    unary_kind_lem : (o : UnaryTest) → (1 ≤ unary_kind o) × (unary_kind o ≤ 4)
    unary_kind_lem exists = (omega arith, omega arith)
    unary_kind_lem o = (omega arith, omega arith)

    word_kind_lem : (o : TextTest) → (4 < word_kind o) × (word_kind o ≤ 6)
    word_kind_lem equal = (omega arith, omega arith)
    word_kind_lem not_equal = (omega arith, omega arith)

    digits_kind_lem : (o : TextTest) → (6 < digits_kind o) × (digits_kind o ≤ 12)
    digits_kind_lem equal = (omega arith, omega arith)
    digits_kind_lem not_equal = (omega arith, omega arith)

    numeric_kind_lem : (o : NumericTest) → (8 < numeric_kind o) × (numeric_kind o ≤ 12)
    numeric_kind_lem less = (omega arith, omega arith)
    numeric_kind_lem o = (omega arith, omega arith)

    new_test :
        (x : Test) (ρ : Rows)
        → TestLies bundle x
        → Ready ρ x
        → Sound ρ
        → (z : List ℕ) (xs : List Float) (m : ℕ)
        → ρ.tally.numbers ≤ m
        → m < 4294967296
        → test_sound (ρ.tests ++ (test_row x ρ.tally.number ++ z)) (ρ.numbers ++ xs) m bundle ρ.tally.tests ≡ true
    new_test (unary o a) ρ y r v z xs m h g =
        let n = ρ.tally.tests in
        let k = unary_kind_lem o in
        let k₀ = k.0 in
        let k₁ = k.1 in
        let t = ρ.tests ++ (test_row (unary o a) ρ.tally.number ++ z) in
        let w = row_there ρ.tests n _ _ _ _ _ _ _ _ z v.even.tests in
        test_row_lem bundle short t (ρ.numbers ++ xs) n (unary_kind o) 0 0 m (name_shown a) w (omega arith) (omega arith) y
        (unary_value bundle short t (ρ.numbers ++ xs) n (unary_kind o) m w k₁)
    new_test (text o a (plain b)) ρ y r v z xs m h g =
        let n = ρ.tally.tests in
        let k = word_kind_lem o in
        let k₀ = k.0 in
        let k₁ = k.1 in
        let t = ρ.tests ++ (test_row (text o a (plain b)) ρ.tally.number ++ z) in
        let w = row_there ρ.tests n _ _ _ _ _ _ _ _ z v.even.tests in
        test_row_lem bundle short t (ρ.numbers ++ xs) n (word_kind o) (word (range_of b).from) (word (range_of b).to) m
        (name_shown a) w (omega arith) (omega arith) y.0
        (word_value_lem bundle short t (ρ.numbers ++ xs) n (word_kind o) m (range_of b) w k₀ k₁ y.1)
    new_test (text o a (digits x)) ρ y r v z xs m h g =
        let n = ρ.tally.tests in
        let i = ρ.tally.number in
        let k = digits_kind_lem o in
        let k₀ = k.0 in
        let k₁ = k.1 in
        let below = r.0 in
        let long = v.even.numbers in
        let same : word i ≡ i = omega arith in
        let whole : is_whole (get_or (ρ.numbers ++ xs) (word i) zero_float) ≡ true =
        ap (λ j. is_whole (get_or (ρ.numbers ++ xs) j zero_float)) same
        ∙ ap is_whole (get_or-append ρ.numbers xs zero_float i (omega arith) ∙ r.1)
        ∙ y.1 in
        let t = ρ.tests ++ (test_row (text o a (digits x)) i ++ z) in
        let w = row_there ρ.tests n _ _ _ _ _ _ _ _ z v.even.tests in
        test_row_lem bundle short t (ρ.numbers ++ xs) n (digits_kind o) (word i) 0 m (name_shown a) w (omega arith) k₁ y.0
        (number_value_lem bundle short t (ρ.numbers ++ xs) n (digits_kind o) m (word i) w k₀ (omega arith) (λ q. whole))
    new_test (numeric o a x) ρ y r v z xs m h g =
        let n = ρ.tally.tests in
        let i = ρ.tally.number in
        let k = numeric_kind_lem o in
        let k₀ = k.0 in
        let k₁ = k.1 in
        let t = ρ.tests ++ (test_row (numeric o a x) i ++ z) in
        let w = row_there ρ.tests n _ _ _ _ _ _ _ _ z v.even.tests in
        test_row_lem bundle short t (ρ.numbers ++ xs) n (numeric_kind o) (word i) 0 m (name_shown a) w (omega arith) k₁ y
        (number_value_lem bundle short t (ρ.numbers ++ xs) n (numeric_kind o) m (word i) w (omega arith) (omega arith)
        (λ q. absurd (omega arith)))

    sound_test : (x : Test) (ρ : Rows) → TestLies bundle x → Ready ρ x → Sound ρ → Sound (add_row ρ (test_entry x))
    sound_test x ρ y r v =
        let n = ρ.tally in
        let row = test_row x n.number in
        let a = v.test in
        record {
          even = even_row (test_entry x) ρ v.even;
          selector = v.selector;
          property = v.property;
          test = omega arith;
          number = omega arith;
          rules = v.rules;
          selectors = λ z m h g. v.selectors z m (omega arith) g;
          tests =
              λ z xs m h g.
              rw (append_assoc ρ.tests row z)
              (below_next (test_sound (ρ.tests ++ (row ++ z)) (ρ.numbers ++ xs) m bundle) n.tests (v.tests (row ++ z) xs m h g)
              (new_test x ρ y r v z xs m h g));
          properties = v.properties;
        }

    -- properties
    abbrev ReadyValue : Rows → Value → Type 0
    ReadyValue ρ (width_delta x) = ρ.tally.number < ρ.tally.numbers
    ReadyValue ρ u = Unit {0}

    new_word :
        (name : Range) (a : Name) (pre : List ℕ) (n m : ℕ) (z : List ℕ)
        → Span bundle name
        → Lies bundle a
        → length pre ≡ n * 8
        → property_sound (pre ++ (word_row name a ++ z)) m bundle n ≡ true
    new_word name (Plain a) pre n m z s y l =
        let t = pre ++ (word_row name (Plain a) ++ z) in
        let w = row_there pre n _ _ _ _ _ _ _ _ z l in
        property_row bundle short t n 1 (word a.from) (word a.to) 0 0 m name w (omega arith) (omega arith) s
        (one_value bundle short t n m 1 a w refl refl refl refl y)
    new_word name (Joined a b) pre n m z s y l =
        let t = pre ++ (word_row name (Joined a b) ++ z) in
        let w = row_there pre n _ _ _ _ _ _ _ _ z l in
        property_row bundle short t n 2 (word a.from) (word a.to) (word b.from) (word b.to) m name w
        (omega arith) (omega arith) s
        (two_value bundle short t n m a b w y.0 y.1)

    new_value :
        (name : Range) (u : Value) (ρ : Rows)
        → Span bundle name
        → ValueLies bundle u
        → ReadyValue ρ u
        → Sound ρ
        → (z : List ℕ) (m : ℕ)
        → ρ.tally.numbers ≤ m
        → m < 4294967296
        → property_sound
        (ρ.properties ++ (value_row name (value_shown u (fresh_numbers ρ.tally)) ρ.tally.number ++ z))
        m bundle ρ.tally.properties ≡ true
    new_value name (word_value a) ρ s y r v z m h g =
        new_word name (name_shown a) ρ.properties ρ.tally.properties m z s y v.even.properties
    new_value name (quoted a) ρ s y r v z m h g =
        let n = ρ.tally.properties in
        let t = ρ.properties ++ (value_row name (value_shown (quoted a) (fresh_numbers ρ.tally)) ρ.tally.number ++ z) in
        let w = row_there ρ.properties n _ _ _ _ _ _ _ _ z v.even.properties in
        property_row bundle short t n 3 (word (range_of a).from) (word (range_of a).to) 0 0 m name w (omega arith) (omega arith) s
        (one_value bundle short t n m 3 (range_of a) w refl refl refl refl y)
    new_value name (colored c) ρ s y r v z m h g =
        let n = ρ.tally.properties in
        let t = ρ.properties ++ (value_row name (value_shown (colored c) (fresh_numbers ρ.tally)) ρ.tally.number ++ z) in
        let w = row_there ρ.properties n _ _ _ _ _ _ _ _ z v.even.properties in
        property_row bundle short t n 4 (word c.r) (word c.g) (word c.b) 0 m name w (omega arith) (omega arith) s
        (color_value_lem bundle short t n m c w y)
    new_value name (numbers xs) ρ s y r v z m h g =
        let n = ρ.tally.properties in
        let t = ρ.properties ++ (value_row name (value_shown (numbers xs) (fresh_numbers ρ.tally)) ρ.tally.number ++ z) in
        let w = row_there ρ.properties n _ _ _ _ _ _ _ _ z v.even.properties in
        property_row bundle short t n 5 (word ρ.tally.number) (word ρ.tally.numbers) 0 0 m name w (omega arith) (omega arith) s
        (numbers_value_lem bundle short t n m (word ρ.tally.number) (word ρ.tally.numbers) w
        (span_words ρ.tally.number ρ.tally.numbers m v.number h g))
    new_value name (width_delta x) ρ s y r v z m h g =
        let n = ρ.tally.properties in
        let i = ρ.tally.number in
        let t = ρ.properties ++ (value_row name (value_shown (width_delta x) (fresh_numbers ρ.tally)) i ++ z) in
        let w = row_there ρ.properties n _ _ _ _ _ _ _ _ z v.even.properties in
        property_row bundle short t n 6 (word i) 0 0 0 m name w (omega arith) (omega arith) s
        (delta_value bundle short t n m (word i) w (omega arith))

    sound_property :
        (p : Property) (ρ : Rows)
        → PropertyLies bundle p
        → ReadyValue ρ p.value
        → Sound ρ
        → Sound (add_row ρ (property_entry p))
    sound_property p ρ y r v =
        let n = ρ.tally in
        let row = value_row (range_of p.name) (value_shown p.value (fresh_numbers n)) n.number in
        let a = v.property in
        record {
          even = even_row (property_entry p) ρ v.even;
          selector = v.selector;
          property = omega arith;
          test = v.test;
          number = omega arith;
          rules = λ z s p h₁ h₂ g₁ g₂. v.rules z s p h₁ h₂ (omega arith) g₂;
          selectors = v.selectors;
          tests = v.tests;
          properties =
              λ z m h g.
              rw (append_assoc ρ.properties row z)
              (below_next (property_sound (ρ.properties ++ (row ++ z)) m bundle) n.properties (v.properties (row ++ z) m h g)
              (new_value (range_of p.name) p.value ρ y.0 y.1 r v z m h g));
        }

    -- ---- the entries of a reading

    -- every number is taken
    abbrev Settled : Rows → Type 0
    Settled ρ = ρ.tally.number ≡ ρ.tally.numbers

    abbrev Good : Rows → Type 0
    Good ρ = Sound ρ × Settled ρ

    good_test : (x : Test) (ρ : Rows) → TestLies bundle x → Good ρ → Good (add_rows ρ (test_entries x))
    unfolding add_rows
    good_test (unary o a) ρ y v = (sound_test (unary o a) ρ y tt v.0, refl)
    good_test (text o a (plain b)) ρ y v = (sound_test (text o a (plain b)) ρ y tt v.0, refl)
    good_test (text o a (digits x)) ρ y v =
        let e = v.1 in
        let l = v.0.even.numbers in (
          sound_test (text o a (digits x)) (add_row ρ (number_entry x)) y
              (omega arith, get_or_at ρ.numbers x [] zero_float ρ.tally.number (omega arith))
              (sound_number x ρ v.0),
          refl,
        )
    good_test (numeric o a x) ρ y v =
        let e = v.1 in (
          sound_test (numeric o a x) (add_row ρ (number_entry x)) y (omega arith) (sound_number x ρ v.0),
          refl,
        )

    good_tests : (ts : List Test) (ρ : Rows) → Each (TestLies bundle) ts → Good ρ → Good (add_rows ρ (tests_entries ts))
    unfolding add_rows tests_entries
    good_tests [] ρ none_left v = v
    good_tests (t ∷ ts) ρ (and_then y ys) v =
        rw (rows_append (test_entries t) (tests_entries ts) ρ)
        (good_tests ts (add_rows ρ (test_entries t)) ys (good_test t ρ y v))

    sound_numbers : (xs : List Float) (ρ : Rows) → Sound ρ → Sound (add_rows ρ (numbers_entries xs))
    unfolding add_rows numbers_entries
    sound_numbers [] ρ v = v
    sound_numbers (x ∷ xs) ρ v = sound_numbers xs (add_row ρ (number_entry x)) (sound_number x ρ v)

    good_value_lem : (u : Value) (ρ : Rows) → Good ρ → Sound (add_rows ρ (value_entries u)) × ReadyValue (add_rows ρ (value_entries u)) u
    unfolding add_rows
    good_value_lem (numbers xs) ρ v = (sound_numbers xs ρ v.0, tt)
    good_value_lem (width_delta x) ρ v = let e = v.1 in (sound_number x ρ v.0, omega arith)
    good_value_lem u ρ v = (v.0, tt)

    good_properties : (ps : List Property) (ρ : Rows) → Each (PropertyLies bundle) ps → Good ρ → Good (add_rows ρ (properties_entries ps))
    unfolding add_rows properties_entries
    good_properties [] ρ none_left v = v
    good_properties (p ∷ ps) ρ (and_then y ys) v =
        let φ = add_rows ρ (value_entries p.value) in
        let w = good_value_lem p.value ρ v in
        rw (rows_append (value_entries p.value) (property_entry p ∷ properties_entries ps) ρ)
        (good_properties ps (add_row φ (property_entry p)) ys (sound_property p φ y w.1 w.0, refl))

    good_selectors :
        (ss : List Selector) (es : List Entry)
        → ((ρ : Rows) → Good ρ → Good (add_rows ρ es))
        → (ρ : Rows)
        → Each (SelectorLies bundle) ss
        → Good ρ
        → Good (add_rows ρ (selectors_entries ss es))
    unfolding add_rows selectors_entries
    good_selectors [] es k ρ none_left v = k ρ v
    good_selectors (σ ∷ ss) es k ρ (and_then y ys) v =
        let φ = add_rows ρ (tests_entries σ.tests) in
        let w = good_tests σ.tests ρ y.1 v in
        rw (rows_append (tests_entries σ.tests) (selector_entry σ ∷ selectors_entries ss es) ρ)
        (good_selectors ss es k (add_row φ (selector_entry σ)) ys (sound_selector σ φ y.0 w.0, w.1))

    good_rule : (r : Rule) (ρ : Rows) → RuleLies bundle r → Good ρ → Good (add_rows ρ (rule_entries r))
    unfolding add_rows rule_entries
    good_rule r ρ y v =
        good_selectors r.selectors (properties_entries r.properties ++ (rule_entry ∷ []))
        (λ φ w.
        let ψ = add_rows φ (properties_entries r.properties) in
        let u = good_properties r.properties φ y.1 w in
        rw (rows_append (properties_entries r.properties) (rule_entry ∷ []) φ) (sound_rule ψ u.0, u.1))
        ρ y.0 v

    good_reading : (js : Reading) (ρ : Rows) → Each (ItemLies bundle) js → Good ρ → Good (add_rows ρ (entries_of js))
    unfolding add_rows entries_of
    good_reading [] ρ none_left v = v
    good_reading (rule_item r ∷ js) ρ (and_then y ys) v =
        rw (rows_append (rule_entries r) (entries_of js) ρ)
        (good_reading js (add_rows ρ (rule_entries r)) ys (good_rule r ρ y v))
    good_reading (color_item n c ∷ js) ρ (and_then y ys) v = good_reading js ρ ys v

    sound_none : Sound no_rows
    unfolding all_below
    sound_none =
        record {
          even = record { rules = refl; selectors = refl; tests = refl; properties = refl; numbers = refl };
          selector = omega arith;
          property = omega arith;
          test = omega arith;
          number = omega arith;
          rules = λ z s p h₁ h₂ g₁ g₂. refl;
          selectors = λ z m h g. refl;
          tests = λ z xs m h g. refl;
          properties = λ z m h g. refl;
        }

    pub reading_sound : (js : Reading) → Each (ItemLies bundle) js → Sound (add_rows no_rows (entries_of js))
    reading_sound js y = (good_reading js no_rows y (sound_none, refl)).0
