-- The rows that a reading fills spell its rules, in any tables that begin with them.
use Prim.Native.Nat.{ℕ, ◌-◌, ◌*◌, ◌<◌, ◌≤◌}
use native.Mathlib.Omega.{arith}
use mathlib.Core.Path.{◌≡◌, refl, sym, ◌∙◌, ap, ap₂, subst}
use mathlib.Core.List.{List, [], ◌∷◌, ◌++◌, map, append-nil, append_assoc}
use mathlib.Core.Option.{Option}
use lib.Ieee.{Float}
use lib.ListN.{length, get_or, drop}
use lib.Seq.{drop_at, get_or_at}
use Rattle.base.specs.Bytes.{Bytes, within}
use Rattle.base.specs.Map.{Entry as Entry', entry}
use Rattle.base.specs.Table.{zero_float}
use Rattle.base.specs.declared.Range.{Range}
use Rattle.sheet.specs.Digits.{digits_for}
use Rattle.sheet.specs.Sheet.{ObjectType, identifier, string, numbers as numbers', Test as Test', Value as Value', Selector as Selector', Rule as Rule'}
use Rattle.table.specs.Value.{word_at, range_at, value_at}
use Rattle.entries.specs.Words.{property_words}
use Rattle.table.specs.declared.Name.{Name}
use Rattle.table.specs.declared.Name.TheVariants.{Plain, Joined}
use Rattle.table.specs.declared.PropertyValue.{PropertyValue}
use Rattle.table.specs.declared.PropertyValue.TheVariants.{NoValue, Identifier, Text, Shade, Numbers, WidthDelta}
use Rattle.grammar.specs.Token.{Name as Name'}
use Rattle.grammar.specs.Reading.{plain, digits, Test, unary, text, numeric, Value, word as word_value, quoted, colored, numbers, width_delta, Selector, Property, Rule, property, rule_item, color_item, Reading, rules_of}
use Rattle.grammar.specs.Input.{Entry, rule_entry, selector_entry, test_entry, property_entry, number_entry}
use Rattle.grammar.specs.Entries.{test_entries, tests_entries, numbers_entries, value_entries, properties_entries, selectors_entries, rule_entries, entries_of}
use Rattle.grammar.specs.Rules.{test_of, selector_of, property_of, rule_of, rules_of_reading, value_of as valueOf'}
use Rattle.keep.specs.Encode.{Rows, no_rows, add_row, add_rows}
use Rattle.keep.specs.Lent.{Lent, range, name_shown, value_shown, word_row, value_row, fresh_numbers}
use Rattle.input.specs.Text.{range_of}
use Rattle.keep.proofs.Rows.{Even, even_row, rows_append}
use Rattle.sound.specs.Lies.{Each, none_left, and_then, Span, Lies}
use Rattle.decode.specs.Decode.{places, places_in, level_at, type_at, test_at, selector_at, value_of, property_at, rule_at}
use Rattle.sound.proofs.Drawn.{bytes_at, DrawnOnce, TestDrawn, LayerDrawn, SelectorDrawn, ValueDrawn, PropertyDrawn, RuleDrawn, ItemDrawn}
use Rattle.decode.proofs.Entries.{places_more, places_next, places_none, range_back, type_back, level_back, within_back, key_back, unary_back, word_back, digits_back, numeric_back, layer_back, plain_back, joined_back, string_back, color_back, numbers_back, delta_back}
use Rattle.decode.proofs.Begun.{Starts, row_in, Begins, begins_row, Next, next_there, fresh_there}

abbrev Rules' : Type 0
Rules' = List (Rule' Value')

abbrev Properties' : Type 0
Properties' = List (Entry' Value')

abbrev rule_from : List Selector' → Properties' → Rule' Value'
rule_from ss ps = record { selectors = ss; properties = ps }

module _ (bundle : Bytes) where
  -- rs: the rules; ss, ps: the selectors and properties that no rule has; ts: the tests that no selector has
  pub record Spells (ρ : Rows) (rs : Rules') (ss : List Selector') (ts : List Test') (ps : Properties') : Type 0 where
    pub even : Even ρ
    pub selector : ρ.tally.selector ≤ ρ.tally.selectors
    pub property : ρ.tally.property ≤ ρ.tally.properties
    pub test : ρ.tally.test ≤ ρ.tally.tests
    pub number : ρ.tally.number ≤ ρ.tally.numbers
    pub rules : (τ : Lent) → Begins ρ τ → map (rule_at bundle τ) (places 0 ρ.tally.rules) ≡ rs
    pub selectors :
        (τ : Lent)
        → Begins ρ τ
        → map (selector_at bundle τ) (places ρ.tally.selector (ρ.tally.selectors - ρ.tally.selector)) ≡ ss
    pub tests :
        (τ : Lent)
        → Begins ρ τ
        → map (test_at bundle τ.tests τ.numbers) (places ρ.tally.test (ρ.tally.tests - ρ.tally.test)) ≡ ts
    pub properties :
        (τ : Lent)
        → Begins ρ τ
        → map (property_at bundle τ) (places ρ.tally.property (ρ.tally.properties - ρ.tally.property)) ≡ ps

  module _ (short : length bundle < 4294967296) where
    -- ---- a test, read back

    -- the number of a test is stored before it
    abbrev Ready : Rows → Test → Type 0
    Ready ρ (text o a (digits x)) = Next ρ x
    Ready ρ (numeric o a x) = Next ρ x
    Ready ρ x = Unit {0}

    new_test :
        (x : Test) (ρ : Rows)
        → TestDrawn bundle x
        → Ready ρ x
        → Even ρ
        → (τ : Lent)
        → Begins (add_row ρ (test_entry x)) τ
        → test_at bundle τ.tests τ.numbers ρ.tally.tests ≡ test_of digits_for x
    new_test (unary o a) ρ d r e τ b =
        let i = ρ.tally.tests in
        let t = τ.tests in
        let w = row_in ρ.tests i _ _ _ _ _ _ _ _ t b.tests e.tests in
        unary_back bundle short t τ.numbers i a.bytes (key_back bundle short t i (name_shown a) w d.1 ∙ sym d.0) o w.w₀
    new_test (text o a (plain c)) ρ d r e τ b =
        let i = ρ.tally.tests in
        let t = τ.tests in
        let w = row_in ρ.tests i _ _ _ _ _ _ _ _ t b.tests e.tests in
        word_back bundle short t τ.numbers i a.bytes (key_back bundle short t i (name_shown a) w d.0.1 ∙ sym d.0.0) o
        c.bytes w.w₀
        (within_back bundle short t i 6 (range_of c) w.w₆ w.w₇ d.1.1 ∙ sym d.1.0)
    new_test (text o a (digits x)) ρ d r e τ b =
        let i = ρ.tally.tests in
        let t = τ.tests in
        let w = row_in ρ.tests i _ _ _ _ _ _ _ _ t b.tests e.tests in
        let h = r.0 in
        let f = b.few_numbers in
        let p : word_at t i 6 ≡ ρ.tally.number = w.w₆ ∙ omega arith in
        digits_back bundle short t τ.numbers i a.bytes (key_back bundle short t i (name_shown a) w d.0.1 ∙ sym d.0.0) o
        x w.w₀
        (ap (λ j. get_or τ.numbers j zero_float) p
        ∙ next_there ρ τ x e (begins_row (test_entry (text o a (digits x))) ρ τ b) r)
    new_test (numeric o a x) ρ d r e τ b =
        let i = ρ.tally.tests in
        let t = τ.tests in
        let w = row_in ρ.tests i _ _ _ _ _ _ _ _ t b.tests e.tests in
        let h = r.0 in
        let f = b.few_numbers in
        let p : word_at t i 6 ≡ ρ.tally.number = w.w₆ ∙ omega arith in
        numeric_back bundle short t τ.numbers i a.bytes (key_back bundle short t i (name_shown a) w d.1 ∙ sym d.0) o
        x w.w₀
        (ap (λ j. get_or τ.numbers j zero_float) p ∙ next_there ρ τ x e (begins_row (test_entry (numeric o a x)) ρ τ b) r)

    -- ---- a property, read back

    -- the numbers of a value are stored before it
    abbrev ReadyValue : Rows → Value → Type 0
    ReadyValue ρ (numbers xs) = drop ρ.tally.number ρ.numbers ≡ xs
    ReadyValue ρ (width_delta x) = Next ρ x
    ReadyValue ρ u = Unit {0}

    new_word :
        (a : Name) (τ : Lent) (i : ℕ) (name : Range) (pre : List ℕ)
        → Lies (length bundle) a
        → Starts (pre ++ word_row name a) τ.properties
        → length pre ≡ i * 8
        → value_at τ.properties τ.numbers i ≡ Identifier a
    new_word (Plain x) τ i name pre d s l =
        plain_back bundle short τ.properties τ.numbers i x (row_in pre i _ _ _ _ _ _ _ _ τ.properties s l) d
    new_word (Joined x y) τ i name pre d s l =
        joined_back bundle short τ.properties τ.numbers i x y (row_in pre i _ _ _ _ _ _ _ _ τ.properties s l) d.0 d.1

    word_bytes : (a : Name) (τ : Lent) → value_of bundle τ (Identifier a) ≡ identifier (bytes_at bundle a)
    word_bytes (Plain x) τ = refl
    word_bytes (Joined x y) τ = refl

    -- whatever the value
    name_in_lem :
        (u : PropertyValue) (t : List ℕ) (i x : ℕ) (name : Range) (pre : List ℕ)
        → Span (length bundle) name
        → Starts (pre ++ value_row name u x) t
        → length pre ≡ i * 8
        → within (range_at t i 1) bundle ≡ within name bundle
    name_in_lem u t i x name pre d s l = go u s
      where
        told :
            (k a b c d' : ℕ)
            → Starts (pre ++ property_words k name a b c d') t
            → within (range_at t i 1) bundle ≡ within name bundle
        told k a b c d' s =
            let w = row_in pre i _ _ _ _ _ _ _ _ t s l in
            within_back bundle short t i 1 name w.w₁ w.w₂ d

        go : (u : PropertyValue) → Starts (pre ++ value_row name u x) t → within (range_at t i 1) bundle ≡ within name bundle
        go NoValue s = told 0 0 0 0 0 s
        go (Identifier (Plain a)) s = told 1 a.from a.to 0 0 s
        go (Identifier (Joined a b)) s = told 2 a.from a.to b.from b.to s
        go (Text a) s = told 3 a.from a.to 0 0 s
        go (Shade c) s = told 4 c.r c.g c.b 0 s
        go (Numbers a) s = told 5 a.from a.to 0 0 s
        go (WidthDelta y) s = told 6 x 0 0 0 s

    new_name :
        (p : Property) (ρ : Rows)
        → DrawnOnce bundle p.name
        → Even ρ
        → (τ : Lent)
        → Begins (add_row ρ (property_entry p)) τ
        → within (range_at τ.properties ρ.tally.properties 1) bundle ≡ p.name.bytes
    new_name p ρ d e τ b =
        name_in_lem (value_shown p.value (fresh_numbers ρ.tally)) τ.properties ρ.tally.properties ρ.tally.number
        (range_of p.name) ρ.properties d.1 b.properties e.properties
        ∙ sym d.0

    new_value :
        (name : Name') (u : Value) (ρ : Rows)
        → ValueDrawn bundle u
        → ReadyValue ρ u
        → Even ρ
        → ρ.tally.number ≤ ρ.tally.numbers
        → (τ : Lent)
        → Begins (add_row ρ (property_entry (property name u))) τ
        → value_of bundle τ (value_at τ.properties τ.numbers ρ.tally.properties) ≡ valueOf' digits_for u
    new_value name (word_value a) ρ d r e h τ b =
        ap (value_of bundle τ)
        (new_word (name_shown a) τ ρ.tally.properties (range_of name) ρ.properties d.1 b.properties e.properties)
        ∙ word_bytes (name_shown a) τ
        ∙ ap identifier (sym d.0)
    new_value name (quoted a) ρ d r e h τ b =
        let i = ρ.tally.properties in
        let t = τ.properties in
        let w = row_in ρ.properties i _ _ _ _ _ _ _ _ t b.properties e.properties in
        ap (value_of bundle τ) (string_back bundle short t τ.numbers i (range_of a) w d.1) ∙ ap string (sym d.0)
    new_value name (colored c) ρ d r e h τ b =
        let i = ρ.tally.properties in
        let t = τ.properties in
        let w = row_in ρ.properties i _ _ _ _ _ _ _ _ t b.properties e.properties in
        ap (value_of bundle τ) (color_back bundle short t τ.numbers i c w d)
    new_value name (numbers xs) ρ d r e h τ b =
        let i = ρ.tally.properties in
        let t = τ.properties in
        let w = row_in ρ.properties i _ _ _ _ _ _ _ _ t b.properties e.properties in
        let f = b.few_numbers in
        ap (value_of bundle τ)
        (numbers_back bundle short t τ.numbers i ρ.tally.number ρ.tally.numbers w (omega arith)
        (omega arith))
        ∙ ap numbers' (fresh_there ρ τ xs e (begins_row (property_entry (property name (numbers xs))) ρ τ b) h r)
    new_value name (width_delta x) ρ d r e h τ b =
        let i = ρ.tally.properties in
        let t = τ.properties in
        let w = row_in ρ.properties i _ _ _ _ _ _ _ _ t b.properties e.properties in
        let f = b.few_numbers in
        ap (value_of bundle τ)
        (delta_back bundle short t τ.numbers i ρ.tally.number x w (omega arith)
        (next_there ρ τ x e (begins_row (property_entry (property name (width_delta x))) ρ τ b) r))

    module _ {rs : Rules'} {ss : List Selector'} {ts : List Test'} {ps : Properties'} where
      -- ---- one row more

      spells_number : (x : Float) (ρ : Rows) → Spells ρ rs ss ts ps → Spells (add_row ρ (number_entry x)) rs ss ts ps
      spells_number x ρ v =
          let a = v.number in
          record {
            even = even_row (number_entry x) ρ v.even;
            selector = v.selector;
            property = v.property;
            test = v.test;
            number = omega arith;
            rules = λ τ b. v.rules τ (begins_row (number_entry x) ρ τ b);
            selectors = λ τ b. v.selectors τ (begins_row (number_entry x) ρ τ b);
            tests = λ τ b. v.tests τ (begins_row (number_entry x) ρ τ b);
            properties = λ τ b. v.properties τ (begins_row (number_entry x) ρ τ b);
          }

      spells_test :
          (x : Test) (ρ : Rows)
          → TestDrawn bundle x
          → Ready ρ x
          → Spells ρ rs ss ts ps
          → Spells (add_row ρ (test_entry x)) rs ss (ts ++ (test_of digits_for x ∷ [])) ps
      spells_test x ρ d r v =
          let n = ρ.tally in
          let a = v.test in
          record {
            even = even_row (test_entry x) ρ v.even;
            selector = v.selector;
            property = v.property;
            test = omega arith;
            number = omega arith;
            rules = λ τ b. v.rules τ (begins_row (test_entry x) ρ τ b);
            selectors = λ τ b. v.selectors τ (begins_row (test_entry x) ρ τ b);
            tests =
                λ τ b.
                places_more (test_at bundle τ.tests τ.numbers) n.test n.tests a
                ∙ ap₂ (λ (l : List Test') (x : Test'). l ++ (x ∷ [])) (v.tests τ (begins_row (test_entry x) ρ τ b))
                (new_test x ρ d r v.even τ b);
            properties = λ τ b. v.properties τ (begins_row (test_entry x) ρ τ b);
          }

      spells_property :
          (p : Property) (ρ : Rows)
          → PropertyDrawn bundle p
          → ReadyValue ρ p.value
          → Spells ρ rs ss ts ps
          → Spells (add_row ρ (property_entry p)) rs ss ts (ps ++ (property_of digits_for p ∷ []))
      spells_property p ρ d r v =
          let n = ρ.tally in
          let a = v.property in
          record {
            even = even_row (property_entry p) ρ v.even;
            selector = v.selector;
            property = omega arith;
            test = v.test;
            number = omega arith;
            rules = λ τ b. v.rules τ (begins_row (property_entry p) ρ τ b);
            selectors = λ τ b. v.selectors τ (begins_row (property_entry p) ρ τ b);
            tests = λ τ b. v.tests τ (begins_row (property_entry p) ρ τ b);
            properties =
                λ τ b.
                places_more (property_at bundle τ) n.property n.properties a
                ∙ ap₂ (λ (l : Properties') (x : Entry' Value'). l ++ (x ∷ [])) (v.properties τ (begins_row (property_entry p) ρ τ b))
                (ap₂ entry (new_name p ρ d.0 v.even τ b)
                (new_value p.name p.value ρ d.1 r v.even v.number τ b));
          }

    -- ---- selectors and rules

    selector_same :
        {o o' : ObjectType} {lo lo' hi hi' : Option ℕ} {ts ts' : List Test'} {n n' : Option Bytes}
        → o ≡ o'
        → lo ≡ lo'
        → hi ≡ hi'
        → ts ≡ ts'
        → n ≡ n'
        → ◌≡◌ {A = Selector'} (record { object_type = o; min_zoom = lo; max_zoom = hi; tests = ts; layer_id = n })
        (record { object_type = o'; min_zoom = lo'; max_zoom = hi'; tests = ts'; layer_id = n' })
    selector_same p q r s u = rw (p, q, r, s, u) refl

    module _ {rs : Rules'} {ss : List Selector'} {ps : Properties'} where
      new_selector :
          (σ : Selector) (ρ : Rows)
          → LayerDrawn bundle σ.layer_id
          → Spells ρ rs ss (map (test_of digits_for) σ.tests) ps
          → (τ : Lent)
          → Begins (add_row ρ (selector_entry σ)) τ
          → selector_at bundle τ ρ.tally.selectors ≡ selector_of digits_for σ
      new_selector σ ρ d v τ b =
          let n = ρ.tally in
          let i = n.selectors in
          let t = τ.selectors in
          let w = row_in ρ.selectors i _ _ _ _ _ _ _ _ t b.selectors v.even.selectors in
          let a = v.test in
          let f = b.few_tests in
          selector_same
          (ap type_at w.w₀ ∙ type_back σ.object_type)
          (ap level_at w.w₁ ∙ level_back σ.min_zoom)
          (ap level_at w.w₂ ∙ level_back σ.max_zoom)
          (ap (λ r. map (test_at bundle τ.tests τ.numbers) (places_in r))
          (range_back t i 3 (range n.test n.tests) w.w₃ w.w₄ (omega arith) f)
          ∙ v.tests τ (begins_row (selector_entry σ) ρ τ b))
          (layer_back bundle short t i σ.layer_id w d)

      spells_selector :
          (σ : Selector) (ρ : Rows)
          → LayerDrawn bundle σ.layer_id
          → Spells ρ rs ss (map (test_of digits_for) σ.tests) ps
          → Spells (add_row ρ (selector_entry σ)) rs (ss ++ (selector_of digits_for σ ∷ [])) [] ps
      spells_selector σ ρ d v =
          let n = ρ.tally in
          let a = v.selector in
          record {
            even = even_row (selector_entry σ) ρ v.even;
            selector = omega arith;
            property = v.property;
            test = omega arith;
            number = v.number;
            rules = λ τ b. v.rules τ (begins_row (selector_entry σ) ρ τ b);
            selectors =
                λ τ b.
                places_more (selector_at bundle τ) n.selector n.selectors a
                ∙ ap₂ (λ (l : List Selector') (x : Selector'). l ++ (x ∷ [])) (v.selectors τ (begins_row (selector_entry σ) ρ τ b))
                (new_selector σ ρ d v τ b);
            tests = λ τ b. places_none (test_at bundle τ.tests τ.numbers) n.tests;
            properties = λ τ b. v.properties τ (begins_row (selector_entry σ) ρ τ b);
          }

      new_rule :
          (ρ : Rows)
          → Spells ρ rs ss [] ps
          → (τ : Lent)
          → Begins (add_row ρ rule_entry) τ
          → rule_at bundle τ ρ.tally.rules ≡ rule_from ss ps
      new_rule ρ v τ b =
          let n = ρ.tally in
          let i = n.rules in
          let t = τ.rules in
          let w = row_in ρ.rules i _ _ _ _ _ _ _ _ t b.rules v.even.rules in
          let s = v.selector in
          let p = v.property in
          let f = b.few_selectors in
          let g = b.few_properties in
          ap₂ rule_from
          (ap (λ r. map (selector_at bundle τ) (places_in r))
          (range_back t i 1 (range n.selector n.selectors) w.w₁ w.w₂ (omega arith) f)
          ∙ v.selectors τ (begins_row rule_entry ρ τ b))
          (ap (λ r. map (property_at bundle τ) (places_in r))
          (range_back t i 3 (range n.property n.properties) w.w₃ w.w₄ (omega arith) g)
          ∙ v.properties τ (begins_row rule_entry ρ τ b))

      spells_rule : (ρ : Rows) → Spells ρ rs ss [] ps → Spells (add_row ρ rule_entry) (rs ++ (rule_from ss ps ∷ [])) [] [] []
      spells_rule ρ v =
          let n = ρ.tally in
          record {
            even = even_row rule_entry ρ v.even;
            selector = omega arith;
            property = omega arith;
            test = v.test;
            number = v.number;
            rules =
                λ τ b.
                places_next (rule_at bundle τ) n.rules
                ∙ ap₂ (λ (l : Rules') (x : Rule' Value'). l ++ (x ∷ [])) (v.rules τ (begins_row rule_entry ρ τ b)) (new_rule ρ v τ b);
            selectors = λ τ b. places_none (selector_at bundle τ) n.selectors;
            tests = λ τ b. v.tests τ (begins_row rule_entry ρ τ b);
            properties = λ τ b. places_none (property_at bundle τ) n.properties;
          }

    -- ---- the entries of a reading

    -- every number is taken
    abbrev Settled : Rows → Type 0
    Settled ρ = ρ.tally.number ≡ ρ.tally.numbers

    abbrev Good : Rows → Rules' → List Selector' → List Test' → Properties' → Type 0
    Good ρ rs ss ts ps = Spells ρ rs ss ts ps × Settled ρ

    next_number : (x : Float) (ρ : Rows) → Even ρ → Settled ρ → Next (add_row ρ (number_entry x)) x
    next_number x ρ e q =
        let l = e.numbers in
        (omega arith, get_or_at ρ.numbers x [] zero_float ρ.tally.number (omega arith))

    module _ {rs : Rules'} {ss : List Selector'} {ps : Properties'} where
      good_test :
          (x : Test) (ρ : Rows) {ts : List Test'}
          → TestDrawn bundle x
          → Good ρ rs ss ts ps
          → Good (add_rows ρ (test_entries x)) rs ss (ts ++ (test_of digits_for x ∷ [])) ps
      unfolding add_rows
      good_test (unary o a) ρ d v = (spells_test (unary o a) ρ d tt v.0, refl)
      good_test (text o a (plain b)) ρ d v = (spells_test (text o a (plain b)) ρ d tt v.0, refl)
      good_test (text o a (digits x)) ρ d v = (
        spells_test (text o a (digits x)) (add_row ρ (number_entry x)) d (next_number x ρ v.0.even v.1)
            (spells_number x ρ v.0),
        refl,
      )
      good_test (numeric o a x) ρ d v = (
        spells_test (numeric o a x) (add_row ρ (number_entry x)) d (next_number x ρ v.0.even v.1)
            (spells_number x ρ v.0),
        refl,
      )

      good_tests :
          (xs : List Test) (ρ : Rows) (ts : List Test')
          → Each (TestDrawn bundle) xs
          → Good ρ rs ss ts ps
          → Good (add_rows ρ (tests_entries xs)) rs ss (ts ++ map (test_of digits_for) xs) ps
      unfolding add_rows tests_entries
      good_tests [] ρ ts none_left v = subst (λ ts. Good ρ rs ss ts ps) (sym (append-nil ts)) v
      good_tests (x ∷ xs) ρ ts (and_then d ds) v =
          rw (rows_append (test_entries x) (tests_entries xs) ρ)
          (subst (λ ts. Good (add_rows (add_rows ρ (test_entries x)) (tests_entries xs)) rs ss ts ps)
          (append_assoc ts (test_of digits_for x ∷ []) (map (test_of digits_for) xs))
          (good_tests xs (add_rows ρ (test_entries x)) (ts ++ (test_of digits_for x ∷ [])) ds (good_test x ρ d v)))

    spells_numbers :
        (xs : List Float) (ρ : Rows) {rs : Rules'} {ss : List Selector'} {ts : List Test'} {ps : Properties'}
        → Spells ρ rs ss ts ps
        → Spells (add_rows ρ (numbers_entries xs)) rs ss ts ps
    unfolding add_rows numbers_entries
    spells_numbers [] ρ v = v
    spells_numbers (x ∷ xs) ρ v = spells_numbers xs (add_row ρ (number_entry x)) (spells_number x ρ v)

    numbers_stored :
        (xs : List Float) (ρ : Rows)
        → ((add_rows ρ (numbers_entries xs)).numbers ≡ ρ.numbers ++ xs)
        × ((add_rows ρ (numbers_entries xs)).tally.number ≡ ρ.tally.number)
    unfolding add_rows numbers_entries
    numbers_stored [] ρ = (sym (append-nil ρ.numbers), refl)
    numbers_stored (x ∷ xs) ρ =
        let h = numbers_stored xs (add_row ρ (number_entry x)) in
        (h.0 ∙ append_assoc ρ.numbers (x ∷ []) xs, h.1)

    module _ {rs : Rules'} {ss : List Selector'} {ts : List Test'} where
      good_value_lem :
          (u : Value) (ρ : Rows) {ps : Properties'}
          → Good ρ rs ss ts ps
          → Spells (add_rows ρ (value_entries u)) rs ss ts ps × ReadyValue (add_rows ρ (value_entries u)) u
      unfolding add_rows
      good_value_lem (numbers xs) ρ v =
          let h = numbers_stored xs ρ in
          let l = v.0.even.numbers in
          let q = v.1 in (
            spells_numbers xs ρ v.0,
            ap₂ (λ (i : ℕ) (xs : List Float). drop i xs) h.1 h.0 ∙ drop_at ρ.numbers xs ρ.tally.number (omega arith),
          )
      good_value_lem (width_delta x) ρ v = (spells_number x ρ v.0, next_number x ρ v.0.even v.1)
      good_value_lem u ρ v = (v.0, tt)

      good_properties :
          (qs : List Property) (ρ : Rows) (ps : Properties')
          → Each (PropertyDrawn bundle) qs
          → Good ρ rs ss ts ps
          → Good (add_rows ρ (properties_entries qs)) rs ss ts (ps ++ map (property_of digits_for) qs)
      unfolding add_rows properties_entries
      good_properties [] ρ ps none_left v = subst (Good ρ rs ss ts) (sym (append-nil ps)) v
      good_properties (q ∷ qs) ρ ps (and_then d ds) v =
          let φ = add_rows ρ (value_entries q.value) in
          let w = good_value_lem q.value ρ v in
          rw (rows_append (value_entries q.value) (property_entry q ∷ properties_entries qs) ρ)
          (subst (Good (add_rows (add_row φ (property_entry q)) (properties_entries qs)) rs ss ts)
          (append_assoc ps (property_of digits_for q ∷ []) (map (property_of digits_for) qs))
          (good_properties qs (add_row φ (property_entry q)) (ps ++ (property_of digits_for q ∷ [])) ds
          (spells_property q φ d w.1 w.0, refl)))

    -- f, k: the rules with what comes behind the selectors
    good_selectors :
        (σs : List Selector) (es : List Entry) (rs : Rules') (f : List Selector' → Rules')
        → ((ρ : Rows) (ss : List Selector') → Good ρ rs ss [] [] → Good (add_rows ρ es) (f ss) [] [] [])
        → (ρ : Rows) (ss : List Selector')
        → Each (SelectorDrawn bundle) σs
        → Good ρ rs ss [] []
        → Good (add_rows ρ (selectors_entries σs es)) (f (ss ++ map (selector_of digits_for) σs)) [] [] []
    unfolding add_rows selectors_entries
    good_selectors [] es rs f k ρ ss none_left v =
        subst (λ ss. Good (add_rows ρ es) (f ss) [] [] []) (sym (append-nil ss)) (k ρ ss v)
    good_selectors (σ ∷ σs) es rs f k ρ ss (and_then d ds) v =
        let φ = add_rows ρ (tests_entries σ.tests) in
        let w = good_tests σ.tests ρ [] d.1 v in
        rw (rows_append (tests_entries σ.tests) (selector_entry σ ∷ selectors_entries σs es) ρ)
        (subst (λ ss. Good (add_rows (add_row φ (selector_entry σ)) (selectors_entries σs es)) (f ss) [] [] [])
        (append_assoc ss (selector_of digits_for σ ∷ []) (map (selector_of digits_for) σs))
        (good_selectors σs es rs f k (add_row φ (selector_entry σ)) (ss ++ (selector_of digits_for σ ∷ [])) ds
        (spells_selector σ φ d.0 w.0, w.1)))

    good_rule :
        (r : Rule) (ρ : Rows) (rs : Rules')
        → RuleDrawn bundle r
        → Good ρ rs [] [] []
        → Good (add_rows ρ (rule_entries r)) (rs ++ (rule_of digits_for r ∷ [])) [] [] []
    unfolding add_rows rule_entries
    good_rule r ρ rs d v =
        good_selectors r.selectors (properties_entries r.properties ++ (rule_entry ∷ [])) rs
        (λ ss. rs ++ (rule_from ss (map (property_of digits_for) r.properties) ∷ []))
        (λ φ ss w.
        let ψ = add_rows φ (properties_entries r.properties) in
        let u = good_properties r.properties φ [] d.1 w in
        rw (rows_append (properties_entries r.properties) (rule_entry ∷ []) φ) (spells_rule ψ u.0, u.1))
        ρ [] d.0 v

    good_reading :
        (js : Reading) (ρ : Rows) (rs : Rules')
        → Each (ItemDrawn bundle) js
        → Good ρ rs [] [] []
        → Good (add_rows ρ (entries_of js)) (rs ++ rules_of_reading digits_for js) [] [] []
    unfolding add_rows entries_of rules_of
    good_reading [] ρ rs none_left v = subst (λ rs. Good ρ rs [] [] []) (sym (append-nil rs)) v
    good_reading (rule_item r ∷ js) ρ rs (and_then d ds) v =
        rw (rows_append (rule_entries r) (entries_of js) ρ)
        (subst (λ rs. Good (add_rows (add_rows ρ (rule_entries r)) (entries_of js)) rs [] [] [])
        (append_assoc rs (rule_of digits_for r ∷ []) (rules_of_reading digits_for js))
        (good_reading js (add_rows ρ (rule_entries r)) (rs ++ (rule_of digits_for r ∷ [])) ds (good_rule r ρ rs d v)))
    good_reading (color_item n c ∷ js) ρ rs (and_then d ds) v = good_reading js ρ rs ds v

    spells_none : Spells no_rows [] [] [] []
    unfolding places
    spells_none =
        record {
          even = record { rules = refl; selectors = refl; tests = refl; properties = refl; numbers = refl };
          selector = omega arith;
          property = omega arith;
          test = omega arith;
          number = omega arith;
          rules = λ τ b. refl;
          selectors = λ τ b. refl;
          tests = λ τ b. refl;
          properties = λ τ b. refl;
        }

    -- nothing is left over
    pub reading_spells :
        (js : Reading)
        → Each (ItemDrawn bundle) js
        → Spells (add_rows no_rows (entries_of js)) (rules_of_reading digits_for js) [] [] []
    reading_spells js d = (good_reading js no_rows [] d (spells_none, refl)).0
