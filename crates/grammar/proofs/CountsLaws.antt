-- The sums are what is stored: a reading is within the capacities exactly if the six tables are large enough.
use Rattle.std.specs.Prelude.{ℕ, zero, suc, ◌+◌, ◌≤◌, ◌<◌, ◌≡◌, refl, Bool, true, false, eqb, Float}
use Rattle.std.proofs.Common.{arith, ne_eqb}
use mathlib.Core.List.{List, [], ◌∷◌, ◌++◌}
use Rattle.std.proofs.Math.ListN.{length}
use Rattle.grammar.specs.Reading.{plain, digits, Test, unary, text, numeric, Value, numbers, width_delta, Selector, Property, Rule, rule_item, color_item, Reading, rules_of}
use Rattle.grammar.specs.Input.{Entry, rule_entry, selector_entry, property_entry}
use Rattle.grammar.specs.Entries.{test_entries, tests_entries, numbers_entries, value_entries, properties_entries, selectors_entries, rule_entries, entries_of, one, count}
use Rattle.grammar.specs.Capacity.{stores, Bounded}
use Rattle.grammar.specs.Counts.{total, test_numbers, value_numbers, rule_selectors, rule_tests, rule_properties, rule_numbers, stored_rules, stored_selectors, stored_tests, stored_properties, stored_numbers, stored_colors, Enough}

-- n, or nothing
abbrev gate : Bool → ℕ → ℕ
gate true n = n
gate false n = 0

gate_add : (b : Bool) (m n : ℕ) → gate b (m + n) ≡ gate b m + gate b n
gate_add true m n = refl
gate_add false m n = omega arith

gate_suc : (b : Bool) (n : ℕ) → gate b (suc n) ≡ one b + gate b n
gate_suc true n = omega arith
gate_suc false n = omega arith

gate_zero : (b : Bool) → gate b 0 ≡ 0
gate_zero true = refl
gate_zero false = refl

gate_one : (b : Bool) → gate b 1 ≡ one b
gate_one true = refl
gate_one false = refl

count_append : (k : ℕ) (es fs : List Entry) → count k (es ++ fs) ≡ count k es + count k fs
unfolding count
count_append k [] fs = omega arith
count_append k (e ∷ es) fs = let h = count_append k es fs in omega (arith, h)

module _ (k : ℕ) where
  test_counts : (t : Test) → count k (test_entries t) ≡ one (eqb 3 k) + gate (eqb 5 k) (test_numbers t)
  unfolding count
  test_counts (unary o a) = let z = gate_zero (eqb 5 k) in omega (arith, z)
  test_counts (text o a (plain b)) = let z = gate_zero (eqb 5 k) in omega (arith, z)
  test_counts (text o a (digits x)) = let z = gate_one (eqb 5 k) in omega (arith, z)
  test_counts (numeric o a x) = let z = gate_one (eqb 5 k) in omega (arith, z)

  tests_count : (ts : List Test) → count k (tests_entries ts) ≡ gate (eqb 3 k) (length ts) + gate (eqb 5 k) (total test_numbers ts)
  unfolding count tests_entries total
  tests_count [] = let z = gate_zero (eqb 5 k) in let y = gate_zero (eqb 3 k) in omega (arith, z, y)
  tests_count (t ∷ ts) =
      let a = count_append k (test_entries t) (tests_entries ts) in
      let b = test_counts t in
      let c = tests_count ts in
      let d = gate_suc (eqb 3 k) (length ts) in
      let e = gate_add (eqb 5 k) (test_numbers t) (total test_numbers ts) in
      omega (arith, a, b, c, d, e)

  numbers_count : (xs : List Float) → count k (numbers_entries xs) ≡ gate (eqb 5 k) (length xs)
  unfolding count numbers_entries
  numbers_count [] = let z = gate_zero (eqb 5 k) in omega (arith, z)
  numbers_count (x ∷ xs) = let a = numbers_count xs in let d = gate_suc (eqb 5 k) (length xs) in omega (arith, a, d)

  value_counts : (v : Value) → count k (value_entries v) ≡ gate (eqb 5 k) (value_numbers v)
  unfolding count
  value_counts (numbers xs) = numbers_count xs
  value_counts (width_delta x) = let z = gate_one (eqb 5 k) in omega (arith, z)
  value_counts v = let z = gate_zero (eqb 5 k) in omega (arith, z)

  properties_count :
      (ps : List Property)
      → count k (properties_entries ps) ≡ gate (eqb 4 k) (length ps) + gate (eqb 5 k) (total (λ p. value_numbers p.value) ps)
  unfolding count properties_entries total
  properties_count [] = let z = gate_zero (eqb 5 k) in let y = gate_zero (eqb 4 k) in omega (arith, z, y)
  properties_count (p ∷ ps) =
      let b = count_append k (value_entries p.value) (property_entry p ∷ properties_entries ps) in
      let v = value_counts p.value in
      let c = properties_count ps in
      let d = gate_suc (eqb 4 k) (length ps) in
      let e = gate_add (eqb 5 k) (value_numbers p.value) (total (λ p. value_numbers p.value) ps) in
      omega (arith, b, v, c, d, e)

  selectors_count :
      (ss : List Selector) (es : List Entry)
      → count k (selectors_entries ss es) ≡ gate (eqb 2 k) (length ss) + gate (eqb 3 k) (total (λ σ. length σ.tests) ss) + gate (eqb 5 k) (total (λ σ. total test_numbers σ.tests) ss) + count k es
  unfolding count selectors_entries total
  selectors_count [] es =
      let z = gate_zero (eqb 5 k) in
      let y = gate_zero (eqb 3 k) in let x = gate_zero (eqb 2 k) in omega (arith, z, y, x)
  selectors_count (σ ∷ ss) es =
      let b = count_append k (tests_entries σ.tests) (selector_entry σ ∷ selectors_entries ss es) in
      let v = tests_count σ.tests in
      let c = selectors_count ss es in
      let d = gate_suc (eqb 2 k) (length ss) in
      let e = gate_add (eqb 3 k) (length σ.tests) (total (λ σ. length σ.tests) ss) in
      let f = gate_add (eqb 5 k) (total test_numbers σ.tests) (total (λ σ. total test_numbers σ.tests) ss) in
      omega (arith, b, v, c, d, e, f)

  rule_counts :
      (r : Rule)
      → count k (rule_entries r) ≡ one (eqb 1 k) + gate (eqb 2 k) (rule_selectors r) + gate (eqb 3 k) (rule_tests r) + gate (eqb 4 k) (rule_properties r) + gate (eqb 5 k) (rule_numbers r)
  unfolding count rule_entries
  rule_counts r =
      let a = selectors_count r.selectors (properties_entries r.properties ++ (rule_entry ∷ [])) in
      let b = count_append k (properties_entries r.properties) (rule_entry ∷ []) in
      let c = properties_count r.properties in
      let d =
      gate_add (eqb 5 k) (total (λ σ. total test_numbers σ.tests) r.selectors)
      (total (λ p. value_numbers p.value) r.properties) in
      omega (arith, a, b, c, d)

  reading_counts :
      (js : Reading)
      → eqb 6 k ≡ false
      → count k (entries_of js) ≡ gate (eqb 1 k) (stored_rules js) + gate (eqb 2 k) (stored_selectors js) + gate (eqb 3 k) (stored_tests js) + gate (eqb 4 k) (stored_properties js) + gate (eqb 5 k) (stored_numbers js)
  unfolding count entries_of rules_of total
  reading_counts [] n =
      let v =
      gate_zero (eqb 1 k) in let w = gate_zero (eqb 2 k) in let x = gate_zero (eqb 3 k) in let y = gate_zero
      (eqb 4 k) in let z = gate_zero (eqb 5 k) in
      omega (arith, v, w, x, y, z)
  reading_counts (rule_item r ∷ js) n =
      let a = count_append k (rule_entries r) (entries_of js) in
      let b = rule_counts r in
      let c = reading_counts js n in
      let d = gate_suc (eqb 1 k) (stored_rules js) in
      let e = gate_add (eqb 2 k) (rule_selectors r) (stored_selectors js) in
      let f = gate_add (eqb 3 k) (rule_tests r) (stored_tests js) in
      let g = gate_add (eqb 4 k) (rule_properties r) (stored_properties js) in
      let h = gate_add (eqb 5 k) (rule_numbers r) (stored_numbers js) in
      omega (arith, a, b, c, d, e, f, g, h)
  reading_counts (color_item x c ∷ js) n = rw n (let h = reading_counts js n in omega (arith, h))

module _ (js : Reading) where
  pub stores_rules : stores 1 js ≡ stored_rules js
  stores_rules = let h = reading_counts 1 js refl in omega (arith, h)

  pub stores_selectors : stores 2 js ≡ stored_selectors js
  stores_selectors = let h = reading_counts 2 js refl in omega (arith, h)

  pub stores_tests : stores 3 js ≡ stored_tests js
  stores_tests = let h = reading_counts 3 js refl in omega (arith, h)

  pub stores_properties : stores 4 js ≡ stored_properties js
  stores_properties = let h = reading_counts 4 js refl in omega (arith, h)

  pub stores_numbers : stores 5 js ≡ stored_numbers js
  stores_numbers = let h = reading_counts 5 js refl in omega (arith, h)

  pub stores_colors : stores 6 js ≡ stored_colors js
  stores_colors = refl

  -- there is no seventh table
  stores_none : (m : ℕ) → 6 < m → stores m js ≡ 0
  stores_none m l =
      let other : (j : ℕ) → j ≤ 6 → eqb j m ≡ false = λ j y. ne_eqb j m (λ z. omega (arith, l, y, z)) in
      let n = other 6 (omega arith) in
      let h =
      rw (
        other 1 (omega arith),
        other 2 (omega arith),
        other 3 (omega arith),
        other 4 (omega arith),
        other 5 (omega arith),
      ) at (reading_counts m js n) in
      rw n (omega (arith, h))

  module _ (capacity : ℕ → ℕ) where
    pub bounded_enough : Bounded capacity js → Enough capacity js
    bounded_enough b =
        record {
          rules = let h = b 1 in let e = stores_rules in omega (arith, h, e);
          selectors = let h = b 2 in let e = stores_selectors in omega (arith, h, e);
          tests = let h = b 3 in let e = stores_tests in omega (arith, h, e);
          properties = let h = b 4 in let e = stores_properties in omega (arith, h, e);
          numbers = let h = b 5 in let e = stores_numbers in omega (arith, h, e);
          colors = b 6;
        }

    pub enough_bounded : Enough capacity js → Bounded capacity js
    enough_bounded e zero = let h = reading_counts 0 js refl in omega (arith, h)
    enough_bounded e (suc zero) = let h = stores_rules in let f = e.rules in omega (arith, h, f)
    enough_bounded e (suc (suc zero)) = let h = stores_selectors in let f = e.selectors in omega (arith, h, f)
    enough_bounded e (suc (suc (suc zero))) = let h = stores_tests in let f = e.tests in omega (arith, h, f)
    enough_bounded e (suc (suc (suc (suc zero)))) = let h = stores_properties in let f = e.properties in omega (arith, h, f)
    enough_bounded e (suc (suc (suc (suc (suc zero))))) = let h = stores_numbers in let f = e.numbers in omega (arith, h, f)
    enough_bounded e (suc (suc (suc (suc (suc (suc zero)))))) = e.colors
    enough_bounded e (suc (suc (suc (suc (suc (suc (suc k))))))) =
        let h = stores_none (suc (suc (suc (suc (suc (suc (suc k))))))) (omega arith) in omega (arith, h)
