-- How many entries a reading stores in each table, as sums over its rules.
use Rattle.std.specs.Prelude.{ℕ, ◌+◌, ◌≤◌, List, [], ◌∷◌, length}
use Rattle.grammar.specs.Reading.{plain, digits, Test, unary, text, numeric, Value, numbers, width_delta, Rule, Reading, rules_of, colors_after}

unfoldable pub total : {A : Type 0} → (A → ℕ) → List A → ℕ
total f [] = 0
total f (x ∷ xs) = f x + total f xs

-- numbers that a test and a value store
abbrev pub test_numbers : Test → ℕ
test_numbers (unary o a) = 0
test_numbers (text o a (plain b)) = 0
test_numbers (text o a (digits x)) = 1
test_numbers (numeric o a x) = 1

abbrev pub value_numbers : Value → ℕ
value_numbers (numbers xs) = length xs
value_numbers (width_delta x) = 1
value_numbers v = 0

abbrev pub rule_selectors : Rule → ℕ
rule_selectors r = length r.selectors

abbrev pub rule_tests : Rule → ℕ
rule_tests r = total (λ σ. length σ.tests) r.selectors

abbrev pub rule_properties : Rule → ℕ
rule_properties r = length r.properties

abbrev pub rule_numbers : Rule → ℕ
rule_numbers r = total (λ σ. total test_numbers σ.tests) r.selectors + total (λ p. value_numbers p.value) r.properties

abbrev pub stored_rules : Reading → ℕ
stored_rules js = length (rules_of js)

abbrev pub stored_selectors : Reading → ℕ
stored_selectors js = total rule_selectors (rules_of js)

abbrev pub stored_tests : Reading → ℕ
stored_tests js = total rule_tests (rules_of js)

abbrev pub stored_properties : Reading → ℕ
stored_properties js = total rule_properties (rules_of js)

abbrev pub stored_numbers : Reading → ℕ
stored_numbers js = total rule_numbers (rules_of js)

-- one for each name
abbrev pub stored_colors : Reading → ℕ
stored_colors js = length (colors_after [] js)

-- the six tables are large enough
pub record Enough (capacity : ℕ → ℕ) (js : Reading) : Type 0 where
  pub rules : stored_rules js ≤ capacity 1
  pub selectors : stored_selectors js ≤ capacity 2
  pub tests : stored_tests js ≤ capacity 3
  pub properties : stored_properties js ≤ capacity 4
  pub numbers : stored_numbers js ≤ capacity 5
  pub colors : stored_colors js ≤ capacity 6
