-- What a reading stores: its entries in order, and how many go to each table.
use Rattle.std.specs.Prelude.{ℕ, ◌+◌, Bool, true, false, List, [], ◌∷◌, ◌++◌, eqb, Float}
use Rattle.grammar.specs.Reading.{plain, digits, Test, unary, text, numeric, Value, numbers, width_delta, Selector, Property, Rule, rule_item, color_item, Reading, Colors, define}
use Rattle.grammar.specs.Input.{Entry, rule_entry, selector_entry, test_entry, property_entry, number_entry, color_entry, table_of}

abbrev pub test_entries : Test → List Entry
test_entries (unary o a) = test_entry (unary o a) ∷ []
test_entries (text o a (plain b)) = test_entry (text o a (plain b)) ∷ []
test_entries (text o a (digits x)) = number_entry x ∷ test_entry (text o a (digits x)) ∷ []
test_entries (numeric o a x) = number_entry x ∷ test_entry (numeric o a x) ∷ []

unfoldable pub tests_entries : List Test → List Entry
tests_entries [] = []
tests_entries (t ∷ ts) = test_entries t ++ tests_entries ts

unfoldable pub numbers_entries : List Float → List Entry
numbers_entries [] = []
numbers_entries (x ∷ xs) = number_entry x ∷ numbers_entries xs

abbrev pub value_entries : Value → List Entry
value_entries (numbers xs) = numbers_entries xs
value_entries (width_delta x) = number_entry x ∷ []
value_entries v = []

unfoldable pub properties_entries : List Property → List Entry
properties_entries [] = []
properties_entries (p ∷ ps) = value_entries p.value ++ (property_entry p ∷ properties_entries ps)

-- those of the selectors, and then es
unfoldable pub selectors_entries : List Selector → List Entry → List Entry
selectors_entries [] es = es
selectors_entries (σ ∷ ss) es = tests_entries σ.tests ++ (selector_entry σ ∷ selectors_entries ss es)

unfoldable pub rule_entries : Rule → List Entry
rule_entries r = selectors_entries r.selectors (properties_entries r.properties ++ (rule_entry ∷ []))

unfoldable pub entries_of : Reading → List Entry
entries_of [] = []
entries_of (rule_item r ∷ js) = rule_entries r ++ entries_of js
entries_of (color_item n c ∷ js) = color_entry n c ∷ entries_of js

abbrev pub one : Bool → ℕ
one true = 1
one false = 0

-- how many of the entries go to table k
unfoldable pub count : ℕ → List Entry → ℕ
count k [] = 0
count k (e ∷ es) = one (eqb (table_of e) k) + count k es

-- the colours after an entry, and after some
abbrev pub tint : Colors → Entry → Colors
tint Γ (color_entry n c) = define Γ n c
tint Γ e = Γ

unfoldable pub tints : Colors → List Entry → Colors
tints Γ [] = Γ
tints Γ (e ∷ es) = tints (tint Γ e) es
