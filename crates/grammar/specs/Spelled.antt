-- The rules that entries spell, read off in the order of storing: the tables hold the rules of the reading that filled them.
use Rattle.std.specs.Prelude.{◌≡◌, List, [], ◌∷◌, ◌++◌}
use Rattle.grammar.specs.Reading.{Selector, Property, Rule, rule, Reading, rules_of}
use Rattle.grammar.specs.Input.{Entry, rule_entry, selector_entry, test_entry, property_entry, number_entry, color_entry}
use Rattle.grammar.specs.Capacity.{tables_of}

-- ss and ps: the selectors and properties since the last rule
unfoldable pub rules_from : List Selector → List Property → List Entry → List Rule
rules_from ss ps [] = []
rules_from ss ps (rule_entry ∷ es) = rule ss ps ∷ rules_from [] [] es
rules_from ss ps (selector_entry σ ∷ es) = rules_from (ss ++ (σ ∷ [])) ps es
rules_from ss ps (test_entry t ∷ es) = rules_from ss ps es
rules_from ss ps (property_entry p ∷ es) = rules_from ss (ps ++ (p ∷ [])) es
rules_from ss ps (number_entry x ∷ es) = rules_from ss ps es
rules_from ss ps (color_entry n c ∷ es) = rules_from ss ps es

abbrev pub Spelled : Reading → Type 0
Spelled js = rules_from [] [] (tables_of js).entries ≡ rules_of js
