-- What a load leaves in the six tables: the entries of the reading in words, and zeros to the end.
use Rattle.std.specs.Prelude.{ℕ, ◌+◌, List, [], ◌∷◌, ◌++◌, cond, eqb, Float, length}
use Rattle.base.specs.Table.{zero_float, capacity_of, padded}
use Rattle.entries.specs.Words.{rule_words, selector_words, color_words}
use Rattle.grammar.specs.Reading.{Colors}
use Rattle.grammar.specs.Input.{Entry, rule_entry, selector_entry, test_entry, property_entry, number_entry, color_entry}
use Rattle.grammar.specs.Capacity.{Tables}
use Rattle.keep.specs.Lent.{Lent, lent, range, none_yet, type_number, level_in, layer_in, test_row, value_shown, value_row, fresh_numbers, one_number, one_test, one_property, one_selector, one_rule, one_color}
use Rattle.input.specs.Text.{range_of}
use Rattle.keep.specs.declared.Store.{Store}
use Rattle.keep.specs.declared.Tally.{Tally}

-- how many elements each table has
pub record Lengths : Type 0 where
  pub rules : ℕ
  pub selectors : ℕ
  pub tests : ℕ
  pub properties : ℕ
  pub numbers : ℕ
  pub colors : ℕ

abbrev pub lengths : ℕ → ℕ → ℕ → ℕ → ℕ → ℕ → Lengths
lengths rs ss ts ps xs cs = record { rules = rs; selectors = ss; tests = ts; properties = ps; numbers = xs; colors = cs }

-- of a store
abbrev pub lengths_by : Store → Lengths
lengths_by s =
    lengths (length s.rules.now) (length s.selectors.now) (length s.tests.now) (length s.properties.now) (length s.numbers.now)
    (length s.colors.now)

-- how many entries table k takes
abbrev pub capacities : Lengths → ℕ → ℕ
capacities l k =
    cond (eqb k 1) (capacity_of 8 l.rules)
    (cond (eqb k 2) (capacity_of 8 l.selectors)
    (cond (eqb k 3) (capacity_of 8 l.tests)
    (cond (eqb k 4) (capacity_of 8 l.properties)
    (cond (eqb k 5) (capacity_of 1 l.numbers)
    (cond (eqb k 6) (capacity_of 8 l.colors) 0)))))

-- the words of the first five tables, and the counts
pub record Rows : Type 0 where
  pub tally : Tally
  pub rules : List ℕ
  pub selectors : List ℕ
  pub tests : List ℕ
  pub properties : List ℕ
  pub numbers : List Float

abbrev pub rows : Tally → List ℕ → List ℕ → List ℕ → List ℕ → List Float → Rows
rows n rs ss ts ps xs = record { tally = n; rules = rs; selectors = ss; tests = ts; properties = ps; numbers = xs }

abbrev pub no_rows : Rows
no_rows = rows none_yet [] [] [] [] []

-- a rule takes the selectors and properties that no rule has, a selector the tests, a test and a property the numbers
abbrev pub add_row : Rows → Entry → Rows
add_row ρ rule_entry =
    let n = ρ.tally in
    rows (one_rule n (n.rules + 1)) (ρ.rules ++ rule_words (range n.selector n.selectors) (range n.property n.properties))
    ρ.selectors ρ.tests ρ.properties ρ.numbers
add_row ρ (selector_entry σ) =
    let n = ρ.tally in
    rows (one_selector n (n.selectors + 1)) ρ.rules
    (ρ.selectors ++ selector_words (type_number σ.object_type) (level_in σ.min_zoom) (level_in σ.max_zoom) (range n.test n.tests) (layer_in σ.layer_id))
    ρ.tests ρ.properties ρ.numbers
add_row ρ (test_entry x) =
    let n = ρ.tally in
    rows (one_test n (n.tests + 1)) ρ.rules ρ.selectors (ρ.tests ++ test_row x n.number) ρ.properties ρ.numbers
add_row ρ (property_entry p) =
    let n = ρ.tally in
    rows (one_property n (n.properties + 1)) ρ.rules ρ.selectors ρ.tests
    (ρ.properties ++ value_row (range_of p.name) (value_shown p.value (fresh_numbers n)) n.number) ρ.numbers
add_row ρ (number_entry x) =
    let n = ρ.tally in
    rows (one_number n (n.numbers + 1)) ρ.rules ρ.selectors ρ.tests ρ.properties (ρ.numbers ++ (x ∷ []))
add_row ρ (color_entry a c) = ρ

unfoldable pub add_rows : Rows → List Entry → Rows
add_rows ρ [] = ρ
add_rows ρ (e ∷ es) = add_rows (add_row ρ e) es

abbrev pub rows_of : Tables → Rows
rows_of υ = add_rows no_rows υ.entries

unfoldable pub color_rows : Colors → List ℕ
color_rows [] = []
color_rows (d ∷ Γ) = color_words (range_of d.name) d.color ++ color_rows Γ

-- the counts of all six tables
abbrev pub tally_of : Tables → Tally
tally_of υ = one_color (rows_of υ).tally (length υ.colors)

-- the six tables, of these lengths
abbrev pub lent_of : Lengths → Tables → Lent
lent_of l υ =
    let ρ = rows_of υ in
    lent (tally_of υ)
    (padded 0 l.rules ρ.rules)
    (padded 0 l.selectors ρ.selectors)
    (padded 0 l.tests ρ.tests)
    (padded 0 l.properties ρ.properties)
    (padded zero_float l.numbers ρ.numbers)
    (padded 0 l.colors (color_rows υ.colors))
