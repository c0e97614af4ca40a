-- The rows that entries fill: eight words each, and as many as there are entries of their table.
use Prim.Native.Nat.{ℕ, ◌+◌, ◌*◌}
use native.Mathlib.Omega.{arith}
use mathlib.Core.Path.{◌≡◌, refl, ◌∙◌, ap}
use mathlib.Core.List.{List, [], ◌∷◌, ◌++◌}
use lib.ListN.{length, length-append}
use lib.Ieee.{Float}
use Rattle.base.specs.declared.Range.{Range}
use Rattle.table.specs.declared.Name.{Name}
use Rattle.table.specs.declared.Name.TheVariants.{Plain, Joined}
use Rattle.table.specs.declared.PropertyValue.{PropertyValue}
use Rattle.table.specs.declared.PropertyValue.TheVariants.{Identifier}
use Rattle.grammar.specs.Reading.{plain, Test, text}
use Rattle.grammar.specs.Input.{Entry, rule_entry, selector_entry, test_entry, property_entry, number_entry, color_entry}
use Rattle.grammar.specs.Entries.{count}
use Rattle.grammar.specs.Capacity.{Tables, add, add_all}
use Rattle.keep.specs.Encode.{Rows, no_rows, add_row, add_rows, rows_of}
use Rattle.keep.specs.Lent.{test_row, value_shown, value_row, word_row, fresh_numbers}
use Rattle.input.specs.Text.{range_of}

-- as many elements as the counts say
pub record Even (ρ : Rows) : Type 0 where
  pub rules : length ρ.rules ≡ ρ.tally.rules * 8
  pub selectors : length ρ.selectors ≡ ρ.tally.selectors * 8
  pub tests : length ρ.tests ≡ ρ.tally.tests * 8
  pub properties : length ρ.properties ≡ ρ.tally.properties * 8
  pub numbers : length ρ.numbers ≡ ρ.tally.numbers * 1

pub test_eight : (x : Test) (n : ℕ) → length (test_row x n) ≡ 8
test_eight (text o a (plain b)) n = refl
test_eight x n = refl

word_eight : (r : Range) (a : Name) → length (word_row r a) ≡ 8
word_eight r (Plain a) = refl
word_eight r (Joined a b) = refl

pub value_eight : (r : Range) (v : PropertyValue) (n : ℕ) → length (value_row r v n) ≡ 8
value_eight r (Identifier a) n = word_eight r a
value_eight r v n = refl

longer : (rs vs : List ℕ) (n : ℕ) → length rs ≡ n * 8 → length vs ≡ 8 → length (rs ++ vs) ≡ (n + 1) * 8
longer rs vs n p q = let h = length-append rs vs in omega arith

one_longer : (xs : List Float) (x : Float) (n : ℕ) → length xs ≡ n * 1 → length (xs ++ (x ∷ [])) ≡ (n + 1) * 1
one_longer xs x n p = let h = length-append xs (x ∷ []) in omega arith

pub even_row : (e : Entry) (ρ : Rows) → Even ρ → Even (add_row ρ e)
even_row rule_entry ρ v =
    record {
      rules = longer ρ.rules _ ρ.tally.rules v.rules refl;
      selectors = v.selectors;
      tests = v.tests;
      properties = v.properties;
      numbers = v.numbers;
    }
even_row (selector_entry σ) ρ v =
    record {
      rules = v.rules;
      selectors = longer ρ.selectors _ ρ.tally.selectors v.selectors refl;
      tests = v.tests;
      properties = v.properties;
      numbers = v.numbers;
    }
even_row (test_entry x) ρ v =
    record {
      rules = v.rules;
      selectors = v.selectors;
      tests = longer ρ.tests _ ρ.tally.tests v.tests (test_eight x _);
      properties = v.properties;
      numbers = v.numbers;
    }
even_row (property_entry p) ρ v =
    let n = ρ.tally in
    let a = range_of p.name in
    let u = value_shown p.value (fresh_numbers n) in
    record {
      rules = v.rules;
      selectors = v.selectors;
      tests = v.tests;
      properties = longer ρ.properties (value_row a u n.number) n.properties v.properties (value_eight a u n.number);
      numbers = v.numbers;
    }
even_row (number_entry x) ρ v =
    record {
      rules = v.rules;
      selectors = v.selectors;
      tests = v.tests;
      properties = v.properties;
      numbers = one_longer ρ.numbers x ρ.tally.numbers v.numbers;
    }
even_row (color_entry a c) ρ v = v

even_rows : (es : List Entry) (ρ : Rows) → Even ρ → Even (add_rows ρ es)
unfolding add_rows
even_rows [] ρ v = v
even_rows (e ∷ es) ρ v = even_rows es (add_row ρ e) (even_row e ρ v)

pub rows_even : (υ : Tables) → Even (rows_of υ)
rows_even υ = even_rows υ.entries no_rows (record { rules = refl; selectors = refl; tests = refl; properties = refl; numbers = refl })

-- the counts before some entries, and behind them
pub record Counted (ρ φ : Rows) (es : List Entry) : Type 0 where
  pub rules : φ.tally.rules ≡ ρ.tally.rules + count 1 es
  pub selectors : φ.tally.selectors ≡ ρ.tally.selectors + count 2 es
  pub tests : φ.tally.tests ≡ ρ.tally.tests + count 3 es
  pub properties : φ.tally.properties ≡ ρ.tally.properties + count 4 es
  pub numbers : φ.tally.numbers ≡ ρ.tally.numbers + count 5 es

counted_none : (ρ : Rows) → Counted ρ ρ []
unfolding count
counted_none ρ =
    record
    { rules = omega arith; selectors = omega arith; tests = omega arith; properties = omega arith; numbers = omega arith }

counted_row : (e : Entry) (ρ : Rows) → Counted ρ (add_row ρ e) (e ∷ [])
unfolding count
counted_row rule_entry ρ =
    record { rules = omega arith; selectors = omega arith; tests = omega arith; properties = omega arith; numbers = omega arith }
counted_row e ρ =
    record { rules = omega arith; selectors = omega arith; tests = omega arith; properties = omega arith; numbers = omega arith }

counted_then : (e : Entry) (es : List Entry) (ρ φ ψ : Rows) → Counted ρ φ (e ∷ []) → Counted φ ψ es → Counted ρ ψ (e ∷ es)
unfolding count
counted_then e es ρ φ ψ p q =
    record {
      rules = omega (arith, p.rules, q.rules);
      selectors = omega (arith, p.selectors, q.selectors);
      tests = omega (arith, p.tests, q.tests);
      properties = omega (arith, p.properties, q.properties);
      numbers = omega (arith, p.numbers, q.numbers);
    }

counted_rows : (es : List Entry) (ρ : Rows) → Counted ρ (add_rows ρ es) es
unfolding add_rows
counted_rows [] ρ = counted_none ρ
counted_rows (e ∷ es) ρ = counted_then e es ρ (add_row ρ e) (add_rows (add_row ρ e) es) (counted_row e ρ) (counted_rows es (add_row ρ e))

-- the counts are those of the entries
pub rows_counted : (υ : Tables) → Counted no_rows (rows_of υ) υ.entries
rows_counted υ = counted_rows υ.entries no_rows

-- one entry more is one row more
pub rows_last : (es : List Entry) (e : Entry) (ρ : Rows) → add_rows ρ (es ++ (e ∷ [])) ≡ add_row (add_rows ρ es) e
unfolding add_rows
rows_last [] e ρ = refl
rows_last (x ∷ es) e ρ = rows_last es e (add_row ρ x)

pub rows_append : (es fs : List Entry) (ρ : Rows) → add_rows ρ (es ++ fs) ≡ add_rows (add_rows ρ es) fs
unfolding add_rows
rows_append [] fs ρ = refl
rows_append (e ∷ es) fs ρ = rows_append es fs (add_row ρ e)

-- a colour fills no row
pub rows_all : (es : List Entry) (υ : Tables) → rows_of (add_all υ es) ≡ add_rows (rows_of υ) es
unfolding add_rows add_all add
rows_all [] υ = refl
rows_all (rule_entry ∷ es) υ = rows_all es (add υ rule_entry) ∙ ap (λ ρ. add_rows ρ es) (rows_last υ.entries rule_entry no_rows)
rows_all (selector_entry σ ∷ es) υ =
    rows_all es (add υ (selector_entry σ)) ∙ ap (λ ρ. add_rows ρ es) (rows_last υ.entries (selector_entry σ) no_rows)
rows_all (test_entry x ∷ es) υ = rows_all es (add υ (test_entry x)) ∙ ap (λ ρ. add_rows ρ es) (rows_last υ.entries (test_entry x) no_rows)
rows_all (property_entry p ∷ es) υ =
    rows_all es (add υ (property_entry p)) ∙ ap (λ ρ. add_rows ρ es) (rows_last υ.entries (property_entry p) no_rows)
rows_all (number_entry x ∷ es) υ =
    rows_all es (add υ (number_entry x)) ∙ ap (λ ρ. add_rows ρ es) (rows_last υ.entries (number_entry x) no_rows)
rows_all (color_entry a c ∷ es) υ = rows_all es (add υ (color_entry a c))
