-- What handed tables must be, or they are refused with 22: known kinds, ranges that stay in the bundle or their table, and whole
-- numbers in `=` and `!=` tests; every word that an entry does not use is 0. docs/TABLES.md has the words.
use Rattle.std.specs.Prelude.{ℕ, zero, suc, ◌+◌, Bool, true, false, not, List, eqb, leb, Float, length, get_or}
use Rattle.base.specs.Choice.{pick}
use Rattle.base.specs.Table.{zero_float, capacity_of}
use Rattle.sheet.specs.Digits.{is_whole}
use Rattle.table.specs.Value.{word_at}
use Rattle.valid.specs.declared.Counts.{Counts}

-- a range in order and within so many
unfoldable pub span_in : ℕ → ℕ → ℕ → Bool
span_in from to n = pick (leb from to) (leb to n) false

-- a mark, 0 or 1, and behind it a range if it is 1, else zeros
unfoldable pub marked_span : List ℕ → ℕ → ℕ → ℕ → Bool
marked_span t i j n =
    pick (eqb (word_at t i j) 1) (span_in (word_at t i (j + 1)) (word_at t i (j + 1 + 1)) n)
    (pick (not (eqb (word_at t i j) 0)) false
    (pick (eqb (word_at t i (j + 1)) 0) (eqb (word_at t i (j + 2)) 0) false))

-- rule i of a table, where there are so many selectors and properties
unfoldable pub rule_sound : List ℕ → ℕ → ℕ → ℕ → Bool
rule_sound t selectors properties i =
    pick (not (eqb (word_at t i 0) 1)) false
    (pick (span_in (word_at t i 1) (word_at t i 2) selectors)
    (pick (span_in (word_at t i 3) (word_at t i 4) properties)
    (pick (eqb (word_at t i 5) 0) (pick (eqb (word_at t i 6) 0) (eqb (word_at t i 7) 0) false) false) false) false)

-- selector i, where there are so many tests, and bytes in the bundle
unfoldable pub selector_sound : List ℕ → ℕ → ℕ → ℕ → Bool
selector_sound t tests bundle i =
    pick (span_in 1 (word_at t i 0) 6)
    (pick (span_in (word_at t i 3) (word_at t i 4) tests) (marked_span t i 5 bundle) false) false

-- the head of a test and of a property: one of so many kinds, and the range of a key or name
unfoldable pub named_entry : List ℕ → ℕ → ℕ → ℕ → Bool
named_entry t most bundle i = pick (span_in 1 (word_at t i 0) most) (span_in (word_at t i 1) (word_at t i 2) bundle) false

unfoldable pub two_zeros : List ℕ → ℕ → ℕ → Bool
two_zeros t i j = pick (eqb (word_at t i j) 0) (eqb (word_at t i (j + 1)) 0) false

-- the number of a test: a place in its table; a whole number for `=` and `!=`, the kinds 7 and 8
unfoldable pub number_value : List ℕ → List Float → ℕ → ℕ → ℕ → Bool
number_value t xs kind numbers i =
    pick (leb numbers (word_at t i 6)) false
    (pick (eqb (word_at t i 7) 0) (pick (leb kind 8) (is_whole (get_or xs (word_at t i 6) zero_float)) true) false)

-- by the kind: no value up to 4, a range of the bundle for 5 and 6, else a number
unfoldable pub test_value : List ℕ → List Float → ℕ → ℕ → ℕ → Bool
test_value t xs numbers bundle i =
    pick (leb (word_at t i 0) 4) (two_zeros t i 6)
    (pick (leb (word_at t i 0) 6) (span_in (word_at t i 6) (word_at t i 7) bundle) (number_value t xs (word_at t i 0) numbers i))

-- test i, where there are so many numbers, and bytes in the bundle
unfoldable pub test_sound : List ℕ → List Float → ℕ → ℕ → ℕ → Bool
test_sound t xs numbers bundle i =
    pick (named_entry t 12 bundle i) (pick (marked_span t i 3 bundle) (test_value t xs numbers bundle i) false) false

unfoldable pub one_span : List ℕ → ℕ → ℕ → Bool
one_span t n i = pick (span_in (word_at t i 3) (word_at t i 4) n) (two_zeros t i 5) false

unfoldable pub two_spans : List ℕ → ℕ → ℕ → Bool
two_spans t n i = pick (span_in (word_at t i 3) (word_at t i 4) n) (span_in (word_at t i 5) (word_at t i 6) n) false

unfoldable pub color_words : List ℕ → ℕ → Bool
color_words t i =
    pick (leb (word_at t i 3) 255)
    (pick (leb (word_at t i 4) 255) (pick (leb (word_at t i 5) 255) (eqb (word_at t i 6) 0) false) false) false

unfoldable pub delta_words : List ℕ → ℕ → ℕ → Bool
delta_words t numbers i = pick (leb numbers (word_at t i 3)) false (pick (eqb (word_at t i 4) 0) (two_zeros t i 5) false)

-- by the kind: two ranges, a colour, numbers, a width delta, else one range of the bundle
unfoldable pub value_sound : List ℕ → ℕ → ℕ → ℕ → Bool
value_sound t numbers bundle i =
    pick (eqb (word_at t i 0) 2) (two_spans t bundle i)
    (pick (eqb (word_at t i 0) 4) (color_words t i)
    (pick (eqb (word_at t i 0) 5) (one_span t numbers i)
    (pick (eqb (word_at t i 0) 6) (delta_words t numbers i) (one_span t bundle i))))

-- property i, where there are so many numbers, and bytes in the bundle
unfoldable pub property_sound : List ℕ → ℕ → ℕ → ℕ → Bool
property_sound t numbers bundle i =
    pick (named_entry t 6 bundle i) (pick (eqb (word_at t i 7) 0) (value_sound t numbers bundle i) false) false

-- every place below a count
unfoldable pub all_below : (ℕ → Bool) → ℕ → Bool
all_below p zero = true
all_below p (suc n) = pick (p n) (all_below p n) false

-- a table of words of so many elements holds so many entries
unfoldable pub entries_held : ℕ → ℕ → Bool
entries_held count len = leb count (capacity_of 8 len)

-- the counts: none over its table, and none over 16,384
unfoldable pub counts_held : ℕ → ℕ → ℕ → ℕ → ℕ → Counts → Bool
counts_held rules selectors tests properties numbers n =
    pick (entries_held n.rules rules)
    (pick (entries_held n.selectors selectors)
    (pick (entries_held n.tests tests)
    (pick (entries_held n.properties properties) (leb n.numbers (capacity_of 1 numbers)) false) false) false) false

-- every entry below its count
unfoldable pub entries_sound : List ℕ → List ℕ → List ℕ → List ℕ → List Float → Counts → ℕ → Bool
entries_sound rules selectors tests properties numbers n bundle =
    pick (all_below (rule_sound rules n.selectors n.properties) n.rules)
    (pick (all_below (selector_sound selectors n.tests bundle) n.selectors)
    (pick (all_below (test_sound tests numbers n.numbers bundle) n.tests)
    (all_below (property_sound properties n.numbers bundle) n.properties) false) false) false

-- the tables of a sheet beside a bundle of so many bytes: not so is 22
unfoldable pub tables_sound : List ℕ → List ℕ → List ℕ → List ℕ → List Float → Counts → ℕ → Bool
tables_sound rules selectors tests properties numbers n bundle =
    pick (counts_held (length rules) (length selectors) (length tests) (length properties) (length numbers) n)
    (entries_sound rules selectors tests properties numbers n bundle) false
