-- The lent tables as a store of the grammar's reader: the words of each entry, and the counts.
use Rattle.std.specs.Prelude.{ℕ, zero, suc, ◌+◌, ◌*◌, List, [], ◌∷◌, length, Float, Option, Some, None}
use Rattle.std.specs.Borrow.{GName, MutBor}
use Rattle.std.proofs.Math.Option.{Option as Option', none, some}
use Rattle.base.specs.Bytes.{Bytes, same, within}
use Rattle.base.specs.Choice.{pick}
use Rattle.base.specs.Table.{stored}
use Rattle.base.specs.declared.Range.{Range}
use Rattle.color.specs.declared.Color.{Color}
use Rattle.sheet.specs.Sheet.{ObjectType, all, canvas, meta, node, way, area, UnaryTest, exists, not_exists, is_true, is_false, TextTest, equal, not_equal, NumericTest, less, less_or_equal, greater, greater_or_equal}
use Rattle.entries.specs.Put.{put_of}
use Rattle.table.specs.Value.{range_at, color_at}
use Rattle.entries.specs.Words.{rule_words, selector_words, test_words, property_words, color_words}
use Rattle.table.specs.declared.Name.{Name}
use Rattle.table.specs.declared.Name.TheVariants.{Plain, Joined}
use Rattle.table.specs.declared.PropertyValue.{PropertyValue}
use Rattle.table.specs.declared.PropertyValue.TheVariants.{NoValue, Identifier, Text, Shade, Numbers, WidthDelta}
use Rattle.grammar.specs.Token.{Name as Name'}
use Rattle.grammar.specs.Reading.{plain, digits, Test, unary, text, numeric, Value, word, quoted, colored, numbers, width_delta, Colors, color_def}
use Rattle.grammar.specs.Input.{Entry, rule_entry, selector_entry, test_entry, property_entry, number_entry, color_entry, Store}
use Rattle.input.specs.Text.{name_in, range_of}
use Rattle.keep.specs.declared.Store.{Store as Store'}
use Rattle.keep.specs.declared.Tally.{Tally}
use Rattle.base.specs.Option.{with_option, on_option}

pub record Lent : Type 0 where
  pub tally : Tally
  pub rules : List ℕ
  pub selectors : List ℕ
  pub tests : List ℕ
  pub properties : List ℕ
  pub numbers : List Float
  pub colors : List ℕ

abbrev pub lent : Tally → List ℕ → List ℕ → List ℕ → List ℕ → List Float → List ℕ → Lent
lent n rs ss ts ps xs cs =
    record { tally = n; rules = rs; selectors = ss; tests = ts; properties = ps; numbers = xs; colors = cs }

-- a store as it is now
abbrev pub lent_in : Store' → Lent
lent_in s = lent s.tally s.rules.now s.selectors.now s.tests.now s.properties.now s.numbers.now s.colors.now

-- the same tables but one
abbrev pub with_rules : Lent → Tally → List ℕ → Lent
with_rules τ n t = record τ { tally = n; rules = t }

abbrev pub with_selectors : Lent → Tally → List ℕ → Lent
with_selectors τ n t = record τ { tally = n; selectors = t }

abbrev pub with_tests : Lent → Tally → List ℕ → Lent
with_tests τ n t = record τ { tally = n; tests = t }

abbrev pub with_properties : Lent → Tally → List ℕ → Lent
with_properties τ n t = record τ { tally = n; properties = t }

abbrev pub with_numbers : Lent → Tally → List Float → Lent
with_numbers τ n t = record τ { tally = n; numbers = t }

abbrev pub with_colors : Lent → Tally → List ℕ → Lent
with_colors τ n t = record τ { tally = n; colors = t }

abbrev pub Lends : Type 0
Lends = List (GName × ℕ)

-- which tables a store lends, and how long they are; that these stay the same says that none was put in another's place
abbrev pub lends : Store' → Lends
lends s =
    lent_slice s.rules ∷ lent_slice s.selectors ∷ lent_slice s.tests ∷ lent_slice s.properties ∷ lent_slice s.numbers
    ∷ lent_slice s.colors ∷ []
  where
    lent_slice : {A : Type 0} → MutBor (List A) → GName × ℕ
    lent_slice t = (t.ghost_name, length t.now)

-- what storing leaves as it is, a refusal too: storing numbers; a test, with its number; a property, with its numbers; a selector,
-- with its tests; a rule, with all that it has; a colour
abbrev pub beside_numbers : Store' → Lends × List ℕ × List ℕ × List ℕ × List ℕ × List ℕ
beside_numbers s = (lends s, s.rules.now, s.selectors.now, s.tests.now, s.properties.now, s.colors.now)

abbrev pub beside_tests : Store' → Lends × List ℕ × List ℕ × List ℕ × List ℕ
beside_tests s = (lends s, s.rules.now, s.selectors.now, s.properties.now, s.colors.now)

abbrev pub beside_properties : Store' → Lends × List ℕ × List ℕ × List ℕ × List ℕ
beside_properties s = (lends s, s.rules.now, s.selectors.now, s.tests.now, s.colors.now)

abbrev pub beside_selectors : Store' → Lends × List ℕ × List ℕ × List ℕ
beside_selectors s = (lends s, s.rules.now, s.properties.now, s.colors.now)

abbrev pub beside_rules : Store' → Lends × List ℕ
beside_rules s = (lends s, s.colors.now)

abbrev pub beside_colors : Store' → Lends × List ℕ × List ℕ × List ℕ × List ℕ × List Float
beside_colors s = (lends s, s.rules.now, s.selectors.now, s.tests.now, s.properties.now, s.numbers.now)

-- so many rules, and nothing else
abbrev pub counted : ℕ → Tally
counted n =
    record
    { rules = n; selectors = 0; tests = 0; properties = 0; numbers = 0; colors = 0; selector = 0; test = 0; property = 0; number = 0 }

abbrev pub none_yet : Tally
none_yet =
    record
    { rules = 0; selectors = 0; tests = 0; properties = 0; numbers = 0; colors = 0; selector = 0; test = 0; property = 0; number = 0 }

abbrev pub range : ℕ → ℕ → Range
range from to = record { from = from; to = to }

-- ---- what the entries of the grammar are in words

abbrev pub type_number : ObjectType → ℕ
type_number all = 1
type_number canvas = 2
type_number meta = 3
type_number node = 4
type_number way = 5
type_number area = 6

abbrev pub level_in : Option' ℕ → Option ℕ
level_in none = None
level_in (some n) = Some n

abbrev pub layer_in : Option' Name' → Option Range
layer_in none = None
layer_in (some a) = Some (range_of a)

-- a name stands in one place, or in two
abbrev pub name_shown : Name' → Name
name_shown a = shown a.ranges
  where
    shown : List Range → Name
    shown [] = Plain (range 0 0)
    shown (r ∷ []) = Plain r
    shown (r ∷ s ∷ rs) = Joined r s

abbrev pub unary_kind : UnaryTest → ℕ
unary_kind exists = 1
unary_kind not_exists = 2
unary_kind is_true = 3
unary_kind is_false = 4

-- with a word, and with a number
abbrev pub word_kind : TextTest → ℕ
word_kind equal = 5
word_kind not_equal = 6

abbrev pub digits_kind : TextTest → ℕ
digits_kind equal = 7
digits_kind not_equal = 8

abbrev pub numeric_kind : NumericTest → ℕ
numeric_kind less = 9
numeric_kind less_or_equal = 10
numeric_kind greater = 11
numeric_kind greater_or_equal = 12

-- x: the place of the test's number
abbrev pub test_row : Test → ℕ → List ℕ
test_row (unary o a) x = test_words (unary_kind o) (name_shown a) 0 0
test_row (text o a (plain b)) x = test_words (word_kind o) (name_shown a) (range_of b).from (range_of b).to
test_row (text o a (digits d)) x = test_words (digits_kind o) (name_shown a) x 0
test_row (numeric o a d) x = test_words (numeric_kind o) (name_shown a) x 0

-- r: the numbers of the value
abbrev pub value_shown : Value → Range → PropertyValue
value_shown (word a) r = Identifier (name_shown a)
value_shown (quoted a) r = Text (range_of a)
value_shown (colored c) r = Shade c
value_shown (numbers xs) r = Numbers r
value_shown (width_delta x) r = WidthDelta x

abbrev pub word_row : Range → Name → List ℕ
word_row name (Plain a) = property_words 1 name a.from a.to 0 0
word_row name (Joined a b) = property_words 2 name a.from a.to b.from b.to

-- x: the place of a width delta's number
abbrev pub value_row : Range → PropertyValue → ℕ → List ℕ
value_row name NoValue x = property_words 0 name 0 0 0 0
value_row name (Identifier a) x = word_row name a
value_row name (Text a) x = property_words 3 name a.from a.to 0 0
value_row name (Shade c) x = property_words 4 name c.r c.g c.b 0
value_row name (Numbers a) x = property_words 5 name a.from a.to 0 0
value_row name (WidthDelta d) x = property_words 6 name x 0 0 0

-- ---- storing, with the counts

-- the numbers that no entry has taken yet
abbrev pub fresh_numbers : Tally → Range
fresh_numbers n = range n.number n.numbers

-- an entry of so many elements, n of which are there; f: the counts with one more
unfoldable pub keep_of : {A : Type 0} → ℕ → List A → ℕ → List A → (ℕ → Tally) → Option Tally × List A
keep_of stride t n vs f = with_option (put_of stride t n vs) (λ t. (None, t)) λ m t. (Some (f m), t)

abbrev pub one_number : Tally → ℕ → Tally
one_number n m = record n { numbers = m }

abbrev pub one_test : Tally → ℕ → Tally
one_test n m = record n { tests = m; number = n.numbers }

abbrev pub one_property : Tally → ℕ → Tally
one_property n m = record n { properties = m; number = n.numbers }

abbrev pub one_selector : Tally → ℕ → Tally
one_selector n m = record n { selectors = m; test = n.tests }

abbrev pub one_rule : Tally → ℕ → Tally
one_rule n m = record n { rules = m; selector = n.selectors; property = n.properties }

abbrev pub one_color : Tally → ℕ → Tally
one_color n m = record n { colors = m }

unfoldable pub keep_number_of : Tally → List Float → Float → Option Tally × List Float
keep_number_of n t x = keep_of 1 t n.numbers (x ∷ []) (one_number n)

unfoldable pub keep_test_of : Tally → List ℕ → List ℕ → Option Tally × List ℕ
keep_test_of n t row = keep_of 8 t n.tests row (one_test n)

unfoldable pub keep_property_of : Tally → List ℕ → Range → PropertyValue → Option Tally × List ℕ
keep_property_of n t name v = keep_of 8 t n.properties (value_row name v n.number) (one_property n)

unfoldable pub keep_selector_of : Tally → List ℕ → ℕ → Option ℕ → Option ℕ → Option Range → Option Tally × List ℕ
keep_selector_of n t kind min max layer =
    keep_of 8 t n.selectors (selector_words kind min max (range n.test n.tests) layer) (one_selector n)

unfoldable pub keep_rule_of : Tally → List ℕ → Option Tally × List ℕ
keep_rule_of n t =
    keep_of 8 t n.rules (rule_words (range n.selector n.selectors) (range n.property n.properties)) (one_rule n)

-- ---- colours

abbrev pub recolored : List ℕ → ℕ → Color → List ℕ
recolored t i c = stored t (i * 8 + 3) (c.r ∷ c.g ∷ c.b ∷ [])

unfoldable pub add_color_of : Tally → List ℕ → Range → Color → Option Tally × List ℕ
add_color_of n t r c = keep_of 8 t n.colors (color_words r c) (one_color n)

module _ (bundle : Bytes) where
  -- k colours from place i on
  unfoldable pub colors_from : List ℕ → ℕ → ℕ → Colors
  colors_from t i zero = []
  colors_from t i (suc k) = color_def (name_in bundle (range_at t i 1)) (color_at t i) ∷ colors_from t (i + 1) k

  abbrev pub colors_of : List ℕ → ℕ → Colors
  colors_of t n = colors_from t 0 n

  -- the first of k colours from place i on that has a name
  unfoldable pub place_from : Bytes → List ℕ → ℕ → ℕ → Option ℕ
  place_from name t i zero = None
  place_from name t i (suc k) = pick (same name (within (range_at t i 1) bundle)) (Some i) (place_from name t (i + 1) k)

  -- a colour defined anew takes no entry
  unfoldable pub keep_color_of : Tally → List ℕ → Bytes → Range → Color → Option Tally × List ℕ
  keep_color_of n t name r c =
      on_option (place_from name t 0 n.colors) (add_color_of n t r c) λ i. (Some n, recolored t i c)

-- ---- the store

unfoldable pub taken : {A B : Type 0} → Option Tally × A → (Tally → A → B) → Option' B
taken x f = with_option x (λ t. none) λ n t. some (f n t)

module _ (bundle : Bytes) where
  unfoldable pub put_entry : Entry → Lent → Option' Lent
  put_entry rule_entry τ = taken (keep_rule_of τ.tally τ.rules) (with_rules τ)
  put_entry (selector_entry σ) τ =
      taken (keep_selector_of τ.tally τ.selectors (type_number σ.object_type) (level_in σ.min_zoom) (level_in σ.max_zoom) (layer_in σ.layer_id))
      (with_selectors τ)
  put_entry (test_entry x) τ = taken (keep_test_of τ.tally τ.tests (test_row x τ.tally.number)) (with_tests τ)
  put_entry (property_entry p) τ =
      taken (keep_property_of τ.tally τ.properties (range_of p.name) (value_shown p.value (fresh_numbers τ.tally))) (with_properties τ)
  put_entry (number_entry x) τ = taken (keep_number_of τ.tally τ.numbers x) (with_numbers τ)
  put_entry (color_entry a c) τ = taken (keep_color_of bundle τ.tally τ.colors a.bytes (range_of a) c) (with_colors τ)

  abbrev pub lent_store : Store Lent
  lent_store = record { put = put_entry; colors = λ τ. colors_of bundle τ.colors τ.tally.colors }

-- what putting into a store answers, and the store then: where there is no room, the counts stay
unfoldable pub kept : {A : Type 0} → Tally → Option Tally × A → (Tally → A → Lent) → Option Unit × Lent
kept n x f = with_option x (λ t. (None, f n t)) λ m t. (Some tt, f m t)

unfoldable pub number_kept : Lent → Float → Option Unit × Lent
number_kept τ x = kept τ.tally (keep_number_of τ.tally τ.numbers x) (with_numbers τ)

unfoldable pub test_kept : Lent → List ℕ → Option Unit × Lent
test_kept τ row = kept τ.tally (keep_test_of τ.tally τ.tests row) (with_tests τ)

unfoldable pub property_kept : Lent → Range → PropertyValue → Option Unit × Lent
property_kept τ name v = kept τ.tally (keep_property_of τ.tally τ.properties name v) (with_properties τ)

unfoldable pub selector_kept : Lent → ℕ → Option ℕ → Option ℕ → Option Range → Option Unit × Lent
selector_kept τ kind min max layer =
    kept τ.tally (keep_selector_of τ.tally τ.selectors kind min max layer) (with_selectors τ)

unfoldable pub rule_kept : Lent → Option Unit × Lent
rule_kept τ = kept τ.tally (keep_rule_of τ.tally τ.rules) (with_rules τ)

unfoldable pub color_added : Lent → Range → Color → Option Unit × Lent
color_added τ r c = kept τ.tally (add_color_of τ.tally τ.colors r c) (with_colors τ)

unfoldable pub color_kept : Bytes → Lent → Bytes → Range → Color → Option Unit × Lent
color_kept bundle τ name r c = kept τ.tally (keep_color_of bundle τ.tally τ.colors name r c) (with_colors τ)
