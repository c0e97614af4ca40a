-- The words of each entry. docs/TABLES.md shows them as a page.
use Rattle.std.specs.Prelude.{ℕ, ◌+◌, List, [], ◌∷◌, Option, Some, None, get_or}
use Rattle.base.specs.declared.Range.{Range}
use Rattle.color.specs.declared.Color.{Color}
use Rattle.table.specs.Value.{word}
use Rattle.table.specs.declared.Name.{Name}
use Rattle.table.specs.declared.Name.TheVariants.{Plain, Joined}

-- a rule is of kind 1
abbrev pub rule_words : Range → Range → List ℕ
rule_words ss ps = 1 ∷ word ss.from ∷ word ss.to ∷ word ps.from ∷ word ps.to ∷ 0 ∷ 0 ∷ 0 ∷ []

-- a zoom level plus one, 0 for none
abbrev pub level_word : Option ℕ → ℕ
level_word None = 0
level_word (Some n) = n + 1

abbrev pub layer_word : Option Range → ℕ
layer_word None = 0
layer_word (Some r) = 1

abbrev pub layer_from : Option Range → ℕ
layer_from None = 0
layer_from (Some r) = word r.from

abbrev pub layer_to : Option Range → ℕ
layer_to None = 0
layer_to (Some r) = word r.to

-- a selector's kind is its object type, 1 to 6
abbrev pub selector_words : ℕ → Option ℕ → Option ℕ → Range → Option Range → List ℕ
selector_words kind min max tests layer =
    kind
    ∷ level_word min
    ∷ level_word max
    ∷ word tests.from
    ∷ word tests.to
    ∷ layer_word layer
    ∷ layer_from layer
    ∷ layer_to layer
    ∷ []

-- a name's two ranges; the second is 0, 0 where there is none
abbrev pub first_of : Name → Range
first_of (Plain a) = a
first_of (Joined a b) = a

abbrev pub second_of : Name → Option Range
second_of (Plain a) = None
second_of (Joined a b) = Some b

abbrev pub joined_word : Name → ℕ
joined_word (Plain a) = 0
joined_word (Joined a b) = 1

abbrev pub second_from : Name → ℕ
second_from (Plain a) = 0
second_from (Joined a b) = word b.from

abbrev pub second_to : Name → ℕ
second_to (Plain a) = 0
second_to (Joined a b) = word b.to

-- a test: its kind, 1 to 12, its key, and two words of its value
abbrev pub test_words : ℕ → Name → ℕ → ℕ → List ℕ
test_words kind key a b =
    kind
    ∷ word (first_of key).from
    ∷ word (first_of key).to
    ∷ joined_word key
    ∷ second_from key
    ∷ second_to key
    ∷ word a
    ∷ word b
    ∷ []

-- a property: its kind, 1 to 6, its name, and four words of its value
abbrev pub property_words : ℕ → Range → ℕ → ℕ → ℕ → ℕ → List ℕ
property_words kind name a b c d =
    kind ∷ word name.from ∷ word name.to ∷ word a ∷ word b ∷ word c ∷ word d ∷ 0 ∷ []

-- the same with the four words in one list
abbrev pub property_row : ℕ → Range → List ℕ → List ℕ
property_row kind name v = property_words kind name (get_or v 0 0) (get_or v 1 0) (get_or v 2 0) (get_or v 3 0)

-- a colour is of kind 1; the last two words are room
abbrev pub color_words : Range → Color → List ℕ
color_words name c = 1 ∷ word name.from ∷ word name.to ∷ c.r ∷ c.g ∷ c.b ∷ 0 ∷ 0 ∷ []
