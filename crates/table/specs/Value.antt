-- The words of entries, and a property's value, read back from its words.
use Rattle.std.specs.Prelude.{ℕ, ◌+◌, ◌*◌, ◌%◌, List, eqb, Float, get_or}
use Rattle.base.specs.Choice.{pick}
use Rattle.base.specs.Table.{zero_float}
use Rattle.base.specs.declared.Range.{Range}
use Rattle.color.specs.Named.{rgb}
use Rattle.color.specs.declared.Color.{Color}
use Rattle.table.specs.declared.Name.TheVariants.{Plain, Joined}
use Rattle.table.specs.declared.PropertyValue.{PropertyValue}
use Rattle.table.specs.declared.PropertyValue.TheVariants.{NoValue, Identifier, Text, Shade, Numbers, WidthDelta}

-- the low 32 bits; places and counts are below 2^32
abbrev pub word : ℕ → ℕ
word x = x % 4294967296

-- word j of entry i
abbrev pub word_at : List ℕ → ℕ → ℕ → ℕ
word_at t i j = get_or t (i * 8 + j) 0

abbrev pub range_at : List ℕ → ℕ → ℕ → Range
range_at t i j = record { from = word_at t i j; to = word_at t i (j + 1) }

-- the colour of entry i
abbrev pub color_at : List ℕ → ℕ → Color
color_at t i = rgb (word_at t i 3 % 256) (word_at t i 4 % 256) (word_at t i 5 % 256)

-- by its kind: 1 identifier, 2 joined identifier, 3 string, 4 colour, 5 numbers, 6 width delta
unfoldable pub value_at : List ℕ → List Float → ℕ → PropertyValue
value_at t numbers i =
    pick (eqb (word_at t i 0) 1) (Identifier (Plain (range_at t i 3)))
    (pick (eqb (word_at t i 0) 2) (Identifier (Joined (range_at t i 3) (range_at t i 5)))
    (pick (eqb (word_at t i 0) 3) (Text (range_at t i 3))
    (pick (eqb (word_at t i 0) 4)
    (Shade (color_at t i))
    (pick (eqb (word_at t i 0) 5) (Numbers (range_at t i 3))
    (pick (eqb (word_at t i 0) 6) (WidthDelta (get_or numbers (word_at t i 3) zero_float)) NoValue)))))
