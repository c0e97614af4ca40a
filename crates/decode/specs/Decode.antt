-- The rules that tables spell beside their bundle: names and texts as bytes, numbers as floats. docs/TABLES.md has the words.
use Rattle.std.specs.Prelude.{ℕ, zero, suc, ◌+◌, ◌-◌, List, [], ◌∷◌, ◌++◌, map, eqb, Float, get_or, take, drop}
use Rattle.std.proofs.Math.Option.{Option, none, some}
use Rattle.base.specs.Bytes.{Bytes, ascii, within}
use Rattle.base.specs.Choice.{pick}
use Rattle.base.specs.Map.{Entry, entry}
use Rattle.base.specs.Table.{zero_float}
use Rattle.base.specs.declared.Range.{Range}
use Rattle.sheet.specs.Digits.{digits_for}
use Rattle.sheet.specs.Sheet.{ObjectType, all, canvas, meta, node, way, area, exists, not_exists, is_true, is_false, equal, not_equal, less, less_or_equal, greater, greater_or_equal, Test, unary, text, numeric, Value, identifier, string, color, numbers, width_delta, Selector, Rule}
use Rattle.table.specs.Value.{word_at, range_at, value_at}
use Rattle.table.specs.declared.Name.TheVariants.{Plain, Joined}
use Rattle.table.specs.declared.PropertyValue.{PropertyValue}
use Rattle.table.specs.declared.PropertyValue.TheVariants.{NoValue, Identifier, Text, Shade, Numbers, WidthDelta}
use Rattle.keep.specs.Lent.{Lent}

-- the places of a range
unfoldable pub places : ℕ → ℕ → List ℕ
places from zero = []
places from (suc n) = from ∷ places (from + 1) n

abbrev pub places_in : Range → List ℕ
places_in r = places r.from (r.to - r.from)

-- a zoom level, stored plus one
abbrev pub level_at : ℕ → Option ℕ
level_at zero = none
level_at (suc n) = some n

unfoldable pub type_at : ℕ → ObjectType
type_at k =
    pick (eqb k 1) all
    (pick (eqb k 2) canvas
    (pick (eqb k 3) meta
    (pick (eqb k 4) node
    (pick (eqb k 5) way area))))

module _ (bundle : Bytes) where
  abbrev pub joined_at : Range → Range → Bytes
  joined_at a b = within a bundle ++ ascii ":" ++ within b bundle

  -- a key, of one part or two
  unfoldable pub key_at : List ℕ → ℕ → Bytes
  key_at t i = pick (eqb (word_at t i 3) 1) (joined_at (range_at t i 1) (range_at t i 4)) (within (range_at t i 1) bundle)

  -- by its kind, 1 to 12
  unfoldable pub test_at : List ℕ → List Float → ℕ → Test
  test_at t xs i =
      let k = word_at t i 0 in
      let x = get_or xs (word_at t i 6) zero_float in
      pick (eqb k 1) (unary exists (key_at t i))
      (pick (eqb k 2) (unary not_exists (key_at t i))
      (pick (eqb k 3) (unary is_true (key_at t i))
      (pick (eqb k 4) (unary is_false (key_at t i))
      (pick (eqb k 5) (text equal (key_at t i) (within (range_at t i 6) bundle))
      (pick (eqb k 6) (text not_equal (key_at t i) (within (range_at t i 6) bundle))
      (pick (eqb k 7) (text equal (key_at t i) (digits_for x))
      (pick (eqb k 8) (text not_equal (key_at t i) (digits_for x))
      (pick (eqb k 9) (numeric less (key_at t i) x)
      (pick (eqb k 10) (numeric less_or_equal (key_at t i) x)
      (pick (eqb k 11) (numeric greater (key_at t i) x) (numeric greater_or_equal (key_at t i) x)))))))))))

  unfoldable pub layer_at : List ℕ → ℕ → Option Bytes
  layer_at t i = pick (eqb (word_at t i 5) 1) (some (within (range_at t i 6) bundle)) none

  -- a selector, with the tables of selectors, tests and numbers
  abbrev pub selector_in : List ℕ → List ℕ → List Float → ℕ → Selector
  selector_in t ts xs i =
      record
      { object_type = type_at (word_at t i 0); min_zoom = level_at (word_at t i 1); max_zoom = level_at (word_at t i 2); tests = map (test_at ts xs) (places_in (range_at t i 3)); layer_id = layer_at t i }

  -- a property's name
  abbrev pub name_at : List ℕ → ℕ → Bytes
  name_at t i = within (range_at t i 1) bundle

  -- a rule whose properties are their numbers
  abbrev pub numbered_at : List ℕ → List ℕ → List ℕ → List ℕ → List Float → ℕ → Rule ℕ
  numbered_at rs ss ts ps xs i =
      record
      { selectors = map (selector_in ss ts xs) (places_in (range_at rs i 1)); properties = map (λ p. entry (name_at ps p) p) (places_in (range_at rs i 3)) }

  module _ (τ : Lent) where
    abbrev pub selector_at : ℕ → Selector
    selector_at = selector_in τ.selectors τ.tests τ.numbers

    abbrev pub value_of : PropertyValue → Value
    value_of NoValue = identifier []
    value_of (Identifier (Plain a)) = identifier (within a bundle)
    value_of (Identifier (Joined a b)) = identifier (joined_at a b)
    value_of (Text a) = string (within a bundle)
    value_of (Shade c) = color c
    value_of (Numbers r) = numbers (take (r.to - r.from) (drop r.from τ.numbers))
    value_of (WidthDelta x) = width_delta x

    abbrev pub property_at : ℕ → Entry Value
    property_at i = entry (name_at τ.properties i) (value_of (value_at τ.properties τ.numbers i))

    abbrev pub rule_at : ℕ → Rule Value
    rule_at i =
        let t = τ.rules in
        record { selectors = map selector_at (places_in (range_at t i 1)); properties = map property_at (places_in (range_at t i 3)) }

    -- the rules of the tables, so many as their count says
    unfoldable pub rules_at : List (Rule Value)
    rules_at = map rule_at (places 0 τ.tally.rules)
