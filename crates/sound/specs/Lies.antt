-- What a reading must hold for its tables to pass the check of handed tables: names that stand in the bundle, whole numbers in
-- `=` and `!=` tests, and colours of three bytes.
use Rattle.std.specs.Prelude.{ℕ, ◌≤◌, ◌≡◌, true, List, [], ◌∷◌, Option, Some, None}
use Rattle.base.specs.declared.Range.{Range}
use Rattle.sheet.specs.Digits.{is_whole}
use Rattle.table.specs.declared.Name.{Name}
use Rattle.table.specs.declared.Name.TheVariants.{Plain, Joined}
use Rattle.grammar.specs.Reading.{plain, digits, Test, unary, text, numeric, Value, word, quoted, colored, numbers, width_delta, Selector, Property, Rule, Item, rule_item, color_item}
use Rattle.keep.specs.Lent.{layer_in, name_shown}
use Rattle.input.specs.Text.{Small, range_of}

pub data Each {A : Type 0} (P : A → Type 0) : List A → Type 0 where
  none_left : Each P []
  and_then : {x : A} {xs : List A} → P x → Each P xs → Each P (x ∷ xs)

-- beside a bundle of so many bytes
module _ (bundle : ℕ) where
  abbrev pub Span : Range → Type 0
  Span r = (r.from ≤ r.to) × (r.to ≤ bundle)

  abbrev pub Lies : Name → Type 0
  Lies (Plain a) = Span a
  Lies (Joined a b) = Span a × Span b

  abbrev pub Layer : Option Range → Type 0
  Layer None = Unit {0}
  Layer (Some a) = Span a

  abbrev pub TestLies : Test → Type 0
  TestLies (unary o a) = Lies (name_shown a)
  TestLies (text o a (plain b)) = Lies (name_shown a) × Span (range_of b)
  TestLies (text o a (digits x)) = Lies (name_shown a) × (is_whole x ≡ true)
  TestLies (numeric o a x) = Lies (name_shown a)

  abbrev pub ValueLies : Value → Type 0
  ValueLies (word a) = Lies (name_shown a)
  ValueLies (quoted a) = Span (range_of a)
  ValueLies (colored c) = Small c
  ValueLies (numbers xs) = Unit {0}
  ValueLies (width_delta x) = Unit {0}

  abbrev pub PropertyLies : Property → Type 0
  PropertyLies p = Span (range_of p.name) × ValueLies p.value

  abbrev pub SelectorLies : Selector → Type 0
  SelectorLies σ = Layer (layer_in σ.layer_id) × Each TestLies σ.tests

  abbrev pub RuleLies : Rule → Type 0
  RuleLies r = Each SelectorLies r.selectors × Each PropertyLies r.properties

  abbrev pub ItemLies : Item → Type 0
  ItemLies (rule_item r) = RuleLies r
  ItemLies (color_item n c) = Unit {0}
