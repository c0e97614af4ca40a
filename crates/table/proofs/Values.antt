-- Words of an entry as the code reads them, and the value that they stand for.
use Prim.Native.Nat.{ℕ, ◌+◌, ◌*◌, ◌%◌, ◌≤◌}
use mathlib.Core.Path.{◌≡◌, refl, sym, ◌∙◌, ap}
use mathlib.Core.List.{List}
use Rattle.std.specs.Prelude.{eqb}
use lib.Ieee.{Float}
use lib.ListN.{length, get_or, get_or-eq_default}
use borrow.Author.Tests.{ne_eqb}
use Rattle.base.specs.Choice.{pick, if_false}
use Rattle.base.specs.Table.{zero_float}
use Rattle.base.specs.declared.Range.{Range}
use Rattle.color.specs.Named.{rgb}
use Rattle.color.specs.declared.Color.{Color}
use Rattle.table.specs.Value.{word_at, range_at, color_at, value_at}
use Rattle.table.specs.declared.Name.TheVariants.{Plain, Joined}
use Rattle.table.specs.declared.PropertyValue.{PropertyValue}
use Rattle.table.specs.declared.PropertyValue.TheVariants.{NoValue, Identifier, Text, Shade, Numbers, WidthDelta}

pub word_past : (t : List ℕ) (i j : ℕ) → length t ≤ i * 8 + j → 0 ≡ word_at t i j
word_past t i j h = sym (get_or-eq_default t 0 h)

pub color_is :
    (t : List ℕ) (i a b c : ℕ)
    → a ≡ word_at t i 3
    → b ≡ word_at t i 4
    → c ≡ word_at t i 5
    → rgb (a % 256) (b % 256) (c % 256) ≡ color_at t i
color_is t i a b c p q r = cc

-- the kinds one after another
abbrev kinds : List ℕ → List Float → ℕ → ℕ → PropertyValue
kinds t xs i n =
    pick (eqb n 1) (Identifier (Plain (range_at t i 3)))
    (pick (eqb n 2) (Identifier (Joined (range_at t i 3) (range_at t i 5)))
    (pick (eqb n 3) (Text (range_at t i 3))
    (pick (eqb n 4)
    (Shade (color_at t i))
    (pick (eqb n 5) (Numbers (range_at t i 3))
    (pick (eqb n 6) (WidthDelta (get_or xs (word_at t i 3) zero_float)) NoValue)))))

module _ (t : List ℕ) (xs : List Float) (i k : ℕ) (e : k ≡ word_at t i 0) where
  by_kind : (n : ℕ) {v : PropertyValue} → v ≡ kinds t xs i n → k ≡ n → v ≡ value_at t xs i
  unfolding value_at
  by_kind n p q = p ∙ ap (kinds t xs i) (sym q ∙ e)

  pub value_1 : (r : Range) → r ≡ range_at t i 3 → k ≡ 1 → Identifier (Plain r) ≡ value_at t xs i
  unfolding pick
  value_1 r p = by_kind 1 (ap (λ (x : Range). Identifier (Plain x)) p)

  pub value_2 : (v : PropertyValue) → v ≡ Identifier (Joined (range_at t i 3) (range_at t i 5)) → k ≡ 2 → v ≡ value_at t xs i
  unfolding pick
  value_2 v p = by_kind 2 p

  pub value_3 : (r : Range) → r ≡ range_at t i 3 → k ≡ 3 → Text r ≡ value_at t xs i
  unfolding pick
  value_3 r p = by_kind 3 (ap Text p)

  pub value_4 : (c : Color) → c ≡ color_at t i → k ≡ 4 → Shade c ≡ value_at t xs i
  unfolding pick
  value_4 c p = by_kind 4 (ap Shade p)

  pub value_5 : (r : Range) → r ≡ range_at t i 3 → k ≡ 5 → Numbers r ≡ value_at t xs i
  unfolding pick
  value_5 r p = by_kind 5 (ap Numbers p)

  pub value_6 :
      (w : ℕ) (x : Float)
      → w ≡ word_at t i 3
      → x ≡ get_or xs w zero_float
      → k ≡ 6
      → WidthDelta x ≡ value_at t xs i
  unfolding pick
  value_6 w x p o = by_kind 6 (ap WidthDelta (o ∙ ap (λ (n : ℕ). get_or xs n zero_float) p))

  pub value_none : (k ≡ 1 → ⊥) → (k ≡ 2 → ⊥) → (k ≡ 3 → ⊥) → (k ≡ 4 → ⊥) → (k ≡ 5 → ⊥) → (k ≡ 6 → ⊥) → NoValue ≡ value_at t xs i
  unfolding value_at
  value_none h₁ h₂ h₃ h₄ h₅ h₆ = rw (sym e) (
      if_false _ _ _ (ne_eqb _ _ h₁)
      (if_false _ _ _ (ne_eqb _ _ h₂)
      (if_false _ _ _ (ne_eqb _ _ h₃)
      (if_false _ _ _ (ne_eqb _ _ h₄)
      (if_false _ _ _ (ne_eqb _ _ h₅) (if_false _ _ _ (ne_eqb _ _ h₆) refl))))))
