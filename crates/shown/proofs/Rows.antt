-- The layers that a table of maps holds, with values for numbers; and the place of the default layer among them.
use Prim.Native.Nat.{ℕ, zero, suc, ◌+◌, ◌*◌, ◌≤◌}
use native.Mathlib.Omega.{arith}
use mathlib.Core.Path.{◌≡◌, refl, ◌∙◌, ap, ap₂}
use mathlib.Core.List.{List, [], ◌∷◌, map}
use mathlib.Core.Option
use mathlib.Core.Option.{Option, none, some}
use lib.Dec.{ltb}
use lib.ListN.{get_or}
use borrow.Author.Tests.{lt-ltb, le-ltb}
use Rattle.base.specs.Bytes.{Bytes, ascii, same}
use Rattle.base.specs.Choice.{pick, by-test, if_false}
use Rattle.base.specs.Map.{Entry, Map, entry, lookup}
use Rattle.sheet.specs.Sheet.{Value}
use Rattle.cascade.specs.Clause.{default_name, layer_name}
use Rattle.cascade.specs.Map.{keep, map_entry}
use Rattle.cascade.proofs.MapLaws.{keep_map}
use Rattle.cascade.specs.Number.{whole}
use Rattle.cascade.specs.Numbered.{spelled, map_layers}
use Rattle.cascade.specs.Style as theory
use Rattle.cascade.specs.Style.{not_star}
use Rattle.table.specs.Value.{value_at}
use Rattle.decode.specs.Decode.{places, name_at, selector_in, property_at, value_of}
use Rattle.keep.specs.Lent.{Lent}
use Rattle.walk.specs.Maps.{layer_place}
use Rattle.walk.specs.Rows.{numbers_at}
use Rattle.walk.specs.Run.{seek}
use Rattle.walk.specs.Selectors.{layer_in}
use Rattle.maps.specs.Held.{layer_held, layers_held}
use Rattle.style.specs.Get.{number_of}
use Rattle.style.specs.Style.{width_or_zero}
use Rattle.styles.specs.Styles.{named_by, styled_rows, default_width}
use Rattle.shown.specs.Style.{properties_of}
use Rattle.shown.proofs.StyleIs.{found, number_at_lem, present_or}

module _ (bundle : Bytes) (τ : Lent) (t : List ℕ) where
  abbrev pub value : ℕ → Value
  value p = value_of bundle τ (value_at τ.properties τ.numbers p)

  abbrev pub layer : ℕ → Bytes
  layer s = layer_name (selector_in bundle τ.selectors τ.tests τ.numbers s)

  -- layer i of the table
  abbrev pub valued : ℕ → Entry (Map Value)
  valued i = entry (layer_in bundle τ.selectors (named_by bundle τ.selectors t i)) (properties_of bundle τ (numbers_at t i))

  row_valued : (js : List ℕ) → map (map_entry value) (map (spelled (name_at bundle τ.properties)) js) ≡ properties_of bundle τ js
  row_valued [] = refl
  row_valued (j ∷ js) = ap (λ ps. property_at bundle τ j ∷ ps) (row_valued js)

  rows_valued : (is : List ℕ) → map_layers value (map (layer_held (name_at bundle τ.properties) layer t) is) ≡ map valued is
  rows_valued [] = refl
  rows_valued (i ∷ is) =
      ap₂ (λ (m : Map Value) ms. entry (layer (get_or t (i * 131) 0)) m ∷ ms) (row_valued (numbers_at t i)) (rows_valued is)

  pub layers_valued : (n : ℕ) → map_layers value (layers_held (name_at bundle τ.properties) layer t n) ≡ map valued (places 0 n)
  layers_valued n = rows_valued (places 0 n)

  pub styled_rows_lem : (n : ℕ) → keep not_star (map valued (places 0 n)) ≡ map valued (styled_rows bundle τ.selectors t n)
  styled_rows_lem n = keep_map not_star valued (places 0 n)

  -- the row of a name, as a lookup among the layers
  seek_lookup :
      (l : Bytes) (k i : ℕ)
      → lookup l (map valued (places i k))
      ≡ pick (ltb (seek layer t l i k) (i + k)) (some (properties_of bundle τ (numbers_at t (seek layer t l i k)))) none
  unfolding lookup places seek pick
  seek_lookup l zero i = rw (le-ltb i (i + 0) (omega arith))
  seek_lookup l (suc k) i =
      by-test (same l (layer (get_or t (i * 131) 0)))
      (λ e. rw (seek, e, lt-ltb i (i + suc k) (omega arith)))
      (λ e.
      let n : i + suc k ≡ i + 1 + k = omega arith in
      rw (seek, e, n) (seek_lookup l k (i + 1)))

  placed : (n : ℕ) → n ≤ 32 → seek layer t default_name 0 n ≡ layer_place (layer_in bundle τ.selectors) t n default_name
  unfolding layer_place
  placed n h = if_false _ _ _ (le-ltb 32 n h) refl

  pub default_is :
      (n : ℕ)
      → n ≤ 32
      → default_width bundle τ.selectors τ.properties τ.numbers t n
      ≡ theory.width_or_zero (lookup default_name (map valued (places 0 n)))
  unfolding default_width width_or_zero theory.width_or_zero pick
  default_is n h =
      let j = seek layer t default_name 0 n in
      let p : j ≡ layer_place (layer_in bundle τ.selectors) t n default_name = placed n h in
      let z : 0 + n ≡ n = omega arith in
      rw (default_width, ← p, seek_lookup default_name n 0, z)
      (by-test (ltb j n)
      (λ e.
      rw e
      (present_or (number_of τ.numbers (found bundle τ (numbers_at t j) (ascii "width"))) (whole 0)
      ∙ ap (λ o. Option.get_or o (whole 0)) (number_at_lem bundle τ (numbers_at t j) (ascii "width"))))
      (λ e. rw e))
