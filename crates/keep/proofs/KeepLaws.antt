-- A put with its counts, by what the put answers; and the place of a colour, turn by turn.
use Prim.Native.Nat.{ℕ, zero, suc, ◌+◌, ◌-◌, ◌<◌, ◌≤◌}
use native.Mathlib.Omega.{arith}
use mathlib.Core.Path.{◌≡◌, refl, sym, ap, ◌∙◌}
use mathlib.Core.Bool.{true, false}
use mathlib.Core.Option.{none, some}
use mathlib.Core.List.{List}
use Rattle.base.specs.Bytes.{Bytes, same, within}
use Rattle.base.specs.Choice.{if_true, if_false, by-test}
use lib.Dec.{eqb}
use Rattle.base.specs.Option.{on_option, with_option}
use Rattle.base.proofs.Options.{none_some}
use Rattle.base.specs.declared.Range.{Range}
use Rattle.color.specs.declared.Color.{Color}
use Rattle.entries.specs.Put.{put_of}
use Rattle.table.specs.Value.{range_at}
use Rattle.keep.specs.Lent.{Lent, keep_of, kept, taken, with_colors, add_color_of, keep_color_of, color_added, color_kept, recolored, place_from}
use Rattle.keep.specs.declared.Tally.{Tally}
use Rattle.std.specs.Prelude.{Option, Some, None, MatchOption}
use borrow.Author.Tests.{eqb-true, eqb-false}

module _ {A : Type 0} (stride : ℕ) (t : List A) (n : ℕ) (vs : List A) (f : ℕ → Tally) (k : Tally) (g : Tally → List A → Lent) where
  pub kept_none : {u : List A} → put_of stride t n vs ≡ (None, u) → (None, g k u) ≡ kept k (keep_of stride t n vs f) g
  unfolding kept keep_of with_option on_option
  kept_none e = sym (ap (λ x. kept k (with_option x (λ t. (None, t)) λ m t. (Some (f m), t)) g) e)

  pub kept_one : {m : ℕ} {u : List A} → put_of stride t n vs ≡ (Some m, u) → (Some tt, g (f m) u) ≡ kept k (keep_of stride t n vs f) g
  unfolding kept keep_of with_option on_option
  kept_one e = sym (ap (λ x. kept k (with_option x (λ t. (None, t)) λ m t. (Some (f m), t)) g) e)

-- a put as the grammar has it, by what it answers
pub is_full : {A : Type 0} (n : Tally) (x : Option Tally × A) (f : Tally → A → Lent) {τ : Lent} → kept n x f ≡ (None, τ) → taken x f ≡ none
unfolding kept taken with_option on_option
is_full n (None, t) f e = refl
is_full n (Some m, t) f e = none_some (sym (ap (λ (y : Option Unit × Lent). y.0) e))

pub is_put : {A : Type 0} (n : Tally) (x : Option Tally × A) (f : Tally → A → Lent) {y : Unit} {τ : Lent} → kept n x f ≡ (Some y, τ) → taken x f ≡ some τ
unfolding kept taken with_option on_option
is_put n (None, t) f e = none_some (ap (λ (y : Option Unit × Lent). y.0) e)
is_put n (Some m, t) f e = ap (λ (y : Option Unit × Lent). some y.1) e

-- a colour, by the place of its name
module _ (bundle : Bytes) (τ : Lent) (name : Bytes) (r : Range) (c : Color) where
  pub color_new : {z : Option Unit × Lent} → place_from bundle name τ.colors 0 τ.tally.colors ≡ None → z ≡ color_added τ r c → z ≡ color_kept bundle τ name r c
  unfolding color_kept keep_color_of color_added on_option
  color_new e h = h ∙ sym (ap (λ o. kept τ.tally (on_option o (add_color_of τ.tally τ.colors r c) λ i. (Some τ.tally, recolored τ.colors i c)) (with_colors τ)) e)

  pub color_again :
      {i : ℕ} {t : List ℕ}
      → place_from bundle name τ.colors 0 τ.tally.colors ≡ Some i
      → t ≡ recolored τ.colors i c
      → ◌≡◌ {A = Option Unit × Lent} (Some tt, with_colors τ τ.tally t) (color_kept bundle τ name r c)
  unfolding color_kept keep_color_of kept with_option on_option
  color_again e h =
      ap (λ t. (Some tt, with_colors τ τ.tally t)) h
      ∙ sym (ap (λ o. kept τ.tally (on_option o (add_color_of τ.tally τ.colors r c) λ i. (Some τ.tally, recolored τ.colors i c)) (with_colors τ)) e)

pub has_name :
    (bundle : Bytes) (t : List ℕ) (i : ℕ) (r : Range) (p name : Bytes)
    → r ≡ range_at t i 1
    → p ≡ within r bundle
    → same name p ≡ same name (within (range_at t i 1) bundle)
has_name bundle t i r p name e g = ap (same name) (g ∙ ap (λ r. within r bundle) e)

-- the first of k colours from place i on, as a search tells it
module _ (bundle name : Bytes) (t : List ℕ) where
  abbrev pub Named : ℕ → Type 0
  Named i = same name (within (range_at t i 1) bundle) ≡ true

  abbrev pub Unnamed : ℕ → Type 0
  Unnamed i = same name (within (range_at t i 1) bundle) ≡ false

  pub place_found :
      (r : Option ℕ) (i k : ℕ)
      → MatchOption r ((j : ℕ) → i ≤ j → j < i + k → Unnamed j)
      (λ j. (i ≤ j) × (j < i + k) × Named j × ((l : ℕ) → i ≤ l → l < j → Unnamed l))
      → r ≡ place_from bundle name t i k
  unfolding place_from
  place_found None i zero h = refl
  place_found (Some j) i zero h = absurd (omega (arith, h.0, h.1))
  place_found None i (suc k) h =
      if_false _ _ _ (h i (omega arith) (omega arith)) (place_found None (i + 1) k (λ j l m. h j (omega arith) (omega arith)))
  place_found (Some j) i (suc k) h =
      by-test (eqb i j)
      (λ e. let p = eqb-true i j e in if_true _ _ _ (rw (sym p) at h.2) (ap Some (sym p)))
      (λ e.
      let p = eqb-false i j e in
      let q : i + 1 ≤ j = omega (arith, h.0, p) in
      if_false _ _ _ (h.3 i (omega arith) (omega (arith, q)))
      (place_found (Some j) (i + 1) k (q, omega (arith, h.1), h.2, λ l m o. h.3 l (omega arith) o)))
