use Prim.Native.Nat.{ℕ, ◌+◌, ◌≤◌, ◌<◌}
use native.Mathlib.Omega.{arith}
use mathlib.Core.Path.{◌≡◌, sym, ◌∙◌}
use mathlib.Core.List.{List}
use Rattle.std.specs.Prelude.{Option, Some, None, MatchOption}
use Rattle.std.proofs.Common.{rules, tests}
use Rattle.std.proofs.lemmas.Iterator.{first_from_Range}
use Rattle.base.specs.Bytes.{Bytes}
use Rattle.base.proofs.Options.{none_some}
use Rattle.walk.specs.Selectors.{layer_in}
use Rattle.walk.specs.Rows.{below}
use Rattle.walk.specs.Run.{seek}
use Rattle.walk.proofs.LayerLaws.{Is, Other, seek_all, seek_first}
use Rattle.walk.proofs.RowLaws.{below_found, below_none}
use Rattle.walk.proofs.layers.find_named.Goals.{After-find}
use Rattle.walk.proofs.layers.find_named.Goals as goal

-- what the search finds is what the definition seeks
module _ (layer : ℕ → Bytes) (t : List ℕ) (l : Bytes) (n : ℕ) where
  abbrev Found : Option ℕ → Type 0
  Found r =
      MatchOption r ((j : ℕ) → 0 ≤ j → j < n → Other layer t l j)
      (λ j. (0 ≤ j) × (j < n) × Is layer t l j × ((h : ℕ) → 0 ≤ h → h < j → Other layer t l h))

  sought : (r : Option ℕ) → Found r → r ≡ below n (seek layer t l 0 n)
  sought None h = let e = seek_all layer t l 0 n (λ j a b. h j a (omega (arith, b))) in below_none n _ (omega (arith, e))
  sought (Some j) h = below_found n _ j (sym (seek_first layer t l 0 n j h.0 (omega (arith, h.1)) h.2 h.3)) h.1

  below_count : (r : Option ℕ) {i : ℕ} → Found r → r ≡ Some i → i < n
  below_count None h e = none_some e
  below_count (Some j) {i = i} h e = let p : j ≡ i = cc in omega (arith, h.1, p)

found : (c : After-find) → let a = c.args in Found (layer_in a.tables.now.bundle.now a.tables.now.selectors.now) a.t.now a.name.now a.n c.find.result
found c =
    let a = c.args in
    let layer = layer_in a.tables.now.bundle.now a.tables.now.selectors.now in
    rw (← c.n.view_is) (first_from_Range _ _ _ _ (Is layer a.t.now a.name.now) (Other layer a.t.now a.name.now) c.find.ensures.ran
    (λ x q k. search (rules, tests))
    (λ x q k. (search rules, search (rules, tests))))

pub invariant_of-result : goal.invariant_of-result
invariant_of-result c =
    let a = c.args in
    let l = below_count (layer_in a.tables.now.bundle.now a.tables.now.selectors.now) a.t.now a.name.now a.n _ (found (goal.at.invariant_of-result c).After-find) c.in_ok-i.was in
    omega (arith, l, c.n.view_is, c.n.invariant)

pub returns-in_err-i : goal.returns-in_err-i
returns-in_err-i c = c.from_residual.ensures ∙ sym c.in_err-i.was ∙ sought _ _ _ _ _ (found (goal.at.returns-in_err-i c).After-find)

pub returns : goal.returns
returns c = sym c.in_ok-i.was ∙ sought _ _ _ _ _ (found (goal.at.returns c).After-find)
