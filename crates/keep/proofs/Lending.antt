-- A store that lends what it lent has tables as long; and what stays beside an entry.
use Prim.Native.Nat.{ℕ}
use mathlib.Core.Path.{◌≡◌, ap}
use mathlib.Core.List.{List}
use lib.Ieee.{Float}
use lib.ListN.{get_or}
use Rattle.std.specs.Borrow.{GName}
use Rattle.keep.specs.Encode.{lengths, lengths_by}
use Rattle.keep.specs.Lent.{Lends, lends}
use Rattle.keep.specs.declared.Store.{Store}

pub lengths_stay : (s t : Store) → lends s ≡ lends t → lengths_by s ≡ lengths_by t
lengths_stay s t e =
    let none : GName × ℕ = (s.rules.ghost_name, 0) in
    ap (λ (l : List (GName × ℕ)). lengths (get_or l 0 none).1 (get_or l 1 none).1 (get_or l 2 none).1 (get_or l 3 none).1 (get_or l 4 none).1 (get_or l 5 none).1) e

-- ---- what stays beside one entry stays beside one that has it

pub numbers_beside_tests : {x y : Lends × List ℕ × List ℕ × List ℕ × List ℕ × List ℕ} → x ≡ y → ◌≡◌ {A = Lends × List ℕ × List ℕ × List ℕ × List ℕ} (x.0, x.1, x.2, x.4, x.5) (y.0, y.1, y.2, y.4, y.5)
numbers_beside_tests e = ap (λ (x : Lends × List ℕ × List ℕ × List ℕ × List ℕ × List ℕ). (x.0, x.1, x.2, x.4, x.5)) e

pub numbers_beside_properties : {x y : Lends × List ℕ × List ℕ × List ℕ × List ℕ × List ℕ} → x ≡ y → ◌≡◌ {A = Lends × List ℕ × List ℕ × List ℕ × List ℕ} (x.0, x.1, x.2, x.3, x.5) (y.0, y.1, y.2, y.3, y.5)
numbers_beside_properties e = ap (λ (x : Lends × List ℕ × List ℕ × List ℕ × List ℕ × List ℕ). (x.0, x.1, x.2, x.3, x.5)) e

pub tests_beside_selectors : {x y : Lends × List ℕ × List ℕ × List ℕ × List ℕ} → x ≡ y → ◌≡◌ {A = Lends × List ℕ × List ℕ × List ℕ} (x.0, x.1, x.3, x.4) (y.0, y.1, y.3, y.4)
tests_beside_selectors e = ap (λ (x : Lends × List ℕ × List ℕ × List ℕ × List ℕ). (x.0, x.1, x.3, x.4)) e

pub selectors_beside_rules : {x y : Lends × List ℕ × List ℕ × List ℕ} → x ≡ y → ◌≡◌ {A = Lends × List ℕ} (x.0, x.3) (y.0, y.3)
selectors_beside_rules e = ap (λ (x : Lends × List ℕ × List ℕ × List ℕ). (x.0, x.3)) e

pub properties_beside_rules : {x y : Lends × List ℕ × List ℕ × List ℕ × List ℕ} → x ≡ y → ◌≡◌ {A = Lends × List ℕ} (x.0, x.4) (y.0, y.4)
properties_beside_rules e = ap (λ (x : Lends × List ℕ × List ℕ × List ℕ × List ℕ). (x.0, x.4)) e

pub rules_lend : {x y : Lends × List ℕ} → x ≡ y → x.0 ≡ y.0
rules_lend e = ap (λ (x : Lends × List ℕ). x.0) e

pub rules_colors : {x y : Lends × List ℕ} → x ≡ y → x.1 ≡ y.1
rules_colors e = ap (λ (x : Lends × List ℕ). x.1) e

pub properties_colors : {x y : Lends × List ℕ × List ℕ × List ℕ × List ℕ} → x ≡ y → x.4 ≡ y.4
properties_colors e = ap (λ (x : Lends × List ℕ × List ℕ × List ℕ × List ℕ). x.4) e

pub colors_lend : {x y : Lends × List ℕ × List ℕ × List ℕ × List ℕ × List Float} → x ≡ y → x.0 ≡ y.0
colors_lend e = ap (λ (x : Lends × List ℕ × List ℕ × List ℕ × List ℕ × List Float). x.0) e
