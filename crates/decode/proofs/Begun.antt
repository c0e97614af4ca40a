-- Tables that begin with rows, whatever stands behind them.
use Prim.Native.Nat.{ℕ, ◌-◌, ◌*◌, ◌<◌, ◌≤◌}
use native.Mathlib.Omega.{arith}
use mathlib.Core.Path.{◌≡◌, sym, ◌∙◌, ap, subst}
use mathlib.Core.List.{List, [], ◌∷◌, ◌++◌, append_assoc}
use lib.Ieee.{Float}
use lib.ListN.{length, get_or, take, drop, length-drop, get_or-append}
use lib.Seq.{take_at, drop-append-le}
use Rattle.base.specs.Table.{zero_float}
use Rattle.grammar.specs.Input.{Entry, rule_entry, selector_entry, test_entry, property_entry, number_entry, color_entry}
use Rattle.keep.specs.Encode.{Rows, add_row}
use Rattle.keep.specs.Lent.{Lent}
use Rattle.keep.proofs.Rows.{Even}
use Rattle.sound.proofs.Checked.{Row, row_there}

module _ {A : Type 0} where
  abbrev pub Starts : List A → List A → Type 0
  Starts xs t = (z : List A) × (t ≡ xs ++ z)

  starts_less : (xs ys t : List A) → Starts (xs ++ ys) t → Starts xs t
  starts_less xs ys t s = (ys ++ s.0, s.1 ∙ append_assoc xs ys s.0)

-- the last of the rows
pub row_in :
    (pre : List ℕ) (i a b c d e f g h : ℕ) (t : List ℕ)
    → Starts (pre ++ (a ∷ b ∷ c ∷ d ∷ e ∷ f ∷ g ∷ h ∷ [])) t
    → length pre ≡ i * 8
    → Row t i a b c d e f g h
row_in pre i a b c d e f g h t s p =
    subst (λ t. Row t i a b c d e f g h) (sym (s.1 ∙ append_assoc pre (a ∷ b ∷ c ∷ d ∷ e ∷ f ∷ g ∷ h ∷ []) s.0))
    (row_there pre i a b c d e f g h s.0 p)

-- the rows, then anything; the counts of the rows are below 2^32
pub record Begins (ρ : Rows) (τ : Lent) : Type 0 where
  pub rules : Starts ρ.rules τ.rules
  pub selectors : Starts ρ.selectors τ.selectors
  pub tests : Starts ρ.tests τ.tests
  pub properties : Starts ρ.properties τ.properties
  pub numbers : Starts ρ.numbers τ.numbers
  pub few_selectors : ρ.tally.selectors < 4294967296
  pub few_tests : ρ.tally.tests < 4294967296
  pub few_properties : ρ.tally.properties < 4294967296
  pub few_numbers : ρ.tally.numbers < 4294967296

-- with one row less
pub begins_row : (e : Entry) (ρ : Rows) (τ : Lent) → Begins (add_row ρ e) τ → Begins ρ τ
begins_row rule_entry ρ τ b =
    record {
      rules = starts_less ρ.rules _ τ.rules b.rules;
      selectors = b.selectors;
      tests = b.tests;
      properties = b.properties;
      numbers = b.numbers;
      few_selectors = b.few_selectors;
      few_tests = b.few_tests;
      few_properties = b.few_properties;
      few_numbers = b.few_numbers;
    }
begins_row (selector_entry σ) ρ τ b =
    let h = b.few_selectors in
    record {
      rules = b.rules;
      selectors = starts_less ρ.selectors _ τ.selectors b.selectors;
      tests = b.tests;
      properties = b.properties;
      numbers = b.numbers;
      few_selectors = omega arith;
      few_tests = b.few_tests;
      few_properties = b.few_properties;
      few_numbers = b.few_numbers;
    }
begins_row (test_entry x) ρ τ b =
    let h = b.few_tests in
    record {
      rules = b.rules;
      selectors = b.selectors;
      tests = starts_less ρ.tests _ τ.tests b.tests;
      properties = b.properties;
      numbers = b.numbers;
      few_selectors = b.few_selectors;
      few_tests = omega arith;
      few_properties = b.few_properties;
      few_numbers = b.few_numbers;
    }
begins_row (property_entry p) ρ τ b =
    let h = b.few_properties in
    record {
      rules = b.rules;
      selectors = b.selectors;
      tests = b.tests;
      properties = starts_less ρ.properties _ τ.properties b.properties;
      numbers = b.numbers;
      few_selectors = b.few_selectors;
      few_tests = b.few_tests;
      few_properties = omega arith;
      few_numbers = b.few_numbers;
    }
begins_row (number_entry x) ρ τ b =
    let h = b.few_numbers in
    record {
      rules = b.rules;
      selectors = b.selectors;
      tests = b.tests;
      properties = b.properties;
      numbers = starts_less ρ.numbers _ τ.numbers b.numbers;
      few_selectors = b.few_selectors;
      few_tests = b.few_tests;
      few_properties = b.few_properties;
      few_numbers = omega arith;
    }
begins_row (color_entry a c) ρ τ b = b

-- ---- numbers

-- the first number that no entry has taken
abbrev pub Next : Rows → Float → Type 0
Next ρ x = (ρ.tally.number < ρ.tally.numbers) × (get_or ρ.numbers ρ.tally.number zero_float ≡ x)

pub next_there :
    (ρ : Rows) (τ : Lent) (x : Float)
    → Even ρ
    → Begins ρ τ
    → Next ρ x
    → get_or τ.numbers ρ.tally.number zero_float ≡ x
next_there ρ τ x e b n =
    let i = ρ.tally.number in
    let l = e.numbers in
    let h = n.0 in
    ap (λ xs. get_or xs i zero_float) b.numbers.1
    ∙ get_or-append ρ.numbers b.numbers.0 zero_float i (omega arith)
    ∙ n.1

-- all of them
pub fresh_there :
    (ρ : Rows) (τ : Lent) (xs : List Float)
    → Even ρ
    → Begins ρ τ
    → ρ.tally.number ≤ ρ.tally.numbers
    → drop ρ.tally.number ρ.numbers ≡ xs
    → take (ρ.tally.numbers - ρ.tally.number) (drop ρ.tally.number τ.numbers) ≡ xs
fresh_there ρ τ xs e b h d =
    let i = ρ.tally.number in
    let k = ρ.tally.numbers - i in
    let z = b.numbers.0 in
    let l = e.numbers in
    let m = length-drop i ρ.numbers in
    ap (λ xs. take k (drop i xs)) b.numbers.1
    ∙ ap (take k) (drop-append-le i ρ.numbers z (omega arith))
    ∙ take_at (drop i ρ.numbers) z k (omega arith)
    ∙ d
