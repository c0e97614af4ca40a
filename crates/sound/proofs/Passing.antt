-- The proof of what Handed states.
use Prim.Native.Nat.{ℕ, ◌-◌, ◌*◌, ◌≤◌}
use native.Mathlib.Omega.{arith}
use mathlib.Core.Path.{◌≡◌, refl, sym, subst}
use mathlib.Core.Bool.{true}
use mathlib.Core.List.{List}
use lib.Dec.{leb}
use lib.Ieee.{Float}
use lib.ListN.{length, replicate}
use borrow.Author.Tests.{le-leb}
use Rattle.base.specs.Choice.{pick}
use Rattle.base.specs.Table.{zero_float, capacity_of, padded}
use Rattle.valid.specs.Valid.{rule_sound, selector_sound, test_sound, property_sound, all_below, entries_held, counts_held, entries_sound, tables_sound}
use Rattle.valid.specs.declared.Counts.{Counts}
use Rattle.grammar.specs.Capacity.{empty, tables_of}
use Rattle.grammar.proofs.CapacityLaws.{reading_takes}
use Rattle.grammar.specs.Entries.{entries_of}
use Rattle.keep.specs.Encode.{add_rows, rows_of, lent_of}
use Rattle.keep.specs.Lent.{lent_store}
use Rattle.sound.proofs.Drawn.{reading_lies}
use Rattle.keep.proofs.Loaded.{loaded_accepted}
use Rattle.keep.proofs.Rows.{rows_even, rows_counted, rows_all}
use Rattle.sound.proofs.Sound.{Sound, reading_sound}
use Rattle.sound.specs.Handed.{counts_of, TablesPass, LoadedPasses}
use Rattle.keep.proofs.Standing.{padded_long, eight_in, one_in}

held : (len n : ℕ) (es : List ℕ) → length es ≡ n * 8 → n ≤ capacity_of 8 len → entries_held n (length (padded 0 len es)) ≡ true
unfolding entries_held
held len n es e h =
    let g = eight_in len n h in
    rw (padded_long 0 len es (omega arith)) (le-leb n (capacity_of 8 len) h)

numbers_held :
    (len n : ℕ) (xs : List Float)
    → length xs ≡ n * 1
    → n ≤ capacity_of 1 len
    → leb n (capacity_of 1 (length (padded zero_float len xs))) ≡ true
numbers_held len n xs e h =
    let g = one_in len n h in
    rw (padded_long zero_float len xs (omega arith)) (le-leb n (capacity_of 1 len) h)

pub few : (k len : ℕ) → capacity_of k len ≤ 16384
unfolding capacity_of
few k len = omega arith

module _ (rs ss ts ps : List ℕ) (xs : List Float) (n : Counts) (bundle : ℕ) where
  sound_all :
      entries_held n.rules (length rs) ≡ true
      → entries_held n.selectors (length ss) ≡ true
      → entries_held n.tests (length ts) ≡ true
      → entries_held n.properties (length ps) ≡ true
      → leb n.numbers (capacity_of 1 (length xs)) ≡ true
      → all_below (rule_sound rs n.selectors n.properties) n.rules ≡ true
      → all_below (selector_sound ss n.tests bundle) n.selectors ≡ true
      → all_below (test_sound ts xs n.numbers bundle) n.tests ≡ true
      → all_below (property_sound ps n.numbers bundle) n.properties ≡ true
      → tables_sound rs ss ts ps xs n bundle ≡ true
  unfolding tables_sound counts_held entries_sound pick
  sound_all h₁ h₂ h₃ h₄ h₅ g₁ g₂ g₃ g₄ = rw (h₁, h₂, h₃, h₄, h₅, g₁, g₂, g₃, g₄) refl

pub tables_pass : TablesPass
unfolding add_rows
tables_pass bundle short l js b y =
    let υ = tables_of js in
    let ρ = rows_of υ in
    let n = ρ.tally in
    let v = subst (Sound bundle) (sym (rows_all (entries_of js) empty)) (reading_sound bundle short js y) in
    let e = rows_even υ in
    let c = rows_counted υ in
    let b₁ = b 1 in
    let b₂ = b 2 in
    let b₃ = b 3 in
    let b₄ = b 4 in
    let b₅ = b 5 in
    let t₁ = reading_takes js 1 in
    let t₂ = reading_takes js 2 in
    let t₃ = reading_takes js 3 in
    let t₄ = reading_takes js 4 in
    let t₅ = reading_takes js 5 in
    let h₁ : n.rules ≤ capacity_of 8 l.rules = omega arith in
    let h₂ : n.selectors ≤ capacity_of 8 l.selectors = omega arith in
    let h₃ : n.tests ≤ capacity_of 8 l.tests = omega arith in
    let h₄ : n.properties ≤ capacity_of 8 l.properties = omega arith in
    let h₅ : n.numbers ≤ capacity_of 1 l.numbers = omega arith in
    let f₂ = few 8 l.selectors in
    let f₃ = few 8 l.tests in
    let f₄ = few 8 l.properties in
    let f₅ = few 1 l.numbers in
    sound_all _ _ _ _ _ (counts_of (lent_of l υ)) bundle
    (held l.rules n.rules ρ.rules e.rules h₁)
    (held l.selectors n.selectors ρ.selectors e.selectors h₂)
    (held l.tests n.tests ρ.tests e.tests h₃)
    (held l.properties n.properties ρ.properties e.properties h₄)
    (numbers_held l.numbers n.numbers ρ.numbers e.numbers h₅)
    (v.rules (replicate (l.rules - length ρ.rules) 0) n.selectors n.properties (omega arith) (omega arith)
    (omega arith) (omega arith))
    (v.selectors (replicate (l.selectors - length ρ.selectors) 0) n.tests (omega arith) (omega arith))
    (v.tests (replicate (l.tests - length ρ.tests) 0) (replicate (l.numbers - length ρ.numbers) zero_float)
    n.numbers (omega arith) (omega arith))
    (v.properties (replicate (l.properties - length ρ.properties) 0) n.numbers (omega arith) (omega arith))

pub loaded_passes : LoadedPasses
loaded_passes bundle short l c f τ js e =
    let h = loaded_accepted bundle l short c f τ js e in
    rw h.1.1 (tables_pass (length bundle) short l js h.1.0 (reading_lies bundle (lent_store bundle) c js h.0))
