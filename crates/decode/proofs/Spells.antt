-- The proof of what Spells states.
use Prim.Native.Nat.{◌-◌, ◌<◌}
use native.Mathlib.Omega.{arith}
use mathlib.Core.Path.{◌≡◌, refl, sym, subst}
use mathlib.Core.List.{[]}
use lib.ListN.{length, replicate}
use Rattle.base.specs.Bytes.{Bytes}
use Rattle.base.specs.Table.{zero_float}
use Rattle.sheet.specs.Digits.{digits_for}
use Rattle.grammar.specs.Capacity.{empty, tables_of, Bounded}
use Rattle.grammar.proofs.CapacityLaws.{reading_takes}
use Rattle.grammar.specs.Entries.{entries_of}
use Rattle.grammar.specs.Reading.{Reading}
use Rattle.grammar.specs.Rules.{rules_of_reading}
use Rattle.keep.specs.Encode.{Lengths, capacities, add_rows, rows_of, lent_of}
use Rattle.keep.specs.Lent.{lent_store}
use Rattle.keep.proofs.Loaded.{loaded_accepted}
use Rattle.keep.proofs.Rows.{rows_counted, rows_all}
use Rattle.sound.specs.Lies.{Each}
use Rattle.sound.proofs.Passing.{few}
use Rattle.decode.specs.Decode.{rules_at}
use Rattle.decode.specs.Spells.{TablesSpell}
use Rattle.decode.proofs.Begun.{Begins}
use Rattle.sound.proofs.Drawn.{ItemDrawn, reading_drawn}
use Rattle.decode.proofs.Spelling.{Spells, reading_spells}

-- the tables of a reading begin with its rows
tables_begin : (l : Lengths) (js : Reading) → Bounded (capacities l) js → Begins (rows_of (tables_of js)) (lent_of l (tables_of js))
tables_begin l js b =
    let υ = tables_of js in
    let ρ = rows_of υ in
    let c = rows_counted υ in
    let c₂ = c.selectors in
    let c₃ = c.tests in
    let c₄ = c.properties in
    let c₅ = c.numbers in
    let b₂ = b 2 in
    let b₃ = b 3 in
    let b₄ = b 4 in
    let b₅ = b 5 in
    let t₂ = reading_takes js 2 in
    let t₃ = reading_takes js 3 in
    let t₄ = reading_takes js 4 in
    let t₅ = reading_takes js 5 in
    let f₂ = few 8 l.selectors in
    let f₃ = few 8 l.tests in
    let f₄ = few 8 l.properties in
    let f₅ = few 1 l.numbers in
    record {
      rules = (replicate (l.rules - length ρ.rules) 0, refl);
      selectors = (replicate (l.selectors - length ρ.selectors) 0, refl);
      tests = (replicate (l.tests - length ρ.tests) 0, refl);
      properties = (replicate (l.properties - length ρ.properties) 0, refl);
      numbers = (replicate (l.numbers - length ρ.numbers) zero_float, refl);
      few_selectors = omega arith;
      few_tests = omega arith;
      few_properties = omega arith;
      few_numbers = omega arith;
    }

-- the tables of a reading whose names stand in the bundle
pub filled_spell :
    (bundle : Bytes)
    → length bundle < 4294967296
    → (l : Lengths) (js : Reading)
    → Bounded (capacities l) js
    → Each (ItemDrawn bundle) js
    → rules_at bundle (lent_of l (tables_of js)) ≡ rules_of_reading digits_for js
unfolding add_rows rules_at
filled_spell bundle short l js b d =
    let v =
    subst (λ ρ. Spells bundle ρ (rules_of_reading digits_for js) [] [] []) (sym (rows_all (entries_of js) empty))
    (reading_spells bundle short js d) in
    v.rules (lent_of l (tables_of js)) (tables_begin l js b)

pub tables_spell : TablesSpell
tables_spell bundle short l c f τ js e =
    let h = loaded_accepted bundle l short c f τ js e in
    rw h.1.1 (filled_spell bundle short l js h.1.0 (reading_drawn bundle (lent_store bundle) c js h.0))
