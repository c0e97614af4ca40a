-- The tables as a load leaves them, checked as handed tables are: they are never refused with 22.
use Rattle.std.specs.Prelude.{ℕ, ◌<◌, ◌≡◌, Bool, true, length}
use Rattle.base.specs.Bytes.{Bytes}
use Rattle.valid.specs.Valid.{tables_sound}
use Rattle.valid.specs.declared.Counts.{Counts}
use Rattle.grammar.specs.Capacity.{empty, tables_of, Bounded}
use Rattle.grammar.specs.Input.{read}
use Rattle.grammar.specs.Reader.{load}
use Rattle.grammar.specs.Reading.{Reading}
use Rattle.keep.specs.Encode.{Lengths, capacities, lent_of}
use Rattle.keep.specs.Lent.{Lent}
use Rattle.keep.specs.Source.{reading}
use Rattle.input.specs.Source.{Spot}
use Rattle.sound.specs.Lies.{Each, ItemLies}

abbrev pub counts_of : Lent → Counts
counts_of τ =
    let n = τ.tally in
    record { rules = n.rules; selectors = n.selectors; tests = n.tests; properties = n.properties; numbers = n.numbers }

-- the check of handed tables, beside a bundle of so many bytes
abbrev pub passes : Lent → ℕ → Bool
passes τ bundle = tables_sound τ.rules τ.selectors τ.tests τ.properties τ.numbers (counts_of τ) bundle

-- the tables that a reading fills, within the capacities
abbrev pub TablesPass : Type 0
TablesPass =
    (bundle : ℕ)
    → bundle < 4294967296
    → (l : Lengths) (js : Reading)
    → Bounded (capacities l) js
    → Each (ItemLies bundle) js
    → passes (lent_of l (tables_of js)) bundle ≡ true

-- the tables of whatever a load accepts
abbrev pub LoadedPasses : Type 0
LoadedPasses =
    (bundle : Bytes)
    → length bundle < 4294967296
    → (l : Lengths) (c f : Spot) (τ : Lent) (js : Reading)
    → load (reading bundle) c (lent_of l empty) ≡ read js f τ
    → passes τ (length bundle) ≡ true
