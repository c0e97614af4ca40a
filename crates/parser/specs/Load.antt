-- A load: the refusal of the first event in reading order, or the counts; and what the six tables hold then.
use Rattle.std.specs.Prelude.{ℕ, ◌≡◌, List, Float, replicate, Result, Ok, Err}
use Rattle.base.specs.Bytes.{Bytes}
use Rattle.base.specs.Table.{zero_float}
use Rattle.base.specs.declared.Range.{Range}
use Rattle.base.specs.declared.refusal.Refusal.{Refusal}
use Rattle.bundle.specs.Bundle.{ranges_of, check_of}
use Rattle.cursor.specs.Cursor.{start}
use Rattle.group.specs.Pair.{nth_of}
use Rattle.grammar.specs.Accepted.{load_into}
use Rattle.grammar.specs.Capacity.{Tables}
use Rattle.grammar.specs.Input.{Answer, refused, read}
use Rattle.grammar.specs.Reader.{load}
use Rattle.grammar.specs.Reading.{Reading}
use Rattle.keep.specs.Encode.{Lengths, capacities, tally_of, lent_of}
use Rattle.keep.specs.Lent.{Lent, range}
use Rattle.keep.specs.Source.{reading}
use Rattle.input.specs.Source.{Spot, spot, source}
use Rattle.keep.specs.declared.Store.{Store}
use Rattle.keep.specs.declared.Tally.{Tally}
use Rattle.sheets.specs.Sheets.{Parses}
use Rattle.parser.specs.declared.Counts.{Counts}
use Rattle.base.specs.Option.{on_option2, on_result}

-- the six tables
pub record Held : Type 0 where
  pub rules : List ℕ
  pub selectors : List ℕ
  pub tests : List ℕ
  pub properties : List ℕ
  pub numbers : List Float
  pub colors : List ℕ

abbrev pub held : List ℕ → List ℕ → List ℕ → List ℕ → List Float → List ℕ → Held
held rs ss ts ps xs cs = record { rules = rs; selectors = ss; tests = ts; properties = ps; numbers = xs; colors = cs }

-- those of a store
abbrev pub held_by : Store → Held
held_by s = held s.rules.now s.selectors.now s.tests.now s.properties.now s.numbers.now s.colors.now

-- all zero
abbrev pub zeros : Lengths → Held
zeros l =
    held (replicate l.rules 0) (replicate l.selectors 0) (replicate l.tests 0) (replicate l.properties 0)
    (replicate l.numbers zero_float) (replicate l.colors 0)

-- what the lent tables hold
abbrev pub held_in : Lent → Held
held_in τ = held τ.rules τ.selectors τ.tests τ.properties τ.numbers τ.colors

abbrev pub counts_of : Tally → Counts
counts_of n =
    record { rules = n.rules; selectors = n.selectors; tests = n.tests; properties = n.properties; numbers = n.numbers; colors = n.colors }

-- where text 0 stands in the bundle
unfoldable pub first_text : Bytes → Range
first_text bundle = on_option2 (nth_of (ranges_of bundle) 0) (range 0 0) λ name text. text

-- its start
abbrev pub sheet_at : Bytes → Spot
sheet_at bundle = spot (source 0 (first_text bundle)) start

-- of a reading into lists of entries, with the capacities of these lengths: a refusal leaves zeros; a sheet leaves its entries in
-- words (keep/specs/Encode.antt), and zeros behind them
unfoldable pub loaded : Lengths → Answer Reading Spot Tables Refusal → Result Counts Refusal × Held
loaded l (refused e υ) = (Err e, zeros l)
loaded l (read js c υ) = (Ok (counts_of (tally_of υ)), held_in (lent_of l υ))

-- the layout (1) and the UTF-8 (2) of the bundle come first, then the grammar's reader on text 0, at depth 8
unfoldable pub load_of : Bytes → Lengths → Result Counts Refusal × Held
load_of bundle l =
    on_result (check_of bundle) (λ e. (Err e, zeros l)) λ count.
    loaded l (load_into (reading bundle) (capacities l) (sheet_at bundle))

-- ---- inside a load

-- from the tables τ to the tables τ'
abbrev pub BundleRead : Bytes → Lent → Lent → Result Unit Refusal → Type 0
BundleRead bundle τ τ' r =
    ((e : Refusal) → check_of bundle ≡ Err e → r ≡ Err e)
    × ((count : ℕ) → check_of bundle ≡ Ok count → Parses τ' r (load (reading bundle) (sheet_at bundle) τ))
