-- Tables as lists of entries, with a capacity for each: what a reading takes in each, and when an entry has room.
use Rattle.std.specs.Prelude.{ℕ, ◌≤◌, Bool, cond, List, [], ◌∷◌, ◌++◌, length, leb, eqb}
use Rattle.std.proofs.Math.Option.{none, some}
use Rattle.grammar.specs.Reading.{Reading, Colors, define, colors_after}
use Rattle.grammar.specs.Input.{Entry, color_entry, table_of, Store}
use Rattle.grammar.specs.Entries.{entries_of, count}

pub record Tables : Type 0 where
  -- of the first five tables, in the order of storing
  pub entries : List Entry
  pub colors : Colors

abbrev pub tables : List Entry → Colors → Tables
tables es Δ = record { entries = es; colors = Δ }

abbrev pub empty : Tables
empty = tables [] []

-- the tables with one entry more; a colour defined anew takes no entry
unfoldable pub add : Tables → Entry → Tables
add τ (color_entry n c) = tables τ.entries (define τ.colors n c)
add τ e = tables (τ.entries ++ (e ∷ [])) τ.colors

unfoldable pub add_all : Tables → List Entry → Tables
add_all τ [] = τ
add_all τ (e ∷ es) = add_all (add τ e) es

-- the tables that a reading fills
abbrev pub tables_of : Reading → Tables
tables_of js = add_all empty (entries_of js)

-- how many entries of table k are taken
abbrev pub taken : ℕ → Tables → ℕ
taken k τ = cond (eqb 6 k) (length τ.colors) (count k τ.entries)

-- how many entries of table k a reading stores: colours count once for each name
abbrev pub stores : ℕ → Reading → ℕ
stores k js = cond (eqb 6 k) (length (colors_after [] js)) (count k (entries_of js))

-- bare lists, never full
abbrev pub endless : Store Tables
endless = record { put = λ e τ. some (add τ e); colors = λ τ. τ.colors }

module _ (capacity : ℕ → ℕ) where
  -- an entry has room if its table, with the entry, is within its capacity
  abbrev pub room : Entry → Tables → Bool
  room e τ = leb (taken (table_of e) (add τ e)) (capacity (table_of e))

  abbrev pub limited : Store Tables
  limited = record { put = λ e τ. cond (room e τ) (some (add τ e)) none; colors = λ τ. τ.colors }

  -- a reading for which the tables are large enough
  abbrev pub Bounded : Reading → Type 0
  Bounded js = (k : ℕ) → stores k js ≤ capacity k

  abbrev pub Fits : Tables → Type 0
  Fits τ = (k : ℕ) → taken k τ ≤ capacity k
