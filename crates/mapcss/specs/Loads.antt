-- What holds of every load: for every bundle, which may be any bytes, and every six lengths of the tables.
use Rattle.std.specs.Prelude.{ℕ, ◌≡◌, true, List, length, Ok, Err}
use Rattle.base.specs.Bytes.{Bytes}
use Rattle.base.specs.declared.refusal.Refusal.{Refusal}
use Rattle.bundle.specs.Bundle.{check_of}
use Rattle.grammar.specs.Capacity.{tables_of, Bounded}
use Rattle.grammar.specs.Reading.{Reading}
use Rattle.grammar.specs.Rules.{rules_of_reading}
use Rattle.keep.specs.Encode.{Lengths, capacities, tally_of, lent_of}
use Rattle.keep.specs.Lent.{lent}
use Rattle.keep.specs.declared.Tally.{Tally}
use Rattle.parser.specs.Load.{Held, zeros, held_in, counts_of, load_of}
use Rattle.parser.specs.declared.Counts.{Counts}
use Rattle.decode.specs.Decode.{rules_at}
use Rattle.sheet.specs.Digits.{digits_for}
use Rattle.sheet.specs.Sheet.{Rule, Value}
use Rattle.valid.specs.Valid.{tables_sound}
use Rattle.printing.specs.Plate.{five_of}
use Rattle.mapcss.specs.Sheets.{ReadsAs}

-- what a reading leaves in tables of these lengths, and its counts
abbrev pub counts_for : Reading → Counts
counts_for js = counts_of (tally_of (tables_of js))

abbrev pub tables_for : Lengths → Reading → Held
tables_for l js = held_in (lent_of l (tables_of js))

-- A load succeeds only if layout and UTF-8 of the bundle are sound and its sheet, by its characters, has a reading within the
-- capacities; the tables and the counts are then those of the reading ..
pub record Loads (bundle : Bytes) (l : Lengths) (n : Counts) (h : Held) : Type 0 where
  pub texts : ℕ
  pub checked : check_of bundle ≡ Ok texts
  pub js : Reading
  pub is_sheet_lem : ReadsAs bundle js
  pub fits : Bounded (capacities l) js
  pub counted : n ≡ counts_for js
  pub tables : h ≡ tables_for l js

abbrev pub Sound : Type 0
Sound = (bundle : Bytes) (l : Lengths) (n : Counts) (h : Held) → load_of bundle l ≡ (Ok n, h) → Loads bundle l n h

-- .. and it does succeed then.
abbrev pub Complete : Type 0
Complete =
    (bundle : Bytes) (l : Lengths) (texts : ℕ) (js : Reading)
    → check_of bundle ≡ Ok texts
    → ReadsAs bundle js
    → Bounded (capacities l) js
    → load_of bundle l ≡ (Ok (counts_for js), tables_for l js)

-- The rules that the tables spell, beside their bundle and so many as the counts say, are those of the reading.
abbrev pub tallied : Counts → Tally
tallied n =
    record
    { rules = n.rules; selectors = n.selectors; tests = n.tests; properties = n.properties; numbers = n.numbers; colors = n.colors; selector = n.selectors; test = n.tests; property = n.properties; number = n.numbers }

abbrev pub spelled_by : Bytes → Counts → Held → List (Rule Value)
spelled_by bundle n h =
    rules_at bundle (lent (tallied n) h.rules h.selectors h.tests h.properties h.numbers h.colors)

abbrev pub Spelled : Type 0
Spelled =
    (bundle : Bytes) (l : Lengths) (n : Counts) (h : Held) (s : Loads bundle l n h)
    → spelled_by bundle n h ≡ rules_of_reading digits_for s.js

-- All of it in one: a load succeeds with these counts and tables if and only if the sheet of the bundle has a reading that leaves
-- them, and then they spell the rules of that reading.
abbrev pub Exactly : Type 0
Exactly =
    (bundle : Bytes) (l : Lengths) (n : Counts) (h : Held)
    → (load_of bundle l ≡ (Ok n, h) → Loads bundle l n h)
    × ((s : Loads bundle l n h) → (load_of bundle l ≡ (Ok n, h)) × (spelled_by bundle n h ≡ rules_of_reading digits_for s.js))

-- Each bundle has one reading.
abbrev pub OneReading : Type 0
OneReading = (bundle : Bytes) (js ks : Reading) → ReadsAs bundle js → ReadsAs bundle ks → js ≡ ks

-- A refusal leaves every table zero to its end.
abbrev pub RefusalZeroes : Type 0
RefusalZeroes = (bundle : Bytes) (l : Lengths) (e : Refusal) (h : Held) → load_of bundle l ≡ (Err e, h) → h ≡ zeros l

-- No call that is handed the tables, the counts and the bundle of a load refuses them with 22.
abbrev pub NeverBroken : Type 0
NeverBroken =
    (bundle : Bytes) (l : Lengths) (n : Counts) (h : Held)
    → load_of bundle l ≡ (Ok n, h)
    → tables_sound h.rules h.selectors h.tests h.properties h.numbers (five_of n) (length bundle) ≡ true
