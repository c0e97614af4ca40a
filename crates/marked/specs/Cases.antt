-- A sheet alone in its bundle, and what its load answers and leaves in small tables.
use Rattle.std.specs.Prelude.{ℕ, ◌≡◌, [], ◌∷◌, ◌++◌, Result, Err}
use Rattle.base.specs.Bytes.{Bytes, ascii}
use Rattle.base.specs.Map.{entry}
use Rattle.base.specs.Refusal.{refusal}
use Rattle.bundle.specs.Bundle.{bundle_bytes}
use Rattle.keep.specs.Encode.{Lengths, lengths}
use Rattle.parser.specs.Load.{Held, zeros, load_of}
use Rattle.parser.specs.declared.Counts.{Counts}
use Rattle.base.specs.declared.refusal.Refusal.{Refusal}

pub record Case : Type 0 where
  pub sheet : Bytes
  pub answer : Result Counts Refusal
  pub tables : Held

-- room for one entry in each table
abbrev pub small : Lengths
small = lengths 8 8 8 8 1 8

abbrev pub refuses : Bytes → ℕ → ℕ → ℕ → ℕ → Case
refuses s number reason line character =
    record { sheet = s; answer = Err (refusal number reason 0 line character); tables = zeros small }

abbrev pub counts : ℕ → ℕ → ℕ → ℕ → ℕ → ℕ → Counts
counts a b c d e f = record { rules = a; selectors = b; tests = c; properties = d; numbers = e; colors = f }

-- the sheet as text 0 of a bundle of its own
abbrev pub alone : Bytes → Bytes
alone s = bundle_bytes (entry (ascii "s") s ∷ [])

abbrev pub Holds : Case → Type 0
Holds c = load_of (alone c.sheet) small ≡ (c.answer, c.tables)

-- a quotation mark is byte 34
abbrev pub eval_sheet : Bytes
eval_sheet = ascii "way{casing-width:eval(prop(" ++ (34 ∷ []) ++ ascii "width" ++ (34 ∷ []) ++ ascii "));}"
