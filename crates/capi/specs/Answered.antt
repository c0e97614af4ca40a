-- What the exports answer and leave in their lent slices: crates/capi/src/lib.rt has the numbers as a table.
use Rattle.std.specs.Prelude.{ℕ, ◌≡◌, List, map, ℤ, pos, Float, Result}
use Rattle.base.specs.Table.{zero_float, padded, stored, flat}
use Rattle.parser.specs.Load.{Held}
use Rattle.styles.specs.declared.EntityStyles.{EntityStyles}
use Rattle.style_rows.specs.Rows.{row_words, row_floats, row_layer}
use Rattle.answers.specs.Answers.{told_load, told_count, told_styles, styled_layers}
use Rattle.answer_words.specs.declared.Answer.{Answer}
use Rattle.base.specs.declared.refusal.Refusal.{Refusal}
use Rattle.parser.specs.declared.Counts.{Counts}

-- an answer's number, and its five words in out
pub record Told (s : Answer 5) (r : ℕ) (out out' : List ℕ) : Type 0 where
  pub kind : r ≡ s.kind
  pub stored_words : out' ≡ stored out 0 s.words

-- a load: the answer's six words, and the tables
pub record LoadAnswered (x : Result Counts Refusal × Held) (r : ℕ) (tables : Held) (out out' : List ℕ) : Type 0 where
  pub kind : r ≡ (told_load x.0).kind
  pub left_tables : tables ≡ x.1
  pub stored_words : out' ≡ stored out 0 (told_load x.0).words

-- property maps
pub record MapsAnswered (x : Result ℕ Refusal × List ℕ) (r : ℕ) (maps out out' : List ℕ) : Type 0 where
  pub told : Told (told_count x.0) r out out'
  pub left_maps : maps ≡ x.1

-- styles: a row for each styled layer, then zeros
pub record StylesAnswered (x : Result EntityStyles Refusal) (r : ℕ) (words : List ℕ) (floats : List Float) (layers : List ℤ) (out out' : List ℕ) : Type 0 where
  pub told : Told (told_styles x) r out out'
  pub left_words : words ≡ padded 0 1664 (flat (map row_words (styled_layers x)))
  pub left_floats : floats ≡ padded zero_float 192 (flat (map row_floats (styled_layers x)))
  pub left_layers : layers ≡ padded (pos 0) 32 (map row_layer (styled_layers x))

-- a drawing list
pub record ListAnswered (x : Result ℕ Refusal × List ℕ) (r : ℕ) (list out out' : List ℕ) : Type 0 where
  pub told : Told (told_count x.0) r out out'
  pub left_list : list ≡ x.1
