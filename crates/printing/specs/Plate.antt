-- What plate prints, as a function of its input: bad framing is refusal 1, then the load into tables of 512 entries, then the maps.
use Rattle.std.specs.Prelude.{ℕ, List, [], ◌∷◌, replicate, Result, Ok, Err}
use Rattle.base.specs.Bytes.{Bytes, within}
use Rattle.base.specs.Refusal.{refusal}
use Rattle.base.specs.Table.{zero_float}
use Rattle.base.specs.declared.Range.{Range}
use Rattle.base.specs.declared.refusal.Refusal.{Refusal}
use Rattle.cascade.specs.Clause.{layer_name}
use Rattle.decode.specs.Decode.{selector_in, name_at}
use Rattle.keep.specs.Encode.{Lengths, lengths}
use Rattle.parser.specs.Load.{Held, held, zeros, load_of}
use Rattle.parser.specs.declared.Counts.{Counts}
use Rattle.valid.specs.declared.Counts.{Counts as Counts'}
use Rattle.walk.specs.Maps.{no_rows, maps_of}
use Rattle.maps.specs.Held.{layers_held}
use Rattle.printing.specs.Frame.{frame_of}
use Rattle.printing.specs.declared.Buffers.{Buffers}
use Rattle.line.specs.Lines.{refusal_line, lines_of}
use Rattle.base.specs.Option.{on_option3}

-- the tables lent: 512 entries each
abbrev pub room : Lengths
room = lengths 4096 4096 4096 4096 512 4096

-- the counts that styling reads
abbrev pub five_of : Counts → Counts'
five_of n = record { rules = n.rules; selectors = n.selectors; tests = n.tests; properties = n.properties; numbers = n.numbers }

-- the answer, and what the lent tables then hold
pub record Plate : Type 0 where
  pub answer : Result (Range × ℕ) Refusal
  pub tables : Held
  pub maps : List ℕ

abbrev pub plate : Result (Range × ℕ) Refusal → Held → List ℕ → Plate
plate a h t = record { answer = a; tables = h; maps = t }

-- what buffers hold
abbrev pub held_in : Buffers → Held
held_in t = held t.rules t.selectors t.tests t.properties t.numbers t.colors

abbrev pub plate_in : Result (Range × ℕ) Refusal → Buffers → Plate
plate_in a t = plate a (held_in t) t.maps

-- buffers of zeros
abbrev pub empty : Buffers
empty =
    record
    { rules = replicate 4096 0; selectors = replicate 4096 0; tests = replicate 4096 0; properties = replicate 4096 0; numbers = replicate 512 zero_float; colors = replicate 4096 0; maps = no_rows }

abbrev pub refused : Refusal → Held → Plate
refused e h = plate (Err e) h no_rows

unfoldable pub mapped : Range → Held → Result ℕ Refusal × List ℕ → Plate
mapped b h (Err e, t) = plate (Err e) h t
mapped b h (Ok k, t) = plate (Ok (b, k)) h t

unfoldable pub loaded_plate : ℕ → Range → Bytes → Bytes → Result Counts Refusal × Held → Plate
loaded_plate zoom b bundle entity (Err e, h) = refused e h
loaded_plate zoom b bundle entity (Ok n, h) =
    mapped b h (maps_of bundle h.rules h.selectors h.tests h.properties h.numbers (five_of n) zoom entity)

unfoldable pub plate_of : Bytes → Plate
plate_of input =
    on_option3 (frame_of input) (refused (refusal 1 0 0 0 0) (zeros room)) λ zoom b e.
    loaded_plate zoom b (within b input) (within e input) (load_of (within b input) room)

-- its lines
abbrev pub lines_for : Bytes → Plate → List Bytes
lines_for input p = shown p.answer
  where
    shown : Result (Range × ℕ) Refusal → List Bytes
    shown (Err e) = refusal_line e ∷ []
    shown (Ok (b, k)) =
        let bundle = within b input in
        let h = p.tables in
        lines_of
        (layers_held (name_at bundle h.properties)
        (λ s. layer_name (selector_in bundle h.selectors h.tests h.numbers s))
        p.maps k)

unfoldable pub printed : Bytes → List Bytes
printed input = lines_for input (plate_of input)
