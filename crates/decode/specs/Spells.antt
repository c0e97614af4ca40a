-- What a load leaves in the tables spells the rules of the grammar's reading.
use Rattle.std.specs.Prelude.{◌<◌, ◌≡◌, length}
use Rattle.base.specs.Bytes.{Bytes}
use Rattle.sheet.specs.Digits.{digits_for}
use Rattle.grammar.specs.Capacity.{empty}
use Rattle.grammar.specs.Input.{read}
use Rattle.grammar.specs.Reader.{load}
use Rattle.grammar.specs.Reading.{Reading}
use Rattle.grammar.specs.Rules.{rules_of_reading}
use Rattle.keep.specs.Encode.{Lengths, lent_of}
use Rattle.keep.specs.Lent.{Lent}
use Rattle.keep.specs.Source.{reading}
use Rattle.input.specs.Source.{Spot}
use Rattle.decode.specs.Decode.{rules_at}

-- of whatever a load of a bundle's text into zeroed tables accepts
abbrev pub TablesSpell : Type 0
TablesSpell =
    (bundle : Bytes)
    → length bundle < 4294967296
    → (l : Lengths) (c f : Spot) (τ : Lent) (js : Reading)
    → load (reading bundle) c (lent_of l empty) ≡ read js f τ
    → rules_at bundle τ ≡ rules_of_reading digits_for js
