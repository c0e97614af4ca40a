-- A bundle and the lent tables, as what the grammar's reader reads from and stores into.
use Rattle.base.specs.Bytes.{Bytes}
use Rattle.base.specs.declared.refusal.Refusal.{Refusal}
use Rattle.grammar.specs.Input.{Input}
use Rattle.input.specs.Source.{Spot, input_of}
use Rattle.input.specs.declared.Place.{Place}
use Rattle.keep.specs.Lent.{Lent, lent_store}

module _ (bundle : Bytes) where
  abbrev pub reading : Input Spot Lent Place Refusal
  reading = input_of bundle (lent_store bundle)
