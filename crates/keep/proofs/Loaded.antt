-- A load of a bundle's text into lent tables: accepted and refused as into bare lists, and the tables hold what the reading stores.
use Prim.Native.Nat.{◌<◌}
use mathlib.Core.Path.{◌≡◌}
use lib.ListN.{length}
use Rattle.base.specs.Bytes.{Bytes}
use Rattle.grammar.specs.Accepted.{Reads, load_into}
use Rattle.grammar.proofs.AcceptedProof.{stored_alike, stored_accepted, stored_accepts}
use Rattle.grammar.specs.Alike.{Alike}
use Rattle.grammar.specs.Capacity.{empty, tables_of, Bounded}
use Rattle.grammar.specs.Input.{read}
use Rattle.grammar.specs.Reader.{load}
use Rattle.grammar.specs.Reading.{Reading}
use Rattle.keep.specs.Encode.{Lengths, capacities, lent_of}
use Rattle.keep.specs.Lent.{Lent, lent_store}
use Rattle.keep.specs.Source.{reading}
use Rattle.input.specs.Text.{Small}
use Rattle.input.specs.Source.{Spot}
use Rattle.input.proofs.Fuel.{fueled}
use Rattle.input.proofs.Genuine.{Genuine, tokens_genuine}
use Rattle.keep.proofs.Standing.{Written, standing, written_empty}

module _ (bundle : Bytes) (l : Lengths) (short : length bundle < 4294967296) where
  -- refused alike too, with the same refusal
  pub loaded_alike :
      (c : Spot)
      → Alike (Written bundle l) (load (reading bundle) c (lent_of l empty)) (load_into (reading bundle) (capacities l) c)
  loaded_alike c =
      stored_alike (reading bundle) (Genuine bundle) Small (Written bundle l) (capacities l)
      (tokens_genuine bundle (lent_store bundle)) (standing bundle l short) (fueled bundle (lent_store bundle)) c (lent_of l empty)
      (written_empty bundle l)

  -- what is accepted is the grammar's and within the capacities, and the tables hold just what its reading stores
  pub loaded_accepted :
      (c f : Spot) (τ : Lent) (js : Reading)
      → load (reading bundle) c (lent_of l empty) ≡ read js f τ
      → Reads (reading bundle) c js × (Bounded (capacities l) js × (τ ≡ lent_of l (tables_of js)))
  loaded_accepted c f τ js e =
      let h =
      stored_accepted (reading bundle) (Genuine bundle) Small (Written bundle l) (capacities l)
      (tokens_genuine bundle (lent_store bundle)) (standing bundle l short) (fueled bundle (lent_store bundle)) c f (lent_of l empty) τ js
      (written_empty bundle l) e in
      (h.0, (h.1.0, h.1.1.is))

  -- what the grammar has, within the capacities, is accepted
  pub loaded_accepts :
      (c : Spot) (js : Reading)
      → Reads (reading bundle) c js
      → Bounded (capacities l) js
      → (f : Spot) × (load (reading bundle) c (lent_of l empty) ≡ read js f (lent_of l (tables_of js)))
  loaded_accepts c js r b =
      let h =
      stored_accepts (reading bundle) (Genuine bundle) Small (Written bundle l) (capacities l)
      (tokens_genuine bundle (lent_store bundle)) (standing bundle l short) (fueled bundle (lent_store bundle)) c (lent_of l empty) js
      (written_empty bundle l) r b in
      (h.0, rw (← h.1.1.1.is) h.1.1.0)
