-- Ordered maps by names: the texts of a bundle, the tags of an entity, layers and property maps are all such maps.
use Rattle.std.specs.Prelude.{Bool, false, cond, ◌||◌, List, [], ◌∷◌}
use Rattle.std.proofs.Math.Option.{Option, none, some}
use Rattle.base.specs.Bytes.{Bytes, same}

pub record Entry (A : Type 0) : Type 0 where
  pub key : Bytes
  pub value : A

abbrev pub Map : Type 0 → Type 0
Map A = List (Entry A)

module _ {A : Type 0} where
  abbrev pub entry : Bytes → A → Entry A
  entry k v = record { key = k; value = v }

  abbrev pub key_of : Entry A → Bytes
  key_of e = e.key

  -- the value of the first entry with a key
  unfoldable pub lookup : Bytes → Map A → Option A
  lookup k [] = none
  lookup k (e ∷ m) = cond (same k e.key) (some e.value) (lookup k m)

-- whether a name is among names
unfoldable pub member : Bytes → List Bytes → Bool
member k [] = false
member k (x ∷ xs) = same k x || member k xs
