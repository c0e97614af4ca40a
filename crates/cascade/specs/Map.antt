-- Ordered maps as lists of entries, in order of first insertion: layers, property maps and tags are all such maps.
use Rattle.std.specs.Prelude.{◌≡◌, Bool, true, false, cond}
use mathlib.Core.List.{List, [], ◌∷◌, ◌++◌, foldl, map}
use Rattle.std.proofs.Math.Option.{Option, none, some}
use Rattle.base.specs.Bytes.{Bytes, same}
use Rattle.base.specs.Map.{Entry, Map, entry, key_of, member}

module _ {A : Type 0} where
  -- an overwritten name keeps its place
  unfoldable pub insert : Map A → Entry A → Map A
  insert [] a = a ∷ []
  insert (e ∷ m) a = cond (same a.key e.key) (entry e.key a.value ∷ m) (e ∷ insert m a)

  -- a list of assignments laid over a map
  abbrev pub overlay : Map A → List (Entry A) → Map A
  overlay = foldl insert

-- names in order of first occurrence
unfoldable pub add : List Bytes → Bytes → List Bytes
add ks k = cond (member k ks) ks (ks ++ (k ∷ []))

abbrev pub firsts : List Bytes → List Bytes → List Bytes
firsts = foldl add

-- the last assignment to a name, with what holds before the first
module _ {A : Type 0} where
  abbrev pub newer : Bytes → Option A → Entry A → Option A
  newer k o a = cond (same k a.key) (some a.value) o

  abbrev pub last_of : Bytes → Option A → List (Entry A) → Option A
  last_of k = foldl (newer k)

-- the members of a list that pass a test
module _ {A : Type 0} where
  unfoldable pub keep : (A → Bool) → List A → List A
  keep p [] = []
  keep p (x ∷ xs) = cond (p x) (x ∷ keep p xs) (keep p xs)

-- every member passes
unfoldable pub All : {A : Type 0} → (A → Bool) → List A → Type 0
All p [] = Unit {0}
All p (x ∷ xs) = (p x ≡ true) × All p xs

-- no name twice
abbrev pub Distinct : List Bytes → Type 0
Distinct [] = Unit {0}
Distinct (k ∷ ks) = (member k ks ≡ false) × Distinct ks

module _ {A : Type 0} where
  abbrev pub DistinctKeys : Map A → Type 0
  DistinctKeys m = Distinct (map key_of m)

-- options: as the Rust's map, and_then and or_else; and a map with other values
module _ {A B : Type 0} where
  abbrev pub map_option : (A → B) → Option A → Option B
  map_option f none = none
  map_option f (some x) = some (f x)

  unfoldable pub and_map : (A → Option B) → Option A → Option B
  and_map f none = none
  and_map f (some x) = f x

  abbrev pub map_entry : (A → B) → Entry A → Entry B
  map_entry f e = entry e.key (f e.value)

module _ {A : Type 0} where
  unfoldable pub or_else : Option A → Option A → Option A
  or_else none o = o
  or_else (some x) o = some x
