-- Demand 2: what the layers of an entity are, where the walk refuses nothing. MeaningProof proves it, and that it leaves no choice.
use Rattle.std.specs.Prelude.{ℕ, ◌≡◌, ◌↔◌, true, false}
use mathlib.Core.List.{List, [], ◌∷◌, ◌++◌, map, Memᴰ}
use Rattle.std.proofs.Math.Option.{Option, none, some}
use Rattle.base.specs.Bytes.{Bytes}
use Rattle.base.specs.Map.{Entry, Map, entry, key_of, lookup, member}
use Rattle.base.specs.Entity.{Entity}
use Rattle.sheet.specs.Sheet.{Rule}
use Rattle.cascade.specs.Map.{firsts}
use Rattle.cascade.specs.Clause.{Clause, clauses, layer_name}
use Rattle.cascade.specs.Match.{pass, present, verdict}
use Rattle.cascade.specs.Cascade.{Layers, layer_of, assigned}
use Rattle.cascade.specs.Walk.{layers, property_maps, hits}

-- o is what the last of the assignments bs to the name n assigns: absent if none does
pub data Last {A : Type 0} (n : Bytes) (bs : List (Entry A)) : Option A → Type 0 where
  never : member n (map key_of bs) ≡ false → Last n bs none
  last :
      (before : List (Entry A)) (x : A) (after : List (Entry A))
      → bs ≡ before ++ (entry n x ∷ after)
      → member n (map key_of after) ≡ false
      → Last n bs (some x)

-- a matched selector of the sheet names the layer k
pub record Named {A : Type 0} (z : ℕ) (e : Entity) (rs : List (Rule A)) (k : Bytes) : Type 0 where
  pub by : Clause A
  pub stands : Memᴰ by (clauses rs)
  pub matches : verdict z e by.selector ≡ pass
  pub names : layer_name by.selector ≡ k

pub record Meaning {A : Type 0} (z : ℕ) (e : Entity) (rs : List (Rule A)) (v : Layers A) : Type 0 where
  -- "a layer exists exactly if a matched selector names it"
  pub exists : (k : Bytes) → (present (lookup k v) ≡ true) ↔ Named z e rs k
  -- "each property there is the last assigned, in rule, selector and property order, by matched selectors of that layer or "*", absent if none"
  pub properties :
      (k : Bytes) (m : Map A)
      → lookup k v ≡ some m
      → (n : Bytes)
      → Last n (assigned k (hits z e (clauses rs))) (lookup n m)
  -- "names within one in order of first assignment by it or `*`"
  pub name_order :
      (k : Bytes) (m : Map A)
      → lookup k v ≡ some m
      → map key_of m ≡ firsts [] (map key_of (assigned k (hits z e (clauses rs))))
  -- "Layers stand in order of first match"
  pub layer_order : map key_of v ≡ firsts [] (map layer_of (hits z e (clauses rs)))

-- the whole of demand 2 on rules
abbrev pub Demand2 : Type 0 → Type 0
Demand2 A =
    (z : ℕ) (e : Entity) (rs : List (Rule A)) (v : Layers A)
    -- the call is not refused
    → property_maps z e rs ≡ layers v
    → Meaning z e rs v
