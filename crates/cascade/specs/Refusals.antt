-- When the walk of one entity is refused, and with which number: the first selector that gives cause decides.
use Rattle.std.specs.Prelude.{ℕ, ◌<◌, ◌≤◌, ◌≡◌, true, List, [], ◌∷◌, ◌++◌, map, length}
use Rattle.base.specs.Bytes.{Bytes}
use Rattle.base.specs.Map.{key_of, member}
use Rattle.base.specs.Entity.{Entity}
use Rattle.sheet.specs.Sheet.{Rule, Test}
use Rattle.cascade.specs.Map.{firsts}
use Rattle.cascade.specs.Clause.{Clause, clauses}
use Rattle.cascade.specs.Match.{pass, verdict, Reached, Outside}
use Rattle.cascade.specs.Cascade.{Hit, Layers, layer_of, named, assigned}
use Rattle.cascade.specs.Walk.{layers, walk, hits}

-- one of the layers that the matched selectors name has more than 128 names, its own and those that "*" gave it
pub record ManyNames {A : Type 0} (hs : List (Hit A)) : Type 0 where
  pub layer : Bytes
  pub exists : member layer (map layer_of hs) ≡ true
  pub many : 128 < length (firsts [] (map key_of (assigned layer hs)))

-- the selector of c gives cause, after those of the clauses before it
pub data Cause {A : Type 0} (z : ℕ) (e : Entity) (before : List (Clause A)) (c : Clause A) : ℕ → Type 0 where
  -- 8: a reached numeric test of it meets a tag number outside the exact range
  outside : (t : Test) → Reached z e c.selector t → Outside e t → Cause z e before c 8
  -- 23: it matches, and with it the matched selectors name a 33rd layer
  layer33 :
      verdict z e c.selector ≡ pass
      → 32 < length (named (hits z e (before ++ (c ∷ []))))
      → Cause z e before c 23
  -- 24: it matches, they name 32 layers at most, and one of these has a 129th name
  name129 :
      verdict z e c.selector ≡ pass
      → length (named (hits z e (before ++ (c ∷ [])))) ≤ 32
      → ManyNames (hits z e (before ++ (c ∷ [])))
      → Cause z e before c 24

-- c gives cause for n, and the walk through all before it is not refused
pub record Refuses {A : Type 0} (z : ℕ) (e : Entity) (rs : List (Rule A)) (n : ℕ) : Type 0 where
  pub before : List (Clause A)
  pub here : Clause A
  pub after : List (Clause A)
  pub stands : clauses rs ≡ before ++ (here ∷ after)
  pub sofar : Layers A
  pub quiet : walk z e [] before ≡ layers sofar
  pub cause : Cause z e before here n
