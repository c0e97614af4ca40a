-- The walk of one entity through a sheet: the layers of its matched selectors, or the first refusal.
use Rattle.std.specs.Prelude.{ℕ, Bool, true, false, ◌||◌, cond, List, [], ◌∷◌, map, ltb, length}
use Rattle.base.specs.Entity.{Entity}
use Rattle.sheet.specs.Sheet.{Rule}
use Rattle.cascade.specs.Map.{keep}
use Rattle.cascade.specs.Clause.{Clause, clauses, layer_name}
use Rattle.cascade.specs.Match.{Verdict, pass, fail, out, verdict}
use Rattle.cascade.specs.Cascade.{Hit, Layers, step}

-- Of a refusal only the number: the place of the entity in its stream is the caller's.
pub data Answer (A : Type 0) : Type 0 where
  refused : ℕ → Answer A
  layers : Layers A → Answer A

abbrev pub is_pass : Verdict → Bool
is_pass pass = true
is_pass fail = false
is_pass out = false

module _ {A : Type 0} where
  abbrev pub to_hit : Clause A → Hit A
  to_hit c = record { layer = layer_name c.selector; properties = c.assigns }

  -- some layer holds more than 128 names
  unfoldable pub crowded : Layers A → Bool
  crowded [] = false
  crowded (e ∷ m) = ltb 128 (length e.value) || crowded m

  -- 23 for a 33rd layer, before 24 for a 129th name in a layer; where the layers keep both bounds, go on
  abbrev pub admit : Layers A → Answer A → Answer A
  admit m a = cond (ltb 32 (length m)) (refused 23) (cond (crowded m) (refused 24) a)

  abbrev pub react : Verdict → Answer A → Answer A → Answer A
  react pass matched next = matched
  react fail matched next = next
  react out matched next = refused 8

  -- what a refusal stops
  abbrev pub continue : Answer A → (Layers A → Answer A) → Answer A
  continue (refused n) f = refused n
  continue (layers m) f = f m

module _ {A : Type 0} (z : ℕ) (e : Entity) where
  unfoldable pub walk : Layers A → List (Clause A) → Answer A
  walk m [] = layers m
  walk m (c ∷ cs) =
      react (verdict z e c.selector) (admit (step m (to_hit c)) (walk (step m (to_hit c)) cs)) (walk m cs)

  unfoldable pub property_maps : List (Rule A) → Answer A
  property_maps rs = walk [] (clauses rs)

  abbrev pub matched : Clause A → Bool
  matched c = is_pass (verdict z e c.selector)

  -- the matched selectors, in rule and selector order
  unfoldable pub hits : List (Clause A) → List (Hit A)
  hits cs = map to_hit (keep matched cs)
