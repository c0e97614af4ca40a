-- The walk as the engine meets the bounds: 23 before a layer is made, 24 after each property.
use Rattle.std.specs.Prelude.{ℕ, cond, List, [], ◌∷◌, map, ltb, length}
use Rattle.base.specs.Bytes.{Bytes}
use Rattle.base.specs.Map.{Entry}
use Rattle.base.specs.Entity.{Entity}
use Rattle.sheet.specs.Sheet.{Rule}
use Rattle.cascade.specs.Clause.{Clause, clauses}
use Rattle.cascade.specs.Match.{verdict}
use Rattle.cascade.specs.Cascade.{Hit, Layers, ensure, touch}
use Rattle.cascade.specs.Walk.{Answer, refused, layers, to_hit, crowded, react, continue}

module _ {A : Type 0} where
  abbrev pub hit : Bytes → List (Entry A) → Hit A
  hit l ps = record { layer = l; properties = ps }

  -- the properties one by one, each to every layer that it reaches
  unfoldable pub fill : Bytes → Layers A → List (Entry A) → Answer A
  fill l m [] = layers m
  fill l m (p ∷ ps) = cond (crowded (map (touch (hit l (p ∷ []))) m)) (refused 24) (fill l (map (touch (hit l (p ∷ []))) m) ps)

  unfoldable pub fine_step : Layers A → Hit A → Answer A
  fine_step m h = cond (ltb 32 (length (ensure m h.layer))) (refused 23) (fill h.layer (ensure m h.layer) h.properties)

module _ {A : Type 0} (z : ℕ) (e : Entity) where
  unfoldable pub fine_walk : Layers A → List (Clause A) → Answer A
  fine_walk m [] = layers m
  fine_walk m (c ∷ cs) =
      react (verdict z e c.selector) (continue (fine_step m (to_hit c)) (λ w. fine_walk w cs)) (fine_walk m cs)

  unfoldable pub fine_property_maps : List (Rule A) → Answer A
  fine_property_maps rs = fine_walk [] (clauses rs)
