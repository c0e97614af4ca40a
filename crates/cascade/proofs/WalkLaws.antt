-- Where the walk refuses nothing its layers are those that the matched selectors declare.
use Rattle.std.specs.Prelude.{ℕ, ◌≤◌, ◌≡◌, false, ltb, length}
use Rattle.std.proofs.Common.{◌∙◌, ltb-false}
use Rattle.std.proofs.Math.Path.{refl}
use mathlib.Core.List.{List, [], ◌∷◌, ◌++◌, map-append, foldl}
use Rattle.base.specs.Choice.{by-test, different}
use Rattle.base.specs.Entity.{Entity}
use Rattle.sheet.specs.Sheet.{Rule}
use Rattle.cascade.specs.Map.{keep}
use Rattle.cascade.proofs.MapLaws.{keep_append}
use Rattle.cascade.specs.Clause.{Clause, clauses}
use Rattle.cascade.specs.Match.{applies, verdict}
use Rattle.cascade.proofs.MatchLaws.{by-verdict, verdict_unfit}
use Rattle.cascade.specs.Cascade.{Layers, step, declared}
use Rattle.cascade.proofs.CascadeLaws.{cascade_is}
use Rattle.cascade.specs.Walk.{Answer, refused, layers, to_hit, crowded, admit, continue, walk, property_maps, matched, hits}

module _ {A : Type 0} where
  continue_admit : (m : Layers A) (a : Answer A) (f : Layers A → Answer A) → continue (admit m a) f ≡ admit m (continue a f)
  continue_admit m a f = by-test (ltb 32 (length m)) (λ p. rw p) (λ p. by-test (crowded m) (λ q. rw (p, q)) (λ q. rw (p, q)))

  pub refused_layers : (n : ℕ) (w : Layers A) → refused n ≡ layers w → ⊥
  refused_layers n w p = different cc

  pub admitted : (m : Layers A) (a : Answer A) (w : Layers A) → admit m a ≡ layers w → a ≡ layers w
  admitted m a w p =
      by-test (ltb 32 (length m))
      (λ q. absurd (refused_layers 23 w (rw q at p)))
      (λ q. by-test (crowded m) (λ r. absurd (refused_layers 24 w (rw (q, r) at p))) (λ r. rw (q, r) at p))

module _ {A : Type 0} (z : ℕ) (e : Entity) where
  pub walk_hits : (m : Layers A) (cs : List (Clause A)) (w : Layers A) → walk z e m cs ≡ layers w → w ≡ foldl step m (hits z e cs)
  unfolding walk hits keep
  walk_hits m [] w p = cc
  walk_hits m (c ∷ cs) w p =
      by-verdict (verdict z e c.selector)
      (λ v.
      rw v
      (walk_hits (step m (to_hit c)) cs w (admitted (step m (to_hit c)) (walk z e (step m (to_hit c)) cs) w (rw v at p))))
      (λ v. rw v (walk_hits m cs w (rw v at p)))
      (λ v. absurd (refused_layers 8 w (rw v at p)))

  -- where nothing is refused the layers are those of the matched selectors
  pub maps_are : (rs : List (Rule A)) (w : Layers A) → property_maps z e rs ≡ layers w → w ≡ foldl step [] (hits z e (clauses rs))
  unfolding property_maps
  maps_are rs w p = walk_hits [] (clauses rs) w p

  pub maps_declared : (rs : List (Rule A)) (w : Layers A) → property_maps z e rs ≡ layers w → w ≡ declared (hits z e (clauses rs))
  maps_declared rs w p = maps_are rs w p ∙ cascade_is (hits z e (clauses rs))

  -- to walk only the selectors whose type and zooms fit changes nothing, refusals included
  pub walk_fitting : (m : Layers A) (cs : List (Clause A)) → walk z e m (keep (λ c. applies z e.kind c.selector) cs) ≡ walk z e m cs
  unfolding walk keep
  walk_fitting m [] = refl
  walk_fitting m (c ∷ cs) =
      by-test (applies z e.kind c.selector)
      (λ p. rw (p, walk_fitting m cs, walk_fitting (step m (to_hit c)) cs))
      (λ p. rw (p, verdict_unfit z e c.selector p, walk_fitting m cs))

  -- for nested loops: one rule's selectors, then the rest
  pub walk_append : (m : Layers A) (cs ds : List (Clause A)) → walk z e m (cs ++ ds) ≡ continue (walk z e m cs) (λ w. walk z e w ds)
  unfolding walk
  walk_append m [] ds = refl
  walk_append m (c ∷ cs) ds =
      by-verdict (verdict z e c.selector)
      (λ v.
      rw (v, walk_append (step m (to_hit c)) cs ds, continue_admit (step m (to_hit c)) (walk z e (step m (to_hit c)) cs)))
      (λ v. rw (v, walk_append m cs ds))
      (λ v. rw v)

  pub hits_append : (cs ds : List (Clause A)) → hits z e (cs ++ ds) ≡ hits z e cs ++ hits z e ds
  unfolding hits
  hits_append cs ds = rw (keep_append (matched z e) cs ds, map-append)

  -- what is not refused keeps the bounds: 32 layers, 128 names in each
  walk_bounds :
      (m : Layers A) (cs : List (Clause A)) (w : Layers A)
      → ltb 32 (length m) ≡ false
      → crowded m ≡ false
      → walk z e m cs ≡ layers w
      → (ltb 32 (length w) ≡ false) × (crowded w ≡ false)
  unfolding walk
  walk_bounds m [] w l c p = let q : m ≡ w = cc in rw (← q) (l, c)
  walk_bounds m (x ∷ cs) w l c p =
      by-verdict (verdict z e x.selector)
      (λ v.
      by-test (ltb 32 (length (step m (to_hit x))))
      (λ f. absurd (refused_layers 23 w (rw (v, f) at p)))
      (λ f.
      by-test (crowded (step m (to_hit x)))
      (λ g. absurd (refused_layers 24 w (rw (v, f, g) at p)))
      (λ g. walk_bounds (step m (to_hit x)) cs w f g (rw (v, f, g) at p))))
      (λ v. walk_bounds m cs w l c (rw v at p))
      (λ v. absurd (refused_layers 8 w (rw v at p)))

  pub maps_bounds : (rs : List (Rule A)) (w : Layers A) → property_maps z e rs ≡ layers w → (length w ≤ 32) × (crowded w ≡ false)
  unfolding property_maps crowded
  maps_bounds rs w p = let r = walk_bounds [] (clauses rs) w refl refl p in (ltb-false 32 (length w) r.0, r.1)
