-- The walk that checks the bounds as it meets them answers what the plain walk answers, refusals included.
use Rattle.std.specs.Prelude.{ℕ, ◌≤◌, ◌≡◌, true, cond, ltb, length}
use native.Mathlib.Omega.{arith}
use Rattle.std.proofs.Math.Path.{refl}
use Rattle.std.proofs.Math.Bool.{false, or-true}
use mathlib.Core.List.{List, [], ◌∷◌, ◌++◌, map}
use Rattle.std.proofs.Math.Option.{get_or}
use Rattle.std.proofs.Common.{ltb→lt, lt→ltb}
use Rattle.std.proofs.Math.ListN.{length-map}
use Rattle.base.specs.Bytes.{Bytes, same}
use Rattle.base.specs.Choice.{by-test, holds, or_left, or_right}
use Rattle.base.specs.Map.{Entry, Map, entry, key_of, lookup, member}
use Rattle.base.specs.Entity.{Entity}
use Rattle.sheet.specs.Sheet.{Rule}
use Rattle.cascade.specs.Map.{insert, overlay}
use Rattle.cascade.specs.Clause.{star, Clause, clauses}
use Rattle.cascade.specs.Match.{verdict}
use Rattle.cascade.proofs.MatchLaws.{by-verdict}
use Rattle.cascade.specs.Cascade.{Hit, Layers, reaches, receive, ensure, touch, step}
use Rattle.cascade.specs.Walk.{refused, layers, to_hit, crowded, admit, continue, walk, property_maps}
use Rattle.cascade.specs.Fine.{hit, fill, fine_step, fine_walk, fine_property_maps}

long_grows : (m n : ℕ) → m ≤ n → ltb 128 m ≡ true → ltb 128 n ≡ true
long_grows m n h p = holds (ltb 128 n) (lt→ltb 128 n (omega (arith, ltb→lt 128 m (rw p tt))))

module _ {A : Type 0} where
  -- maps only grow
  insert_grows : (m : Map A) (a : Entry A) → length m ≤ length (insert m a)
  unfolding insert
  insert_grows [] a = omega arith
  insert_grows (e ∷ m) a = by-test (same a.key e.key) (λ p. rw p (omega arith)) (λ p. rw p (omega (arith, insert_grows m a)))

  overlay_grows : (m : Map A) (bs : List (Entry A)) → length m ≤ length (overlay m bs)
  overlay_grows m [] = omega arith
  overlay_grows m (b ∷ bs) = omega (arith, insert_grows m b, overlay_grows (insert m b) bs)

  receive_grows : (k : Bytes) (m : Map A) (h : Hit A) → length m ≤ length (receive k m h)
  unfolding receive
  receive_grows k m h = by-test (reaches k h) (λ p. rw (receive, p) (overlay_grows m h.properties)) (λ p. rw (receive, p) (omega arith))

  crowded_grows : (h : Hit A) (m : Layers A) → crowded m ≡ true → crowded (map (touch h) m) ≡ true
  unfolding crowded
  crowded_grows h [] c = c
  crowded_grows h (e ∷ m) c =
      by-test (ltb 128 (length e.value))
      (λ p.
      rw
      (long_grows (length e.value) (length (receive e.key e.value h))
      (receive_grows e.key e.value h) p))
      (λ p. rw (crowded_grows h m (rw p at c), or-true))

  -- no properties change nothing, and a list of them goes by its first and the rest
  touch_none : (l : Bytes) (m : Layers A) → map (touch (hit l [])) m ≡ m
  unfolding receive
  touch_none l [] = refl
  touch_none l (e ∷ m) =
      by-test (reaches {A = A} e.key (hit l []))
      (λ p. rw (receive, p, touch_none l m))
      (λ p. rw (receive, p, touch_none l m))

  touch_more :
      (l : Bytes) (p : Entry A) (ps : List (Entry A)) (m : Layers A)
      → map (touch (hit l (p ∷ ps))) m ≡ map (touch (hit l ps)) (map (touch (hit l (p ∷ []))) m)
  unfolding receive reaches
  touch_more l p ps [] = refl
  touch_more l p ps (e ∷ m) =
      by-test (reaches e.key (hit l ps))
      (λ q. rw (receive, q, touch_more l p ps m))
      (λ q. rw (receive, q, touch_more l p ps m))

  fill_is :
      (l : Bytes) (m : Layers A) (ps : List (Entry A))
      → crowded m ≡ false
      → fill l m ps ≡ cond (crowded (map (touch (hit l ps)) m)) (refused 24) (layers (map (touch (hit l ps)) m))
  unfolding fill
  fill_is l m [] c = rw (touch_none l m, c)
  fill_is l m (p ∷ ps) c =
      by-test (crowded (map (touch (hit l (p ∷ []))) m))
      (λ q. rw (q, touch_more l p ps m, crowded_grows (hit l ps) (map (touch (hit l (p ∷ []))) m) q))
      (λ q. rw (q, touch_more l p ps m) (fill_is l (map (touch (hit l (p ∷ []))) m) ps q))

  -- a new layer starts within the bound
  lookup_short : (k : Bytes) (m : Layers A) → crowded m ≡ false → ltb 128 (length (get_or (lookup k m) [])) ≡ false
  unfolding lookup crowded
  lookup_short k [] c = refl
  lookup_short k (e ∷ m) c =
      by-test (same k e.key)
      (λ p. rw (p, or_left (ltb 128 (length e.value)) (crowded m) c))
      (λ p. rw p (lookup_short k m (or_right (ltb 128 (length e.value)) (crowded m) c)))

  crowded_append :
      (m : Layers A) (e : Entry (Map A))
      → crowded m ≡ false
      → ltb 128 (length e.value) ≡ false
      → crowded (m ++ (e ∷ [])) ≡ false
  unfolding crowded
  crowded_append [] e c h = rw h
  crowded_append (x ∷ m) e c h =
      rw (
        or_left (ltb 128 (length x.value)) (crowded m) c,
        crowded_append m e (or_right (ltb 128 (length x.value)) (crowded m) c) h,
      )

  ensure_short : (m : Layers A) (k : Bytes) → crowded m ≡ false → crowded (ensure m k) ≡ false
  unfolding ensure
  ensure_short m k c =
      by-test (member k (map key_of m))
      (λ p. rw (p, c))
      (λ p. rw p (crowded_append m (entry k (get_or (lookup star m) [])) c (lookup_short star m c)))

  pub fine_step_lem : (m : Layers A) (h : Hit A) → crowded m ≡ false → fine_step m h ≡ admit (step m h) (layers (step m h))
  unfolding fine_step step
  fine_step_lem m h c =
      rw (
        length-map (ensure m h.layer) (touch h),
        fill_is h.layer (ensure m h.layer) h.properties (ensure_short m h.layer c),
      )

  module _ (z : ℕ) (e : Entity) where
    fine_walk_lem : (m : Layers A) (cs : List (Clause A)) → crowded m ≡ false → fine_walk z e m cs ≡ walk z e m cs
    unfolding fine_walk walk
    fine_walk_lem m [] h = refl
    fine_walk_lem m (c ∷ cs) h =
        by-verdict (verdict z e c.selector)
        (λ v. rw (v, fine_step_lem m (to_hit c) h) (after (step m (to_hit c)) cs (fine_walk_lem (step m (to_hit c)) cs)))
        (λ v. rw v (fine_walk_lem m cs h))
        (λ v. rw v)
      where
        after :
            (w : Layers A) (ds : List (Clause A))
            → (crowded w ≡ false → fine_walk z e w ds ≡ walk z e w ds)
            → continue (admit w (layers w)) (λ x. fine_walk z e x ds) ≡ admit w (walk z e w ds)
        after w ds ih =
            by-test (ltb 32 (length w))
            (λ p. rw p)
            (λ p. by-test (crowded w) (λ q. rw (p, q)) (λ q. rw (p, q) (ih q)))

    pub fine_is : (rs : List (Rule A)) → fine_property_maps z e rs ≡ property_maps z e rs
    unfolding fine_property_maps property_maps crowded
    fine_is rs = fine_walk_lem [] (clauses rs) refl
