-- The walk is refused with a number exactly if a selector gives cause for it and none before gives any.
use Rattle.std.specs.Prelude.{ℕ, ◌<◌, ◌≡◌, ◌↔◌, ◌⊎◌, true, false, ltb, length}
use Rattle.std.proofs.Common.{arith, sym, ◌∙◌, subst, inl, inr}
use Rattle.std.proofs.Math.Path.{refl, ap}
use Rattle.std.proofs.Math.Bool.{or-true}
use mathlib.Core.List.{List, [], ◌∷◌, ◌++◌, map, append_assoc, append-nil}
use Rattle.std.proofs.lemmas.List.{length-map}
use borrow.Author.Tests.{ltb-true, ltb-false, lt-ltb, le-ltb}
use Rattle.base.specs.Bytes.{Bytes, same}
use Rattle.base.specs.Choice.{by-test, clash}
use Rattle.base.specs.Map.{entry, key_of, member}
use Rattle.base.specs.Entity.{Entity}
use Rattle.base.proofs.Compare.{same_refl, same_true}
use Rattle.sheet.specs.Sheet.{Rule}
use Rattle.cascade.specs.Map.{overlay, firsts, keep}
use Rattle.cascade.proofs.MapLaws.{keys_overlay}
use Rattle.cascade.specs.Clause.{Clause, clauses}
use Rattle.cascade.specs.Match.{pass, fail, verdict}
use Rattle.cascade.proofs.MatchLaws.{by-verdict, out_reached, reached_out}
use Rattle.cascade.specs.Cascade.{Hit, step, named, assigned, declared}
use Rattle.cascade.proofs.CascadeLaws.{step_declared, cascade_is, named_member}
use Rattle.cascade.specs.Walk.{Answer, refused, layers, to_hit, crowded, walk, property_maps, hits}
use Rattle.cascade.proofs.WalkLaws.{hits_append, refused_layers, walk_hits, walk_append, maps_declared}
use Rattle.cascade.specs.Refusals.{ManyNames, Cause, outside, layer33, name129, Refuses}

module _ {A : Type 0} where
  names_length : (k : Bytes) (hs : List (Hit A)) → length (overlay [] (assigned k hs)) ≡ length (firsts [] (map key_of (assigned k hs)))
  names_length k hs = sym (length-map (overlay [] (assigned k hs)) key_of) ∙ ap length (keys_overlay [] (assigned k hs))

  crowd : (hs : List (Hit A)) (ks : List Bytes) → crowded (map (λ k. entry k (overlay [] (assigned k hs))) ks) ≡ true
      → (k : Bytes) × (member k ks ≡ true) × (128 < length (firsts [] (map key_of (assigned k hs))))
  unfolding crowded member
  crowd hs [] h = clash h refl
  crowd hs (k ∷ ks) h =
      by-test (ltb 128 (length (overlay [] (assigned k hs))))
      (λ p. (k, (rw (same_refl k)), (rw (← names_length k hs) (ltb-true 128 (length (overlay [] (assigned k hs))) p))))
      (λ p.
      let r = crowd hs ks (rw p at h) in
      (r.0, (by-test (same r.0 k) (λ q. rw q) (λ q. rw (q, r.1))), r.2))

  uncrowd :
      (hs : List (Hit A)) (ks : List Bytes) (k : Bytes)
      → member k ks ≡ true
      → 128 < length (firsts [] (map key_of (assigned k hs)))
      → crowded (map (λ k. entry k (overlay [] (assigned k hs))) ks) ≡ true
  unfolding crowded member
  uncrowd hs [] k m h = clash m refl
  uncrowd hs (x ∷ ks) k m h =
      by-test (same k x)
      (λ p. rw (← same_true k x p, lt-ltb 128 (length (overlay [] (assigned k hs))) (rw (names_length k hs) h)))
      (λ p. rw (uncrowd hs ks k (rw p at m) h, or-true))

  crowded_many : (hs : List (Hit A)) → crowded (declared hs) ≡ true → ManyNames hs
  crowded_many hs h =
      let r = crowd hs (named hs) h in
      record { layer = r.0; exists = sym (named_member r.0 hs) ∙ r.1; many = r.2 }

  many_crowded : (hs : List (Hit A)) → ManyNames hs → crowded (declared hs) ≡ true
  many_crowded hs m = uncrowd hs (named hs) m.layer (named_member m.layer hs ∙ m.exists) m.many

  length_declared : (hs : List (Hit A)) → length (declared hs) ≡ length (named hs)
  length_declared hs = length-map (named hs) (λ k. entry k (overlay [] (assigned k hs)))

  module _ (z : ℕ) (e : Entity) where
    hits_pass :
        (cs : List (Clause A)) (c : Clause A)
        → verdict z e c.selector ≡ pass
        → hits z e (cs ++ (c ∷ [])) ≡ hits z e cs ++ (to_hit c ∷ [])
    unfolding hits keep
    hits_pass cs c v = hits_append z e cs (c ∷ []) ∙ (rw v)

    hits_fail : (cs : List (Clause A)) (c : Clause A) → verdict z e c.selector ≡ fail → hits z e (cs ++ (c ∷ [])) ≡ hits z e cs
    unfolding hits keep
    hits_fail cs c v = hits_append z e cs (c ∷ []) ∙ (rw (v, append-nil))

    -- the layers after a matched selector
    after_pass :
        (cs : List (Clause A)) (c : Clause A)
        → verdict z e c.selector ≡ pass
        → step (declared (hits z e cs)) (to_hit c) ≡ declared (hits z e (cs ++ (c ∷ [])))
    after_pass cs c v = step_declared (hits z e cs) (to_hit c) ∙ ap declared (sym (hits_pass cs c v))

    given_by :
        (cs : List (Clause A)) (c : Clause A) (n m : ℕ)
        → ◌≡◌ {A = Answer A} (refused n) (refused m)
        → Cause z e cs c n
        → Cause z e cs c m
    given_by cs c n m p k = let q : n ≡ m = cc in subst (λ i. Cause z e cs c i) q k

    -- the first cause, after the clauses done
    abbrev Found : List (Clause A) → List (Clause A) → ℕ → Type 0
    Found done cs n =
        (before : List (Clause A)) × (c : Clause A) × (after : List (Clause A)) × (cs ≡ before ++ (c ∷ after)) ×
        (walk z e (declared (hits z e done)) before ≡ layers (declared (hits z e (done ++ before)))) × Cause
        z e (done ++ before) c n

    at_once :
        (done : List (Clause A)) (c : Clause A) (cs : List (Clause A)) (m n : ℕ)
        → Cause z e done c m
        → ◌≡◌ {A = Answer A} (refused m) (refused n)
        → Found done (c ∷ cs) n
    unfolding walk
    at_once done c cs m n k p = ([], c, cs, refl, (rw (append-nil done)), (rw (append-nil done) (given_by done c m n p k)))

    past_pass :
        (done : List (Clause A)) (c : Clause A) (cs : List (Clause A)) (n : ℕ)
        → verdict z e c.selector ≡ pass
        → ltb 32 (length (declared (hits z e (done ++ (c ∷ []))))) ≡ false
        → crowded (declared (hits z e (done ++ (c ∷ [])))) ≡ false
        → Found (done ++ (c ∷ [])) cs n
        → Found done (c ∷ cs) n
    unfolding walk
    past_pass done c cs n v x y r = (
      c ∷ r.0,
      r.1,
      r.2,
      ap (λ l. c ∷ l) r.3,
      (rw (v, after_pass done c v, x, y, ← append_assoc done (c ∷ []) r.0) r.4),
      (rw (← append_assoc done (c ∷ []) r.0) r.5),
    )

    past_fail :
        (done : List (Clause A)) (c : Clause A) (cs : List (Clause A)) (n : ℕ)
        → verdict z e c.selector ≡ fail
        → Found (done ++ (c ∷ [])) cs n
        → Found done (c ∷ cs) n
    unfolding walk
    past_fail done c cs n v r = (
      c ∷ r.0,
      r.1,
      r.2,
      ap (λ l. c ∷ l) r.3,
      (rw (v, ← append_assoc done (c ∷ []) r.0) (rw (hits_fail done c v) at r.4)),
      (rw (← append_assoc done (c ∷ []) r.0) r.5),
    )

    find : (done cs : List (Clause A)) (n : ℕ) → walk z e (declared (hits z e done)) cs ≡ refused n → Found done cs n
    unfolding walk
    find done [] n p = absurd (refused_layers n (declared (hits z e done)) (sym p))
    find done (c ∷ cs) n p =
        by-verdict (verdict z e c.selector)
        (λ v.
        let w = declared (hits z e (done ++ (c ∷ []))) in
        let l = length_declared (hits z e (done ++ (c ∷ []))) in
        let a = after_pass done c v in
        by-test (ltb 32 (length w))
        (λ x.
        let h = ltb-true 32 (length w) x in
        at_once done c cs 23 n (layer33 v (omega arith)) (rw (v, a, x) at p))
        (λ x.
        by-test (crowded w)
        (λ y.
        let h = ltb-false 32 (length w) x in
        at_once done c cs 24 n
        (name129 v (omega arith) (crowded_many (hits z e (done ++ (c ∷ []))) y))
        (rw (v, a, x, y) at p))
        (λ y. past_pass done c cs n v x y (find (done ++ (c ∷ [])) cs n (rw (v, a, x, y) at p)))))
        (λ v. past_fail done c cs n v (find (done ++ (c ∷ [])) cs n (rw (hits_fail done c v) (rw v at p))))
        (λ v.
        let r = out_reached z e c.selector v in
        at_once done c cs 8 n (outside r.0 r.1 r.2) (rw v at p))

    -- a cause refuses
    refuse :
        (before : List (Clause A)) (c : Clause A) (after : List (Clause A)) (n : ℕ)
        → Cause z e before c n
        → walk z e (declared (hits z e before)) (c ∷ after) ≡ refused n
    unfolding walk
    refuse before c after n (outside t r o) = rw (reached_out z e c.selector t r o)
    refuse before c after n (layer33 v h) =
        let l = length_declared (hits z e (before ++ (c ∷ []))) in
        rw (v, after_pass before c v, l, lt-ltb 32 (length (named (hits z e (before ++ (c ∷ []))))) (omega arith))
    refuse before c after n (name129 v h m) =
        let l = length_declared (hits z e (before ++ (c ∷ []))) in
        rw (
          v,
          after_pass before c v,
          l,
          le-ltb 32 (length (named (hits z e (before ++ (c ∷ []))))) (omega arith),
          many_crowded (hits z e (before ++ (c ∷ []))) m,
        )

    pub refused_exactly : (rs : List (Rule A)) (n : ℕ) → (property_maps z e rs ≡ refused n) ↔ Refuses z e rs n
    unfolding property_maps hits keep
    refused_exactly rs n = (there, back)
      where
        there : property_maps z e rs ≡ refused n → Refuses z e rs n
        there p =
            let r = find [] (clauses rs) n p in
            record {
              before = r.0;
              here = r.1;
              after = r.2;
              stands = r.3;
              sofar = declared (hits z e r.0);
              quiet = r.4;
              cause = r.5;
            }

        back : Refuses z e rs n → property_maps z e rs ≡ refused n
        back r =
            let v : r.sofar ≡ declared (hits z e r.before) =
            walk_hits z e [] r.before r.sofar r.quiet ∙ cascade_is (hits z e r.before) in
            rw (r.stands, walk_append z e [] r.before (r.here ∷ r.after), r.quiet, v)
            (refuse r.before r.here r.after n r.cause)

    -- a selector gives cause for one number at most: which comes first is decided
    pub cause_one : (before : List (Clause A)) (c : Clause A) (n m : ℕ) → Cause z e before c n → Cause z e before c m → n ≡ m
    cause_one before c n m a b = let p = refuse before c [] n a in let q = refuse before c [] m b in cc

    -- so an entity is refused under these conditions only, and otherwise gets the layers of its matched selectors
    pub answered :
        (rs : List (Rule A))
        → (property_maps z e rs ≡ layers (declared (hits z e (clauses rs)))) ⊎ ((n : ℕ) × Refuses z e rs n)
    answered rs = go (property_maps z e rs) refl
      where
        go :
            (a : Answer A)
            → property_maps z e rs ≡ a
            → (property_maps z e rs ≡ layers (declared (hits z e (clauses rs)))) ⊎ ((n : ℕ) × Refuses z e rs n)
        go (refused n) p = inr (n, (refused_exactly rs n).0 p)
        go (layers v) p = inl (p ∙ ap layers (maps_declared z e rs v p))
