-- Demand 2 holds, and leaves no choice: two lists of layers with the meaning of one sheet are equal.
use Rattle.std.specs.Prelude.{ℕ, ◌≡◌, true, false}
use Rattle.std.proofs.Math.Path.{refl, sym, ap}
use Rattle.std.proofs.Common.{◌∙◌}
use mathlib.Core.List.{List, [], ◌∷◌, ◌++◌, map, Memᴰ}
use Rattle.std.proofs.Math.Option.{Option, none, some}
use Rattle.base.specs.Bytes.{Bytes, same}
use Rattle.base.specs.Choice.{by-test, clash}
use Rattle.base.specs.Map.{Entry, Map, entry, key_of, lookup, member}
use Rattle.base.specs.Entity.{Entity}
use Rattle.base.proofs.Compare.{same_refl, same_true}
use Rattle.sheet.specs.Sheet.{Rule}
use Rattle.cascade.specs.Map.{overlay, last_of, keep}
use Rattle.cascade.proofs.MapLaws.{by_option, lookup_overlay, keys_overlay, last_absent, last_at, distinct_firsts, map_ext}
use Rattle.cascade.specs.Clause.{Clause, clauses, layer_name}
use Rattle.cascade.specs.Match.{pass, present, verdict}
use Rattle.cascade.proofs.MatchLaws.{by-verdict}
use Rattle.cascade.specs.Cascade.{Hit, Layers, layer_of, named, assigned, declared}
use Rattle.cascade.proofs.CascadeLaws.{keys_declared, layer_declared}
use Rattle.cascade.specs.Walk.{hits}
use Rattle.cascade.proofs.WalkLaws.{maps_declared}
use Rattle.cascade.specs.Meaning.{Last, never, last, Named, Meaning, Demand2}

-- ---- the last assignment

module _ {A : Type 0} where
  split_last :
      (n : Bytes) (bs : List (Entry A))
      → member n (map key_of bs) ≡ true
      → (before : List (Entry A)) × (x : A) × (after : List (Entry A)) × (bs ≡ before ++ (entry n x ∷ after)) ×
      (member n (map key_of after) ≡ false)
  unfolding member
  split_last n [] h = clash h refl
  split_last n (b ∷ bs) h =
      by-test (member n (map key_of bs))
      (λ p. let r = split_last n bs p in (b ∷ r.0, r.1, r.2, ap (λ l. b ∷ l) r.3, r.4))
      (λ p.
      by-test (same n b.key)
      (λ q. ([], b.value, bs, (rw (same_true n b.key q)), p))
      (λ q. clash h (rw (q, p))))

  pub last_is : (n : Bytes) (bs : List (Entry A)) → Last n bs (last_of n none bs)
  last_is n bs =
      by-test (member n (map key_of bs))
      (λ p.
      let r = split_last n bs p in
      rw (r.3, last_at n none r.0 r.1 r.2 r.4) (last r.0 r.1 r.2 refl r.4))
      (λ p. rw (last_absent n none bs p) (never p))

  pub last_one : (n : Bytes) (bs : List (Entry A)) (o : Option A) → Last n bs o → o ≡ last_of n none bs
  last_one n bs none (never p) = sym (last_absent n none bs p)
  last_one n bs (some y) (last before x after e p) = rw (e, last_at n none before x after p)

-- ---- matched selectors and the layers that they name

module _ {A : Type 0} (z : ℕ) (e : Entity) where
  names_layer :
      (k : Bytes) (cs : List (Clause A))
      → member k (map layer_of (hits z e cs)) ≡ true
      → (c : Clause A) × Memᴰ c cs × (verdict z e c.selector ≡ pass) × (layer_name c.selector ≡ k)
  unfolding member hits keep
  names_layer k [] h = clash h refl
  names_layer k (c ∷ cs) h =
      by-verdict (verdict z e c.selector)
      (λ v.
      by-test (same k (layer_name c.selector))
      (λ q. (c, Memᴰ.head refl, v, sym (same_true k (layer_name c.selector) q)))
      (λ q. let r = names_layer k cs (rw (v, q) at h) in (r.0, Memᴰ.tail r.1, r.2, r.3)))
      (λ v. let r = names_layer k cs (rw v at h) in (r.0, Memᴰ.tail r.1, r.2, r.3))
      (λ v. let r = names_layer k cs (rw v at h) in (r.0, Memᴰ.tail r.1, r.2, r.3))

  layer_named :
      (c : Clause A) (cs : List (Clause A))
      → Memᴰ c cs
      → verdict z e c.selector ≡ pass
      → member (layer_name c.selector) (map layer_of (hits z e cs)) ≡ true
  unfolding member hits keep
  layer_named c (x ∷ cs) (Memᴰ.head p) v = rw (← p, v, member, same_refl (layer_name c.selector))
  layer_named c (x ∷ cs) (Memᴰ.tail m) v =
      by-verdict (verdict z e x.selector)
      (λ w.
      rw w
      (by-test (same (layer_name c.selector) (layer_name x.selector))
      (λ q. rw (member, q))
      (λ q. rw (member, q) (layer_named c cs m v))))
      (λ w. rw w (layer_named c cs m v))
      (λ w. rw w (layer_named c cs m v))
  layer_named c [] x'' v = elim x'' [ ]

-- ---- demand 2

module _ {A : Type 0} (z : ℕ) (e : Entity) (rs : List (Rule A)) where
  abbrev all : List (Hit A)
  all = hits z e (clauses rs)

  named_present : (k : Bytes) → Named z e rs k → present (lookup k (declared all)) ≡ true
  unfolding present
  named_present k n = rw (layer_declared k all, ← n.names, layer_named z e n.by (clauses rs) n.stands n.matches)

  present_named : (k : Bytes) → present (lookup k (declared all)) ≡ true → Named z e rs k
  unfolding present
  present_named k p =
      by-test (member k (map layer_of all))
      (λ h.
      let r = names_layer z e k (clauses rs) h in
      record { by = r.0; stands = r.1; matches = r.2; names = r.3 })
      (λ h. clash p (rw (layer_declared k all, h)))

  the_map : (k : Bytes) (m : Map A) → lookup k (declared all) ≡ some m → m ≡ overlay [] (assigned k all)
  the_map k m p =
      by-test (member k (map layer_of all))
      (λ h. let q : lookup k (declared all) ≡ some (overlay [] (assigned k all)) = rw (layer_declared k all, h) in cc)
      (λ h. let q : lookup k (declared all) ≡ none = rw (layer_declared k all, h) in cc)

  declared_meaning : Meaning z e rs (declared all)
  unfolding lookup
  declared_meaning =
      record {
        exists = λ k. (present_named k, named_present k);
        properties = λ k m p n. rw (the_map k m p, lookup_overlay n [] (assigned k all)) (last_is n (assigned k all));
        name_order = λ k m p. rw (the_map k m p) (keys_overlay [] (assigned k all));
        layer_order = keys_declared (λ k. overlay [] (assigned k all)) (named all);
      }

pub demand_2 : {A : Type 0} → Demand2 A
demand_2 z e rs v ok = rw (maps_declared z e rs v ok) (declared_meaning z e rs)

-- the meaning leaves no choice
module _ {A : Type 0} (z : ℕ) (e : Entity) (rs : List (Rule A)) (v w : Layers A) (a : Meaning z e rs v) (b : Meaning z e rs w) where
  alike : (k : Bytes) (m n : Map A) → lookup k v ≡ some m → lookup k w ≡ some n → m ≡ n
  alike k m n p q =
      map_ext m n
      (rw (a.name_order k m p) (distinct_firsts [] (map key_of (assigned k (hits z e (clauses rs)))) tt))
      (a.name_order k m p ∙ sym (b.name_order k n q))
      (λ x.
      last_one x (assigned k (hits z e (clauses rs))) (lookup x m) (a.properties k m p x)
      ∙ sym (last_one x (assigned k (hits z e (clauses rs))) (lookup x n) (b.properties k n q x)))

  pub meaning_one : v ≡ w
  unfolding present
  meaning_one =
      map_ext v w
      (rw a.layer_order (distinct_firsts [] (map layer_of (hits z e (clauses rs))) tt))
      (a.layer_order ∙ sym b.layer_order)
      (λ k.
      by_option (lookup k v)
      (λ p.
      by_option (lookup k w)
      (λ q. p ∙ sym q)
      (λ n q. clash ((a.exists k).1 ((b.exists k).0 (rw q))) (rw p)))
      (λ m p.
      by_option (lookup k w)
      (λ q. clash ((b.exists k).1 ((a.exists k).0 (rw p))) (rw q))
      (λ n q. p ∙ ap some (alike k m n p q) ∙ sym q)))
