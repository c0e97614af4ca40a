-- Sheets whose properties are numbers into a table: the answer over the numbers, mapped, is the answer over the values.
use Rattle.std.specs.Prelude.{ℕ, ◌≡◌, ltb, length}
use Rattle.std.proofs.Math.Path.{refl}
use Rattle.std.proofs.Common.{◌∙◌, ap}
use mathlib.Core.List.{List, [], ◌∷◌, foldl, map, map-append, map-map}
use Rattle.std.proofs.Math.Option.{Option, none, some, get_or}
use Rattle.std.proofs.lemmas.List.{length-map}
use Rattle.base.specs.Bytes.{Bytes, same}
use Rattle.base.specs.Choice.{by-test}
use Rattle.base.specs.Map.{Map, key_of, lookup, member}
use Rattle.base.specs.Entity.{Entity}
use Rattle.base.proofs.Compare.{same_true}
use Rattle.sheet.specs.Sheet.{Rule}
use Rattle.cascade.specs.Map.{insert, overlay, map_option, map_entry}
use Rattle.cascade.proofs.MapLaws.{lookup_map, keys_map, overlay_map}
use Rattle.cascade.specs.Clause.{star, Clause, clauses}
use Rattle.cascade.specs.Match.{verdict}
use Rattle.cascade.proofs.MatchLaws.{by-verdict}
use Rattle.cascade.specs.Cascade.{Hit, Layers, reaches, receive, ensure, touch, step}
use Rattle.cascade.specs.Walk.{Answer, layers, to_hit, crowded, admit, walk, property_maps}
use Rattle.cascade.specs.Isolation.{strike, Agree}
use Rattle.cascade.proofs.IsolationProof.{isolated}
use Rattle.cascade.specs.Numbered.{map_layers, map_hit, map_clause, map_rule, map_answer, assign, spelled}

module _ {A B : Type 0} (f : A → B) where
  clauses_map : (rs : List (Rule A)) → clauses (map (map_rule f) rs) ≡ map (map_clause f) (clauses rs)
  unfolding clauses
  clauses_map [] = refl
  clauses_map (r ∷ rs) = rw (clauses_map rs) (simp (map-append, map-map))

  get_d_map : (o : Option (Map A)) → get_or (map_option (map (map_entry f)) o) [] ≡ map (map_entry f) (get_or o [])
  get_d_map none = refl
  get_d_map (some m) = refl

  star_map : (m : Layers A) → get_or (lookup star (map_layers f m)) [] ≡ map (map_entry f) (get_or (lookup star m) [])
  star_map m = rw (lookup_map star (map (map_entry f)) m) (get_d_map (lookup star m))

  ensure_map : (m : Layers A) (k : Bytes) → map_layers f (ensure m k) ≡ ensure (map_layers f m) k
  unfolding ensure
  ensure_map m k = rw (keys_map (map (map_entry f)) m) (by-test (member k (map key_of m)) (λ p. rw p) (λ p. rw (p, map-append, star_map m)))

  receive_map : (k : Bytes) (m : Map A) (h : Hit A) → map (map_entry f) (receive k m h) ≡ receive k (map (map_entry f) m) (map_hit f h)
  unfolding receive reaches
  receive_map k m h = by-test (reaches k h) (λ p. rw (receive, p) (overlay_map f m h.properties)) (λ p. rw (receive, p))

  touch_map : (h : Hit A) (m : Layers A) → map_layers f (map (touch h) m) ≡ map (touch (map_hit f h)) (map_layers f m)
  touch_map h [] = refl
  touch_map h (e ∷ m) = rw (receive_map e.key e.value h, touch_map h m)

  pub step_map : (m : Layers A) (h : Hit A) → map_layers f (step m h) ≡ step (map_layers f m) (map_hit f h)
  unfolding step
  step_map m h = rw (touch_map h (ensure m h.layer), ensure_map m h.layer)

  crowded_map : (m : Layers A) → crowded (map_layers f m) ≡ crowded m
  unfolding crowded
  crowded_map [] = refl
  crowded_map (e ∷ m) = rw (length-map e.value (map_entry f), crowded_map m)

  admit_map : (m : Layers A) (a : Answer A) → admit (map_layers f m) (map_answer f a) ≡ map_answer f (admit m a)
  admit_map m a =
      rw (length-map m (map_entry (map (map_entry f))), crowded_map m)
      (by-test (ltb 32 (length m)) (λ p. rw p) (λ p. by-test (crowded m) (λ q. rw (p, q)) (λ q. rw (p, q))))

  module _ (z : ℕ) (e : Entity) where
    walk_map :
        (m : Layers A) (cs : List (Clause A))
        → walk z e (map_layers f m) (map (map_clause f) cs) ≡ map_answer f (walk z e m cs)
    unfolding walk
    walk_map m [] = refl
    walk_map m (c ∷ cs) =
        by-verdict (verdict z e c.selector)
        (λ v. rw (v, ← step_map m (to_hit c), walk_map (step m (to_hit c)) cs, admit_map (step m (to_hit c))))
        (λ v. rw (v, walk_map m cs))
        (λ v. rw v)

    pub maps_mapped : (rs : List (Rule A)) → property_maps z e (map (map_rule f) rs) ≡ map_answer f (property_maps z e rs)
    unfolding property_maps
    maps_mapped rs = rw (clauses_map rs) (walk_map [] (clauses rs))

-- ---- one layer as the code stores it: the properties' numbers alone

module _ (name : ℕ → Bytes) where
  pub assign_spelled : (js : List ℕ) (i : ℕ) → map (spelled name) (assign name js i) ≡ insert (map (spelled name) js) (spelled name i)
  unfolding assign insert
  assign_spelled [] i = refl
  assign_spelled (j ∷ js) i =
      by-test (same (name i) (name j)) (λ p. rw (p, same_true (name i) (name j) p)) (λ p. rw (p, assign_spelled js i))

-- demand 3 for sheets that are held as tables: what the numbers stand for is compared, never the numbers
pub isolated_numbered :
    {A B C : Type 0} (f : A → C) (g : B → C) (k : Bytes) (z : ℕ) (rs : List (Rule A)) (qs : List (Rule B))
    (d e : Entity) (v : Layers A) (w : Layers B)
    → strike k (map (map_rule f) rs) ≡ strike k (map (map_rule g) qs)
    → Agree d e (strike k (map (map_rule f) rs))
    → property_maps z d rs ≡ layers v
    → property_maps z e qs ≡ layers w
    → map_option (map (map_entry f)) (lookup k v) ≡ map_option (map (map_entry g)) (lookup k w)
isolated_numbered f g k z rs qs d e v w s a p q =
    rw
    (← lookup_map k (map (map_entry f)) v, ← lookup_map k (map (map_entry g)) w)
    (isolated k z (map (map_rule f) rs) (map (map_rule g) qs) d e (map_layers f v) (map_layers g w)
    (record {
      rules = s;
      entities = a;
      first_call = maps_mapped f z d rs ∙ ap (map_answer f) p;
      second_call_maps = maps_mapped g z e qs ∙ ap (map_answer g) q;
    }))

-- a rule's properties over a row of numbers, as an overlay of entries
pub assigns_spelled :
    (name : ℕ → Bytes) (js ps : List ℕ)
    → map (spelled name) (foldl (assign name) js ps) ≡ overlay (map (spelled name) js) (map (spelled name) ps)
assigns_spelled name js [] = refl
assigns_spelled name js (p ∷ ps) =
    assigns_spelled name (assign name js p) ps ∙ ap (λ m. overlay m (map (spelled name) ps)) (assign_spelled name js p)
