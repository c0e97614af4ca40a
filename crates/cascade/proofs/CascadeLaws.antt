-- The cascade step by step is the declared one, and a layer depends only on what reaches it.
use Rattle.std.specs.Prelude.{◌≡◌, false, cond}
use Rattle.std.proofs.Math.Path.{refl, sym}
use Rattle.std.proofs.Common.{◌∙◌, ap}
use mathlib.Core.List.{List, [], ◌∷◌, ◌++◌, foldl, foldl-append, map, append_assoc, append-nil, map-map, map-append, flat_map}
use Rattle.std.proofs.Math.Option.{none, some, get_or}
use Rattle.base.specs.Bytes.{Bytes, same}
use Rattle.base.specs.Choice.{by-test, or_left, or_right}
use Rattle.base.specs.Map.{Map, Entry, entry, key_of, lookup, member}
use Rattle.cascade.specs.Map.{insert, overlay, add, keep}
use Rattle.cascade.proofs.MapLaws.{lookup_tabulate, member_firsts}
use Rattle.cascade.specs.Clause.{star}
use Rattle.cascade.specs.Cascade.{Hit, Layers, layer_of, reaches, receive, ensure, step, named, assignments, assigned, declared}

pub keys_declared : {B : Type 0} (g : Bytes → B) (ks : List Bytes) → map key_of (map (λ k. entry k (g k)) ks) ≡ ks
keys_declared g [] = refl
keys_declared g (k ∷ ks) = ap (λ r. k ∷ r) (keys_declared g ks)

module _ {A : Type 0} where
  -- each layer as a fold of its own over all hits, whether the layer existed yet or not
  abbrev pub properties_in : Bytes → List (Hit A) → Map A
  properties_in k = foldl (receive k) []

  abbrev folded : List (Hit A) → Layers A
  folded hs = map (λ k. entry k (properties_in k hs)) (named hs)

  pub named_member : (k : Bytes) (hs : List (Hit A)) → member k (named hs) ≡ member k (map layer_of hs)
  unfolding member
  named_member k hs = member_firsts k [] (map layer_of hs)

  -- a layer that no hit has named yet has received what `*` has, and `*` nothing if it is not named
  like_star :
      (k : Bytes) (m : Map A) (hs : List (Hit A))
      → member k (map layer_of hs) ≡ false
      → foldl (receive k) m hs ≡ foldl (receive star) m hs
  unfolding member receive reaches
  like_star k m [] e = refl
  like_star k m (h ∷ hs) e =
      let l = or_left (same k h.layer) (member k (map layer_of hs)) e in
      let r = or_right (same k h.layer) (member k (map layer_of hs)) e in
      by-test (same star h.layer)
      (λ q. rw (receive, reaches, l, q) (like_star k (overlay m h.properties) hs r))
      (λ q. rw (receive, reaches, l, q) (like_star k m hs r))

  star_unnamed : (m : Map A) (hs : List (Hit A)) → member star (map layer_of hs) ≡ false → foldl (receive star) m hs ≡ m
  unfolding member receive reaches
  star_unnamed m [] e = refl
  star_unnamed m (h ∷ hs) e =
      let l = or_left (same star h.layer) (member star (map layer_of hs)) e in
      rw (receive, reaches, l) (star_unnamed m hs (or_right (same star h.layer) (member star (map layer_of hs)) e))

  start : (k : Bytes) (hs : List (Hit A)) → member k (named hs) ≡ false → get_or (lookup star (folded hs)) [] ≡ properties_in k hs
  start k hs e =
      let p = like_star k [] hs (sym (named_member k hs) ∙ e) in
      rw (lookup_tabulate (λ x. properties_in x hs) star (named hs))
      (by-test (member star (named hs))
      (λ q. rw q (sym p))
      (λ q. rw q (sym (p ∙ star_unnamed [] hs (sym (named_member star hs) ∙ q)))))

  ensure_folded : (k : Bytes) (hs : List (Hit A)) → ensure (folded hs) k ≡ map (λ x. entry x (properties_in x hs)) (add (named hs) k)
  unfolding ensure add
  ensure_folded k hs =
      rw (keys_declared (λ x. properties_in x hs) (named hs))
      (by-test (member k (named hs)) (λ e. rw e)
      (λ e. rw (e, map-append) (ap (λ (ps : List (Entry A)). folded hs ++ (entry k ps ∷ [])) (start k hs e))))

  step_folded : (hs : List (Hit A)) (h : Hit A) → step (folded hs) h ≡ folded (hs ++ (h ∷ []))
  unfolding step
  step_folded hs h = rw ensure_folded (simp (map-append, foldl-append, map-map))

  pub receive_all : (k : Bytes) (m : Map A) (hs : List (Hit A)) → foldl (receive k) m hs ≡ overlay m (assigned k hs)
  unfolding receive keep flat_map
  receive_all k m [] = refl
  receive_all k m (h ∷ hs) =
      by-test (reaches k h)
      (λ e.
      rw (receive, e)
      (receive_all k (overlay m h.properties) hs
      ∙ sym (foldl-append insert m h.properties (assignments (keep (reaches k) hs)))))
      (λ e. rw (receive, e) (receive_all k m hs))

  folded_declared :
      (hs : List (Hit A)) (ks : List Bytes)
      → map (λ k. entry k (properties_in k hs)) ks ≡ map (λ k. entry k (overlay [] (assigned k hs))) ks
  folded_declared hs [] = refl
  folded_declared hs (k ∷ ks) = rw (receive_all k [] hs, folded_declared hs ks)

  pub step_declared : (hs : List (Hit A)) (h : Hit A) → step (declared hs) h ≡ declared (hs ++ (h ∷ []))
  step_declared hs h =
      ap (λ m. step m h) (sym (folded_declared hs (named hs)))
      ∙ step_folded hs h
      ∙ folded_declared (hs ++ (h ∷ [])) (named (hs ++ (h ∷ [])))

  pub run_declared : (done hs : List (Hit A)) → foldl step (declared done) hs ≡ declared (done ++ hs)
  run_declared done [] = rw (append-nil done)
  run_declared done (h ∷ hs) = rw (step_declared done h, run_declared (done ++ (h ∷ [])) hs, append_assoc done (h ∷ []) hs)

  -- the cascade step by step is the declared one
  pub cascade_is : (hs : List (Hit A)) → foldl step [] hs ≡ declared hs
  cascade_is hs = run_declared [] hs

  -- one layer of the declared ones
  pub layer_declared :
      (k : Bytes) (hs : List (Hit A))
      → lookup k (declared hs) ≡ cond (member k (map layer_of hs)) (some (overlay [] (assigned k hs))) none
  layer_declared k hs = rw (lookup_tabulate (λ x. overlay [] (assigned x hs)) k (named hs), named_member k hs)

  -- a layer is named by what reaches it
  pub named_kept : (k : Bytes) (hs : List (Hit A)) → member k (map layer_of (keep (reaches k) hs)) ≡ member k (map layer_of hs)
  unfolding member keep reaches
  named_kept k [] = refl
  named_kept k (h ∷ hs) =
      by-test (same k h.layer)
      (λ e. rw (keep, reaches, e, member, e))
      (λ e.
      by-test (same star h.layer)
      (λ f. rw (keep, reaches, e, f, member, e, named_kept k hs))
      (λ f. rw (keep, reaches, e, f, named_kept k hs)))
