-- Demand 3 holds: to strike selectors is to strike what they match, and a layer depends on what reaches it alone.
use Rattle.std.specs.Prelude.{ℕ, ◌≡◌, Bool, cond}
use Rattle.std.proofs.Math.Path.{refl, ap}
use Rattle.std.proofs.Common.{sym, ◌∙◌}
use mathlib.Core.List.Memᴰ
use mathlib.Core.List.{List, [], ◌∷◌, ◌++◌, map, flat_map, append_assoc, Memᴰ}
use Rattle.std.proofs.Math.Option.{Option, none, some}
use Rattle.base.specs.Bytes.{Bytes}
use Rattle.base.specs.Choice.{by-test}
use Rattle.base.specs.Map.{Entry, Map, lookup, member}
use Rattle.base.specs.Entity.{Entity}
use Rattle.sheet.specs.Sheet.{Selector, Rule, Value}
use Rattle.cascade.specs.Map.{overlay, keep, map_option}
use Rattle.cascade.proofs.MapLaws.{by_option, keep_append, keep_map, keep_comm}
use Rattle.cascade.specs.Clause.{default_name, Clause, clause, clauses}
use Rattle.cascade.specs.Match.{tag, test_key, verdict}
use Rattle.cascade.proofs.MatchLaws.{verdict_agree}
use Rattle.cascade.specs.Cascade.{Hit, Layers, layer_of, reaches, assignments}
use Rattle.cascade.proofs.CascadeLaws.{layer_declared, named_kept}
use Rattle.cascade.specs.Walk.{layers, is_pass, to_hit, property_maps, matched, hits}
use Rattle.cascade.proofs.WalkLaws.{maps_declared}
use Rattle.cascade.specs.Style.{style_of}
use Rattle.cascade.proofs.StyleLaws.{style_is, base_alike}
use Rattle.cascade.specs.Isolation.{of_layer, strike_selectors, has_one, strike, tested_keys, Agree, Isolated, StyleIsolated}

abbrev clause_in : {A : Type 0} → Bytes → Clause A → Bool
clause_in k c = of_layer k c.selector

module _ {A : Type 0} where
  -- rules without a selector say nothing
  clauses_kept : (rs : List (Rule A)) → clauses (keep (λ r. has_one r.selectors) rs) ≡ clauses rs
  unfolding clauses keep
  clauses_kept [] = refl
  clauses_kept (r ∷ rs) = go r.selectors refl (clauses_kept rs)
    where
      go :
          (ss : List Selector)
          → r.selectors ≡ ss
          → clauses (keep (λ r. has_one r.selectors) rs) ≡ clauses rs
          → clauses (keep (λ r. has_one r.selectors) (r ∷ rs)) ≡ clauses (r ∷ rs)
      go [] e h = rw e h
      go (s ∷ ss) e h = rw e (ap (λ l. map (clause r.properties) (s ∷ ss) ++ l) h)

  clauses_struck : (k : Bytes) (rs : List (Rule A)) → clauses (map (strike_selectors k) rs) ≡ keep (clause_in k) (clauses rs)
  unfolding clauses keep
  clauses_struck k [] = refl
  clauses_struck k (r ∷ rs) =
      rw (
        clauses_struck k rs,
        keep_append (clause_in k) (map (clause r.properties) r.selectors) (clauses rs),
        keep_map (clause_in k) (clause r.properties) r.selectors,
      )

  pub clauses_strike : (k : Bytes) (rs : List (Rule A)) → clauses (strike k rs) ≡ keep (clause_in k) (clauses rs)
  clauses_strike k rs = clauses_kept (map (strike_selectors k) rs) ∙ clauses_struck k rs

  -- the keys that the clauses test
  abbrev clause_keys : List (Clause A) → List Bytes
  clause_keys = flat_map (λ c. map test_key c.selector.tests)

  keys_rule :
      (ps : List (Entry A)) (ss : List Selector) (cs : List (Clause A))
      → clause_keys (map (clause ps) ss ++ cs) ≡ flat_map (λ s. map test_key s.tests) ss ++ clause_keys cs
  unfolding flat_map
  keys_rule ps [] cs = refl
  keys_rule ps (s ∷ ss) cs = rw (keys_rule ps ss cs, append_assoc)

  keys_are : (rs : List (Rule A)) → clause_keys (clauses rs) ≡ tested_keys rs
  unfolding flat_map clauses
  keys_are [] = refl
  keys_are (r ∷ rs) = keys_rule r.properties r.selectors (clauses rs) ∙ (rw (keys_are rs))

  -- a layer by what the rules left match
  abbrev pub layer_from : Bytes → List (Hit A) → Option (Map A)
  layer_from k hs = cond (member k (map layer_of hs)) (some (overlay [] (assignments hs))) none

  module _ (z : ℕ) where
    hits_agree :
        (d e : Entity) (cs : List (Clause A))
        → d.kind ≡ e.kind
        → ((k : Bytes) → Memᴰ k (clause_keys cs) → tag d k ≡ tag e k)
        → hits z d cs ≡ hits z e cs
    unfolding hits keep flat_map
    hits_agree d e [] p h = refl
    hits_agree d e (c ∷ cs) p h =
        let below = hits_agree d e cs p (λ k m. h k (Memᴰ.append_right (map test_key c.selector.tests) m)) in
        rw
        (verdict_agree z d e c.selector p (λ k m. h k (Memᴰ.append_left (clause_keys cs) m)))
        (by-test (is_pass (verdict z e c.selector)) (λ q. rw q (ap (λ l. to_hit c ∷ l) below)) (λ q. rw q below))

    agree_hits : (d e : Entity) (rs : List (Rule A)) → Agree d e rs → hits z d (clauses rs) ≡ hits z e (clauses rs)
    agree_hits d e rs a =
        hits_agree d e (clauses rs) a.kinds (λ k m. a.tags k (rw (keys_are rs) at m))

    -- to strike selectors is to strike what they match
    pub hits_strike :
        (e : Entity) (k : Bytes) (rs : List (Rule A))
        → keep (reaches k) (hits z e (clauses rs)) ≡ hits z e (clauses (strike k rs))
    unfolding hits reaches
    hits_strike e k rs =
        keep_map (reaches k) to_hit (keep (matched z e) (clauses rs))
        ∙ ap (map to_hit)
        (keep_comm (clause_in k) (matched z e) (clauses rs)
        ∙ ap (keep (matched z e)) (sym (clauses_strike k rs)))

    pub layer_struck :
        (e : Entity) (k : Bytes) (rs : List (Rule A)) (v : Layers A)
        → property_maps z e rs ≡ layers v
        → lookup k v ≡ layer_from k (hits z e (clauses (strike k rs)))
    layer_struck e k rs v p =
        rw (maps_declared z e rs v p, layer_declared k (hits z e (clauses rs)), ← hits_strike e k rs, named_kept k (hits z e (clauses rs)))

pub isolated : {A : Type 0} → Isolated A
isolated k z rs qs d e v w r =
    layer_struck z d k rs v r.first_call
    ∙ ap (layer_from k) (agree_hits z d e (strike k rs) r.entities)
    ∙ ap (λ x. layer_from k (hits z e (clauses x))) r.rules
    ∙ sym (layer_struck z e k qs w r.second_call_maps)

pub style_isolated : StyleIsolated
style_isolated k z rs qs d e v w r a s = style_is k s d v a.not_star ∙ middle ∙ sym (style_is k s e w a.not_star)
  where
    same_layer : lookup k v ≡ lookup k w
    same_layer = isolated k z rs qs d e v w r

    alike : (m : Map Value) → lookup k v ≡ some m → style_of s d (lookup default_name v) m ≡ style_of s e (lookup default_name w) m
    alike m o = rw (base_alike m (lookup default_name v) (lookup default_name w) (a.widths m o), a.layer_tags, r.entities.kinds)

    middle :
        map_option (style_of s d (lookup default_name v)) (lookup k v) ≡ map_option (style_of s e (lookup default_name w)) (lookup k w)
    middle = rw same_layer (by_option (lookup k w) (λ n. rw n) (λ m o. rw o (ap some (alike m (same_layer ∙ o)))))
