-- Where nothing is refused the Rust's style_area gives the declared layers.
use Rattle.std.specs.Prelude.{ℕ, ◌≡◌, Bool, true, false, ◌&&◌, Float}
use Rattle.std.proofs.Math.Path.{refl, sym}
use Rattle.std.proofs.Common.{◌∙◌, ap}
use Rattle.std.proofs.Math.Bool.{or-true}
use mathlib.Core.List.{List, [], ◌∷◌, ◌++◌, map, map-append, map-map, foldl, foldl-append}
use Rattle.std.proofs.Math.Option.{Option, none, some}
use Rattle.base.specs.Bytes.{Bytes, same}
use Rattle.base.specs.Choice.{by-test, clash, or_left, or_right}
use Rattle.base.specs.Map.{Entry, key_of, member}
use Rattle.base.specs.Entity.{Entity}
use Rattle.base.proofs.Compare.{same_true, same_sym}
use Rattle.sheet.specs.Sheet.{NumericTest, Test, unary, text, numeric, Selector, Rule}
use Rattle.cascade.specs.Map.{keep, All, and_map, DistinctKeys}
use Rattle.cascade.proofs.MapLaws.{distinct_snoc}
use Rattle.cascade.specs.Clause.{star, layer_name, Clause, clause, clauses}
use Rattle.cascade.specs.Number.{TagNumber, reads, malformed, out_of_range, tag_number}
use Rattle.cascade.specs.Match.{Verdict, pass, fail, out, of_bool, tag, test_key, unary_holds, text_holds, compares, number_verdict, numeric_verdict, test_verdict, verdict_on, and_then, applies, tests_verdict, verdict}
use Rattle.cascade.proofs.MatchLaws.{by-verdict}
use Rattle.cascade.specs.Cascade.{Hit, Layers, reaches, receive, ensure, touch, step}
use Rattle.cascade.proofs.CascadeLaws.{cascade_is}
use Rattle.cascade.specs.Walk.{layers, is_pass, to_hit, walk, property_maps, hits}
use Rattle.cascade.proofs.WalkLaws.{maps_declared, hits_append, admitted, refused_layers}
use Rattle.cascade.specs.Rust.{add_layer, update_entry, update_layer, update_other, rust_step, Parses, parsed_holds, matches_by_tags, all_match, area_matches, style_rule, style_area}

module _ {A : Type 0} where
  untouched : (h : Hit A) (m : Layers A) → same star h.layer ≡ false → member h.layer (map key_of m) ≡ false → map (touch h) m ≡ m
  unfolding member receive reaches
  untouched h [] s n = refl
  untouched h (e ∷ m) s n =
      rw (
        receive,
        reaches,
        same_sym e.key h.layer,
        or_left (same h.layer e.key) (member h.layer (map key_of m)) n,
        s,
        untouched h m s (or_right (same h.layer e.key) (member h.layer (map key_of m)) n),
      )

  pub one_layer :
      (h : Hit A) (m : Layers A)
      → same star h.layer ≡ false
      → DistinctKeys m
      → update_layer h.layer h.properties m ≡ map (touch h) m
  unfolding update_layer receive reaches
  one_layer h [] s d = refl
  one_layer h (e ∷ m) s d =
      by-test (same h.layer e.key)
      (λ p.
      rw (p, receive, reaches, same_sym e.key h.layer, p)
      (ap
      (λ r. update_entry h.properties e ∷ r)
      (sym (untouched h m s (rw (← same_true h.layer e.key p) at d.0)))))
      (λ p. rw (p, receive, reaches, same_sym e.key h.layer, p, s, one_layer h m s d.1))

  all_others : (ps : List (Entry A)) (m : Layers A) → member star (map key_of m) ≡ false → map (update_other ps) m ≡ map (update_entry ps) m
  unfolding update_other member
  all_others ps [] n = refl
  all_others ps (e ∷ m) n =
      rw (
        update_other,
        or_left (same star e.key) (member star (map key_of m)) n,
        all_others ps m (or_right (same star e.key) (member star (map key_of m)) n),
      )

  all_layers : (ps : List (Entry A)) (m : Layers A) → DistinctKeys m → map (update_other ps) (update_layer star ps m) ≡ map (update_entry ps) m
  unfolding update_layer update_other
  all_layers ps [] d = refl
  all_layers ps (e ∷ m) d =
      by-test (same star e.key)
      (λ p.
      rw (p, update_other, p)
      (ap (λ r. update_entry ps e ∷ r) (all_others ps m (rw (← same_true star e.key p) at d.0))))
      (λ p. rw (p, update_other, p, all_layers ps m d.1))

  pub touch_star : (h : Hit A) (m : Layers A) → same star h.layer ≡ true → map (touch h) m ≡ map (update_entry h.properties) m
  unfolding receive reaches
  touch_star h [] s = refl
  touch_star h (e ∷ m) s = rw (receive, reaches, s, or-true, touch_star h m s)

  pub rust_step_lem : (m : Layers A) (h : Hit A) → DistinctKeys (ensure m h.layer) → rust_step m h ≡ step m h
  unfolding rust_step step add_layer ensure
  rust_step_lem m h d =
      by-test (same star h.layer)
      (λ s.
      let q = same_true star h.layer s in
      rw (s, touch_star h (ensure m h.layer) s, ← q)
      (all_layers h.properties (ensure m star) (rw (← q) at d)))
      (λ s. rw s (one_layer h (ensure m h.layer) s d))

  pub ensure_distinct : (m : Layers A) (k : Bytes) → DistinctKeys m → DistinctKeys (ensure m k)
  unfolding ensure
  ensure_distinct m k d = by-test (member k (map key_of m)) (λ e. rw e d) (λ e. rw (e, map-append) (distinct_snoc (map key_of m) k d e))

  pub step_distinct : (m : Layers A) (h : Hit A) → DistinctKeys m → DistinctKeys (step m h)
  unfolding step
  step_distinct m h d = rw map-map (ensure_distinct m h.layer d)

  -- the whole cascade
  pub rust_cascade : (m : Layers A) (hs : List (Hit A)) → DistinctKeys m → foldl rust_step m hs ≡ foldl step m hs
  rust_cascade m [] d = refl
  rust_cascade m (h ∷ hs) d = rw (rust_step_lem m h (ensure_distinct m h.layer d)) (rust_cascade (step m h) hs (step_distinct m h d))

-- ---- matching

module _ (parse : Bytes → Option Float) (known : Parses parse) where
  -- the verdict where it is not 8
  abbrev Agrees : Verdict → Bool → Type 0
  Agrees pass b = b ≡ true
  Agrees fail b = b ≡ false
  Agrees out b = Unit {0}

  bool_agrees : (b : Bool) → Agrees (of_bool b) b
  bool_agrees true = refl
  bool_agrees false = refl

  number_agrees :
      (c : NumericTest) (y : Float) (v : Bytes) (n : TagNumber)
      → tag_number v ≡ n
      → Agrees (number_verdict c y n) (parsed_holds c y (parse v))
  unfolding number_verdict parsed_holds
  number_agrees c y v (reads x) p = rw (known.exact v x p) (bool_agrees (compares c x y))
  number_agrees c y v malformed p = rw (known.refuses v p)
  number_agrees c y v out_of_range p = tt

  numeric_agrees : (c : NumericTest) (y : Float) (o : Option Bytes) → Agrees (numeric_verdict c y o) (parsed_holds c y (and_map parse o))
  unfolding numeric_verdict and_map parsed_holds
  numeric_agrees c y none = refl
  numeric_agrees c y (some v) = number_agrees c y v (tag_number v) refl

  test_agrees : (t : Test) (o : Option Bytes) → Agrees (test_verdict t o) (matches_by_tags parse t o)
  unfolding test_verdict matches_by_tags
  test_agrees (unary u k) o = bool_agrees (unary_holds u o)
  test_agrees (text q k v) o = bool_agrees (text_holds q v o)
  test_agrees (numeric c k y) o = numeric_agrees c y o

  and_agrees : (v w : Verdict) (a b : Bool) → Agrees v a → Agrees w b → Agrees (and_then v w) (a && b)
  and_agrees pass w a b p q = rw p q
  and_agrees fail w a b p q = rw p
  and_agrees out w a b p q = tt

  tests_agrees : (e : Entity) (ts : List Test) → Agrees (tests_verdict e ts) (all_match parse e ts)
  unfolding tests_verdict all_match
  tests_agrees e [] = refl
  tests_agrees e (t ∷ ts) =
      and_agrees (verdict_on e t) (tests_verdict e ts) (matches_by_tags parse t (tag e (test_key t))) (all_match parse e ts)
      (test_agrees t (tag e (test_key t))) (tests_agrees e ts)

  area_agrees : (z : ℕ) (e : Entity) (s : Selector) → Agrees (verdict z e s) (area_matches parse z e s)
  unfolding verdict area_matches
  area_agrees z e s =
      by-test (applies z e.kind s) (λ p. rw p (tests_agrees e s.tests)) (λ p. rw p)

-- ---- the loops

abbrev judged : Verdict → Bool
judged pass = true
judged fail = true
judged out = false

all_left : {A : Type 0} (p : A → Bool) (xs ys : List A) → All p (xs ++ ys) → All p xs
unfolding All
all_left p [] ys a = tt
all_left p (x ∷ xs) ys a = (a.0, all_left p xs ys a.1)

all_right : {A : Type 0} (p : A → Bool) (xs ys : List A) → All p (xs ++ ys) → All p ys
unfolding All
all_right p [] ys a = a
all_right p (x ∷ xs) ys a = all_right p xs ys a.1

all_of : {A B : Type 0} (f : A → B) (p : B → Bool) (xs : List A) → All p (map f xs) → All (λ x. p (f x)) xs
unfolding All
all_of f p [] a = tt
all_of f p (x ∷ xs) a = (a.0, all_of f p xs a.1)

module _ (z : ℕ) (e : Entity) (parse : Bytes → Option Float) (known : Parses parse) where
  kept_alike :
      (ss : List Selector)
      → All (λ s. judged (verdict z e s)) ss
      → keep (area_matches parse z e) ss ≡ keep (λ s. is_pass (verdict z e s)) ss
  unfolding keep All
  kept_alike [] a = refl
  kept_alike (s ∷ ss) a =
      let g = area_agrees parse known z e s in
      by-verdict (verdict z e s)
      (λ v. rw (v, rw v at g, kept_alike ss a.1))
      (λ v. rw (v, rw v at g, kept_alike ss a.1))
      (λ v. clash (rw v at a.0) refl)

module _ {A : Type 0} (z : ℕ) (e : Entity) where
  -- what is not refused meets no number out of range
  walk_judged :
      (m : Layers A) (cs : List (Clause A)) (w : Layers A)
      → walk z e m cs ≡ layers w
      → All (λ c. judged (verdict z e c.selector)) cs
  unfolding walk All
  walk_judged m [] w p = tt
  walk_judged m (c ∷ cs) w p =
      by-verdict (verdict z e c.selector)
      (λ v. ((rw v), walk_judged (step m (to_hit c)) cs w (admitted (step m (to_hit c)) (walk z e (step m (to_hit c)) cs) w (rw v at p))))
      (λ v. ((rw v), walk_judged m cs w (rw v at p)))
      (λ v. absurd (refused_layers 8 w (rw v at p)))

  one_rule_lem :
      (ps : List (Entry A)) (m : Layers A) (ss : List Selector)
      → foldl
      (λ w s. rust_step w (record { layer = layer_name s; properties = ps }))
      m (keep (λ s. is_pass (verdict z e s)) ss) ≡ foldl rust_step m (hits z e (map (clause ps) ss))
  unfolding hits keep
  one_rule_lem ps m [] = refl
  one_rule_lem ps m (s ∷ ss) =
      by-test (is_pass (verdict z e s))
      (λ p. rw p (one_rule_lem ps (rust_step m (record { layer = layer_name s; properties = ps })) ss))
      (λ p. rw p (one_rule_lem ps m ss))

  module _ (parse : Bytes → Option Float) (known : Parses parse) where
    all_rules :
        (m : Layers A) (rs : List (Rule A))
        → All (λ c. judged (verdict z e c.selector)) (clauses rs)
        → foldl (style_rule parse z e) m rs ≡ foldl rust_step m (hits z e (clauses rs))
    unfolding clauses hits keep
    all_rules m [] a = refl
    all_rules m (r ∷ rs) a =
        let here = map (clause r.properties) r.selectors in
        let k =
        kept_alike z e parse known r.selectors
        (all_of (clause r.properties)
        (λ c. judged (verdict z e c.selector))
        r.selectors
        (all_left (λ c. judged (verdict z e c.selector)) here (clauses rs) a)) in
        rw (
          hits_append z e here (clauses rs),
          foldl-append rust_step m (hits z e here) (hits z e (clauses rs)),
          ← one_rule_lem r.properties m r.selectors,
          ← k,
        )
        (all_rules (style_rule parse z e m r) rs (all_right (λ c. judged (verdict z e c.selector)) here (clauses rs) a))

    -- where nothing is refused, the layers are the Rust's, whatever it makes of numbers out of range
    pub rust_maps : (rs : List (Rule A)) (v : Layers A) → property_maps z e rs ≡ layers v → v ≡ style_area parse z e rs
    unfolding property_maps
    rust_maps rs v p =
        maps_declared z e rs v p
        ∙ sym (cascade_is (hits z e (clauses rs)))
        ∙ sym (rust_cascade [] (hits z e (clauses rs)) tt)
        ∙ sym (all_rules [] rs (walk_judged [] (clauses rs) v p))

-- there is such a reading: the one that takes no number out of range
abbrev in_range_only : TagNumber → Option Float
in_range_only (reads x) = some x
in_range_only malformed = none
in_range_only out_of_range = none

pub one_parse : Parses (λ v. in_range_only (tag_number v))
one_parse = record { exact = λ v x p. rw p; refuses = λ v p. rw p }
