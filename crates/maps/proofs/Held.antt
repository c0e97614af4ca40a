-- The table that the walk leaves holds the theory's layers, and zeros behind them.
use Prim.Native.Nat.{ℕ, zero, suc, ◌+◌, ◌-◌, ◌≤◌}
use native.Mathlib.Omega.{arith}
use mathlib.Core.Path.{◌≡◌, refl, sym, ◌∙◌, ap, subst}
use mathlib.Core.Bool.{Bool, true, false}
use mathlib.Core.List.{List, [], ◌++◌, map}
use lib.Dec.{ltb}
use lib.Ieee.{Float}
use borrow.Author.Tests.{le-ltb}
use lib.ListN.{length, replicate}
use Rattle.base.specs.Bytes.{Bytes}
use Rattle.base.specs.Choice.{pick, pick_split}
use Rattle.base.specs.Entity.{Entity}
use Rattle.base.specs.Refusal.{refusal, of_entity}
use Rattle.base.specs.Table.{padded}
use Rattle.base.specs.declared.refusal.Refusal.{Refusal}
use Rattle.entity.specs.Layout.{single_of, value_of}
use Rattle.entity.specs.declared.EntityRange.{EntityRange}
use Rattle.sheet.specs.Sheet.{Rule, Selector}
use Rattle.table.specs.Value.{word_at, range_at}
use Rattle.cascade.specs.Clause.{layer_name, clause, clauses}
use Rattle.cascade.specs.Match.{Verdict, verdict}
use Rattle.cascade.specs.Walk.{Answer, layers, walk, property_maps}
use Rattle.cascade.proofs.WalkLaws.{walk_append}
use Rattle.valid.specs.Valid.{tables_sound}
use Rattle.valid.specs.declared.Counts.{Counts}
use Rattle.decode.specs.Decode.{places, places_in, selector_in, name_at, numbered_at}
use Rattle.walk.specs.Run.{Run, stop, going, bind, rule_of, rules_of}
use Rattle.walk.specs.Maps.{no_rows, refused_maps, finish, walk_of, maps_of}
use Rattle.maps.specs.Held.{rows_at, answer_held, MapsAre, WalkIs, FewLayers, RefusalNamed, ZeroBehind, RefusalZeroes}
use Rattle.walk.proofs.WalkLaws.{rules_few}
use Rattle.maps.proofs.Book.{Book, rows_of, encode, Slim, spell, Fine, Means, stops, goes}
use Rattle.maps.proofs.Encode.{rows_length, layers_back, rows_back}
use Rattle.maps.proofs.Meaning.{means_bind, means_selectors}
use Rattle.std.specs.Prelude.{Result, Ok, Err}
use Rattle.base.specs.Option.{on_result}

-- ---- the table at the end

answered :
    (mp : Bool) (i : ℕ) (name layer : ℕ → Bytes) (r : Run) (a : Answer ℕ)
    → Means name layer r a
    → answer_held name layer (finish mp i r) ≡ a
unfolding finish
answered false i name layer r a (stops k) = refl
answered true i name layer r a (stops k) = refl
answered mp i name layer r a (goes b f) = ap layers (layers_back name layer [] b f.thin)

abbrev Answered : Type 0
Answered = Result ℕ Refusal × List ℕ

no_maps : {A : Type 0} (e : Refusal) (k : ℕ) → ◌≡◌ {A = Result ℕ Refusal} (Err e) (Ok k) → A
no_maps e k p = let z : ◌≡◌ {A = ℕ} 0 1 = cc in absurd (omega arith)

-- rows and zeros, if there are maps; zeros, if there are none
record Ends (x : Answered) : Type 0 where
  held : (k : ℕ) (t : List ℕ) → x ≡ (Ok k, t) → t ≡ padded 0 4323 (rows_at t (places 0 k))
  blank : (e : Refusal) (t : List ℕ) → x ≡ (Err e, t) → t ≡ no_rows

ends_refused : (e : Refusal) → Ends (refused_maps e)
ends_refused e =
    record {
      held = λ k t p. no_maps e k (ap (λ (x : Answered). x.0) p);
      blank = λ d t p. sym (ap (λ (x : Answered). x.1) p);
    }

encoded : (b : Book) → Slim b → encode b ≡ padded 0 4323 (rows_at (encode b) (places 0 (length b)))
unfolding encode
encoded b s = ap (λ n. rows_of b ++ replicate (4323 - n) 0) (sym (rows_length b s)) ∙ ap (padded 0 4323) (sym (rows_back [] b s))

ends_maps : (b : Book) → Slim b → Ends (Ok (length b), encode b)
ends_maps b s =
    record {
      held = λ k t p.
          let q : ◌≡◌ {A = Result ℕ Refusal} (Ok (length b)) (Ok k) = ap (λ (x : Answered). x.0) p in
          let n : length b ≡ k = cc in
          subst (λ (t : List ℕ). t ≡ padded 0 4323 (rows_at t (places 0 k))) (ap (λ (x : Answered). x.1) p)
          (subst (λ k. encode b ≡ padded 0 4323 (rows_at (encode b) (places 0 k))) n (encoded b s));
      blank = λ e t p. no_maps e (length b) (sym (ap (λ (x : Answered). x.0) p));
    }

ends_finish :
    (mp : Bool) (i : ℕ) (name layer : ℕ → Bytes) (r : Run) (a : Answer ℕ)
    → Means name layer r a
    → Ends (finish mp i r)
unfolding finish
ends_finish mp i name layer r a (stops k) = ends_refused (of_entity k mp i)
ends_finish mp i name layer r a (goes b f) = ends_maps b f.thin

ends_single :
    (s : Result EntityRange Refusal) (f : EntityRange → Answered)
    → ((e : EntityRange) → Ends (f e))
    → Ends (on_result s refused_maps f)
unfolding on_result
ends_single (Err e) f h = ends_refused e
ends_single (Ok e) f h = h e

-- ---- the walk over the rules of the tables

module _ (bundle : Bytes) (rules selectors tests properties : List ℕ) (numbers : List Float) (z : ℕ) (e : Entity) where
  abbrev name : ℕ → Bytes
  name = name_at bundle properties

  abbrev selector : ℕ → Selector
  selector = selector_in bundle selectors tests numbers

  abbrev layer : ℕ → Bytes
  layer s = layer_name (selector s)

  abbrev verdict_of : ℕ → Verdict
  verdict_of s = verdict z e (selector s)

  abbrev rule : ℕ → Rule ℕ
  rule = numbered_at bundle rules selectors tests properties numbers

  means_rules :
      (k r : ℕ) (b : Book)
      → Fine name layer b
      → Means name layer (rules_of name layer verdict_of rules (encode b) (length b) r k)
      (walk z e (spell name layer b) (clauses (map rule (places r k))))
  unfolding rules_of rule_of places clauses walk
  means_rules zero r b f = goes b f
  means_rules (suc k) r b f =
      subst
      (Means name layer
      (bind (rule_of name layer verdict_of rules (encode b) (length b) r) (λ n t. rules_of name layer verdict_of rules t n (r + 1) k)))
      (sym
      (walk_append z e (spell name layer b) (map (clause (rule r).properties) (rule r).selectors)
      (clauses (map rule (places (r + 1) k)))))
      (means_bind name layer _ _ _ _
      (means_selectors name selector z e (word_at rules r 2 - word_at rules r 1) (word_at rules r 1) (places_in (range_at rules r 3)) b f)
      (λ c g. means_rules k (r + 1) c g))

  means_all : (n : ℕ) → Means name layer (rules_of name layer verdict_of rules no_rows 0 0 n) (property_maps z e (map rule (places 0 n)))
  unfolding property_maps encode rows_of Slim
  means_all n = means_rules n 0 [] (record { few = omega arith; thin = tt; apart = tt })

-- ---- what was to be proved

ends :
    (bundle : Bytes) (rules selectors tests properties : List ℕ) (numbers : List Float) (n : Counts) (zoom : ℕ) (entity : Bytes)
    → Ends (maps_of bundle rules selectors tests properties numbers n zoom entity)
unfolding maps_of walk_of
ends bundle rules selectors tests properties numbers n zoom entity =
    pick_split Ends (tables_sound rules selectors tests properties numbers n (length bundle)) _ _
    (λ t.
    ends_single (single_of entity) _
    (λ e.
    pick_split Ends (ltb 16384 n.rules) _ _
    (λ m. ends_refused (refusal 22 0 0 0 0))
    (λ m.
    ends_finish false 0 _ _ _ _ (means_all bundle rules selectors tests properties numbers zoom (value_of entity e) n.rules))))
    (λ t. ends_refused (refusal 22 0 0 0 0))

few_refused : (e : Refusal) (k : ℕ) (t : List ℕ) → refused_maps e ≡ (Ok k, t) → k ≤ 32
few_refused e k t p = no_maps e k (ap (λ (x : Answered). x.0) p)

few_finish :
    (mp : Bool) (i : ℕ) (name layer : ℕ → Bytes) (r : Run) (a : Answer ℕ)
    → Means name layer r a
    → (k : ℕ) (t : List ℕ)
    → finish mp i r ≡ (Ok k, t)
    → k ≤ 32
unfolding finish
few_finish mp i name layer r a (stops n) k t p = few_refused (of_entity n mp i) k t p
few_finish mp i name layer r a (goes b f) k t p =
    let q : ◌≡◌ {A = Result ℕ Refusal} (Ok (length b)) (Ok k) = ap (λ (x : Answered). x.0) p in
    let n : length b ≡ k = cc in
    let h = f.few in
    omega arith

pub few_layers : FewLayers
unfolding walk_of
few_layers bundle rules selectors tests properties numbers total zoom entity e mp i k t =
    pick_split (λ (x : Answered). x ≡ (Ok k, t) → k ≤ 32) (ltb 16384 total) _ _
    (λ m. few_refused (refusal 22 0 0 0 0) k t)
    (λ m. few_finish mp i _ _ _ _ (means_all bundle rules selectors tests properties numbers zoom (value_of entity e) total) k t)

of_number : (k : ℕ) (mp : Bool) (i : ℕ) → of_entity k mp i ≡ of_entity (of_entity k mp i).number mp i
of_number k true i = refl
of_number k false i = refl

named_finish :
    (mp : Bool) (i : ℕ) (x : Run) (r : Refusal) (t : List ℕ)
    → finish mp i x ≡ (Err r, t)
    → r ≡ of_entity r.number mp i
unfolding finish
named_finish mp i (stop k) r t p =
    let q : ◌≡◌ {A = Result ℕ Refusal} (Err (of_entity k mp i)) (Err r) = ap (λ (x : Answered). x.0) p in
    let n : of_entity k mp i ≡ r = cc in
    subst (λ (r : Refusal). r ≡ of_entity r.number mp i) n (of_number k mp i)
named_finish mp i (going n u) r t p = no_maps r n (sym (ap (λ (x : Answered). x.0) p))

pub refusal_named : RefusalNamed
unfolding walk_of pick
refusal_named bundle rules selectors tests properties numbers total zoom entity e mp i r t h p =
    named_finish mp i _ r t (rw (le-ltb 16384 total h) at p)

pub walk_is : WalkIs
unfolding walk_of pick
walk_is bundle rules selectors tests properties numbers total zoom entity e mp i h =
    rw (le-ltb 16384 total h)
    (answered mp i _ _ _ _ (means_all bundle rules selectors tests properties numbers zoom (value_of entity e) total))

pub maps_are : MapsAre
unfolding maps_of pick on_result
maps_are bundle rules selectors tests properties numbers n zoom entity e sound one =
    rw (sound, one)
    (walk_is bundle rules selectors tests properties numbers n.rules zoom entity e false 0
    (rules_few bundle rules selectors tests properties numbers n sound))

pub zero_behind : ZeroBehind
zero_behind bundle rules selectors tests properties numbers n zoom entity =
    (ends bundle rules selectors tests properties numbers n zoom entity).held

pub refusal_zeroes : RefusalZeroes
refusal_zeroes bundle rules selectors tests properties numbers n zoom entity =
    (ends bundle rules selectors tests properties numbers n zoom entity).blank
