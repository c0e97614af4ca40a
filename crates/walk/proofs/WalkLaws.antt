-- Laws of the walk, one for each way through the code, over plain lists and numbers.
use Prim.Native.Nat.{ℕ, ◌+◌, ◌-◌, ◌/◌, ◌≤◌, ◌<◌, min}
use native.Mathlib.Omega.{arith}
use mathlib.Core.Path.{◌≡◌, refl, sym, ◌∙◌, ap, ap₂}
use mathlib.Core.Bool.{Bool, true, false}
use mathlib.Core.List.{List}
use lib.Ieee.{Float}
use lib.ListN.{length, replicate}
use borrow.Author.Tests.{leb-true, lt-ltb, le-ltb}
use Rattle.base.specs.Bytes.{Bytes}
use Rattle.base.specs.Choice.{pick, via, if_true, if_false}
use Rattle.base.specs.Refusal.{refusal, of_entity}
use Rattle.base.specs.Table.{capacity_of}
use Rattle.base.specs.declared.refusal.Refusal.{Refusal}
use Rattle.table.specs.Value.{word_at}
use Rattle.entity.specs.Layout.{single_of}
use Rattle.entity.specs.declared.EntityRange.{EntityRange}
use Rattle.cascade.specs.Match.{Verdict, pass, fail, out}
use Rattle.valid.specs.Valid.{entries_held, counts_held, tables_sound}
use Rattle.valid.specs.declared.Counts.{Counts}
use Rattle.valid.proofs.Judged.{judged_err, judged_ok}
use Rattle.decode.specs.Decode.{name_at, places}
use Rattle.matching.specs.Matching.{fit_of}
use Rattle.matching.specs.declared.OutOfRange.{OutOfRange}
use Rattle.walk.proofs.LayerLaws.{told_stop, told_going, bind_stop, bind_going, one_less, none_left}
use Rattle.walk.specs.Run.{Run, stop, going, told, seek, step_of, on_verdict, hit_of, selectors_of, rule_of, rules_of}
use Rattle.walk.specs.Maps.{no_rows, finish, walk_of, maps_of, layer_place}
use Rattle.walk.specs.Selectors.{layer_in, verdict_in}
use Rattle.walk.specs.Walking.{Given, given, names, layers, verdicts}
use Rattle.walk.specs.declared.Walk.{Walk}
use Rattle.std.specs.Prelude.{Option, None, Result, Ok, Err}
use Rattle.walk.specs.Rows.{below}
use Rattle.walk.proofs.RowLaws.{below_none}
use Rattle.base.specs.Option.{result_err, result_ok}

module _ (name layer : ℕ → Bytes) (verdict_of : ℕ → Verdict) (t : List ℕ) (n s end : ℕ) (ps : List ℕ) where
  pub selectors_end : end ≤ s → selectors_of name layer verdict_of t n s (end - s) ps ≡ going n t
  unfolding selectors_of
  selectors_end h = ap (λ k. selectors_of name layer verdict_of t n s k ps) (none_left s end h)

  module _ (h : s < end) (r : Result (Unit {0}) ℕ) (m : ℕ) (t' : List ℕ) (e : told r m t' ≡ hit_of name layer verdict_of t n s ps) where
    pub selectors_stop : (k : ℕ) → r ≡ Err k → selectors_of name layer verdict_of t n s (end - s) ps ≡ stop k
    unfolding selectors_of
    selectors_stop k q = ap (λ k. selectors_of name layer verdict_of t n s k ps) (one_less s end h) ∙ bind_stop _ _ k (told_stop r m t' _ k e q)

    pub selectors_next :
        (u : Unit {0})
        → r ≡ Ok u
        → selectors_of name layer verdict_of t n s (end - s) ps ≡ selectors_of name layer verdict_of t' m (s + 1) (end - (s + 1)) ps
    unfolding selectors_of
    selectors_next u q =
        ap (λ k. selectors_of name layer verdict_of t n s k ps) (one_less s end h)
        ∙ bind_going _ _ m t' (told_going r m t' _ u e q)

module _ (name layer : ℕ → Bytes) (verdict_of : ℕ → Verdict) (rules t : List ℕ) (n r total : ℕ) where
  pub rules_end : total ≤ r → rules_of name layer verdict_of rules t n r (total - r) ≡ going n t
  unfolding rules_of
  rules_end h = ap (rules_of name layer verdict_of rules t n r) (none_left r total h)

  module _ (h : r < total) (a : Result (Unit {0}) ℕ) (m : ℕ) (t' : List ℕ) (e : told a m t' ≡ rule_of name layer verdict_of rules t n r) where
    pub rules_stop : (k : ℕ) → a ≡ Err k → rules_of name layer verdict_of rules t n r (total - r) ≡ stop k
    unfolding rules_of
    rules_stop k q = ap (rules_of name layer verdict_of rules t n r) (one_less r total h) ∙ bind_stop _ _ k (told_stop a m t' _ k e q)

    pub rules_next :
        (u : Unit {0})
        → a ≡ Ok u
        → rules_of name layer verdict_of rules t n r (total - r) ≡ rules_of name layer verdict_of rules t' m (r + 1) (total - (r + 1))
    unfolding rules_of
    rules_next u q = ap (rules_of name layer verdict_of rules t n r) (one_less r total h) ∙ bind_going _ _ m t' (told_going a m t' _ u e q)

-- the words of a rule
pub rule_is :
    (name layer : ℕ → Bytes) (verdict_of : ℕ → Verdict) (rules t : List ℕ) (n r s end from to : ℕ)
    → s ≡ word_at rules r 1
    → end ≡ word_at rules r 2
    → from ≡ word_at rules r 3
    → to ≡ word_at rules r 4
    → selectors_of name layer verdict_of t n s (end - s) (places from (to - from)) ≡ rule_of name layer verdict_of rules t n r
unfolding rule_of
rule_is name layer verdict_of rules t n r s end from to a b c d = rw (a, b, c, d)

-- ---- one selector

abbrev on_fit : Result Bool OutOfRange → Run → Run → Run
on_fit (Ok true) a b = a
on_fit (Ok false) a b = b
on_fit (Err x) a b = stop 8

fit_run : (v : Verdict) (a b : Run) → on_fit (fit_of v) a b ≡ on_verdict v a b
fit_run pass a b = refl
fit_run fail a b = refl
fit_run out a b = refl

module _ (name layer : ℕ → Bytes) (verdict_of : ℕ → Verdict) (t : List ℕ) (n s : ℕ) (ps : List ℕ) (f : Result Bool OutOfRange)
    (e : f ≡ fit_of (verdict_of s)) (x : Run) where
  pub hit : (k : Result Bool OutOfRange) → f ≡ k → x ≡ on_fit k (step_of name layer t n s ps) (going n t) → x ≡ hit_of name layer verdict_of t n s ps
  unfolding hit_of
  hit k y q =
      q
      ∙ ap (λ g. on_fit g (step_of name layer t n s ps) (going n t)) (sym y ∙ e)
      ∙ fit_run (verdict_of s) (step_of name layer t n s ps) (going n t)

-- ---- the whole

pub zeroed : (n : ℕ) (u : List ℕ) → u ≡ replicate n 0 → n ≡ 4323 → u ≡ no_rows
zeroed n u e p = e ∙ ap (λ k. replicate k 0) p

module _ (multipolygons : Bool) (place : ℕ) (q : Result (Unit {0}) ℕ) (n : ℕ) (t : List ℕ) where
  pub finish_refused :
      (u : List ℕ) (k : ℕ) (e : Refusal)
      → q ≡ Err k
      → e ≡ of_entity k multipolygons place
      → u ≡ no_rows
      → (Err e, u) ≡ finish multipolygons place (told q n t)
  unfolding finish
  finish_refused u k e y z w = ap₂ (λ x v. (Err x, v)) z w ∙ sym (ap (λ a. finish multipolygons place (told a n t)) y)

  pub finish_going : (x : Unit {0}) → q ≡ Ok x → (Ok n, t) ≡ finish multipolygons place (told q n t)
  unfolding finish
  finish_going x y = sym (ap (λ a. finish multipolygons place (told a n t)) y)

held_first : (b x : Bool) → pick b x false ≡ true → b ≡ true
unfolding pick
held_first true x e = refl
held_first false x e = e

module _ (bundle rules selectors tests properties : List ℕ) (numbers : List Float) (n : Counts) where
  abbrev sound : Bool
  sound = tables_sound rules selectors tests properties numbers n (length bundle)

  pub rules_few : sound ≡ true → n.rules ≤ 16384
  unfolding tables_sound counts_held entries_held capacity_of
  rules_few e = omega (arith, leb-true n.rules (min 16384 (length rules / 8)) (held_first _ _ (held_first _ _ e)))

  module _ (zoom : ℕ) (entity : Bytes) (b : Result (Unit {0}) Refusal) (i : b ≡ pick sound (Ok tt) (Err (refusal 22 0 0 0 0)))
      (x : Result ℕ Refusal) (u : List ℕ) where
    pub maps_broken :
        u ≡ no_rows
        → (e : Refusal)
        → b ≡ Err e
        → x ≡ Err e
        → (x, u) ≡ maps_of bundle rules selectors tests properties numbers n zoom entity
    unfolding maps_of
    maps_broken z e y w =
        let j = judged_err _ _ i y in
        if_false _ _ _ j.0 (ap₂ (λ (x : Result ℕ Refusal) (v : List ℕ). (x, v)) (w ∙ ap Err j.1) z)

    module _ (o : Unit {0}) (y : b ≡ Ok o) (q : Result EntityRange Refusal) (j : q ≡ single_of entity) where
      pub maps_bad :
          u ≡ no_rows
          → (e : Refusal)
          → q ≡ Err e
          → x ≡ Err e
          → (x, u) ≡ maps_of bundle rules selectors tests properties numbers n zoom entity
      unfolding maps_of
      maps_bad z e w m =
          if_true _ _ _ (judged_ok _ _ i y).0
          (result_err _ _ _ (via j w) (ap₂ (λ (x : Result ℕ Refusal) (v : List ℕ). (x, v)) m z))

      pub maps_walked :
          (e : EntityRange)
          → q ≡ Ok e
          → (x, u) ≡ walk_of bundle rules selectors tests properties numbers n.rules zoom entity e false 0
          → (x, u) ≡ maps_of bundle rules selectors tests properties numbers n zoom entity
      unfolding maps_of
      maps_walked e w walked = if_true _ _ _ (judged_ok _ _ i y).0 (result_ok _ _ _ (via j w) walked)

-- ---- the walk alone

module _ (bundle rules selectors tests properties : List ℕ) (numbers : List Float) (total zoom : ℕ) (entity : Bytes) (e : EntityRange)
    (multipolygons : Bool) (place : ℕ) where
  pub walk_many :
      16384 < total
      → (r : Refusal)
      → r ≡ refusal 22 0 0 0 0
      → (u : List ℕ)
      → u ≡ no_rows
      → (Err r, u) ≡ walk_of bundle rules selectors tests properties numbers total zoom entity e multipolygons place
  unfolding walk_of
  walk_many h r w u z = if_true _ _ _ (lt-ltb 16384 total h) (ap₂ (λ x v. (Err x, v)) w z)

  pub walk_done :
      total ≤ 16384
      → (u : List ℕ)
      → u ≡ no_rows
      → (a : Run)
      → a ≡ rules_of (name_at bundle properties) (layer_in bundle selectors)
      (verdict_in bundle selectors tests numbers zoom entity e) rules u 0 0 total
      → (x : Result ℕ Refusal × List ℕ)
      → x ≡ finish multipolygons place a
      → x ≡ walk_of bundle rules selectors tests properties numbers total zoom entity e multipolygons place
  unfolding walk_of
  walk_done h u z a walked x done =
      if_false _ _ _ (le-ltb 16384 total h)
      (done
      ∙ ap (finish multipolygons place)
      (walked
      ∙ ap
      (λ (d : List ℕ).
      rules_of (name_at bundle properties) (layer_in bundle selectors)
      (verdict_in bundle selectors tests numbers zoom entity e) rules d 0 0 total) z))

-- what holds of what a walk was given holds of what it still has
pub as_given :
    {B : Type 0} (f : (ℕ → Bytes) → (ℕ → Bytes) → (ℕ → Verdict) → List ℕ → B) (w v : Walk)
    → given w ≡ given v
    → f (names w) (layers w) (verdicts w) w.tables.now.rules.now ≡ f (names v) (layers v) (verdicts v) v.tables.now.rules.now
as_given f w v e =
    ap
    (λ (g : Given).
    f (name_at g.0.now.bundle.now g.0.now.properties.now) (layer_in g.0.now.bundle.now g.0.now.selectors.now)
    (verdict_in g.0.now.bundle.now g.0.now.selectors.now g.0.now.tests.now g.0.now.numbers.now g.1 g.2.bytes.now g.2.range)
    g.0.now.rules.now) e

pub same_rows : (w v : Walk) → given w ≡ given v → w.rows.ghost_name ≡ v.rows.ghost_name
same_rows w v e = ap (λ (g : Given). g.3) e

pub place_many : (layer : ℕ → Bytes) (t : List ℕ) (n : ℕ) (name : Bytes) → 32 < n → None ≡ below n (layer_place layer t n name)
unfolding layer_place
place_many layer t n name h =
    let e : n ≡ layer_place layer t n name = if_true _ _ _ (lt-ltb 32 n h) refl in
    below_none n (layer_place layer t n name) (omega (arith, e))

pub place_few :
    (layer : ℕ → Bytes) (t : List ℕ) (n : ℕ) (name : Bytes)
    → n ≤ 32
    → (r : Option ℕ)
    → r ≡ below n (seek layer t name 0 n)
    → r ≡ below n (layer_place layer t n name)
unfolding layer_place
place_few layer t n name h r e = e ∙ ap (below n) (if_false _ _ _ (le-ltb 32 n h) refl)
