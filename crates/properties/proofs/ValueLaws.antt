-- What was read of a value or a property, and where it leads.
use Prim.Native.Nat.{ℕ, zero, suc, ◌+◌, ◌<◌, ◌≤◌}
use native.Mathlib.Omega.{arith}
use mathlib.Core.Path.{◌≡◌, refl, sym, ap, ◌∙◌}
use mathlib.Core.Bool.{Bool, true, false, cond}
use mathlib.Core.List.{List}
use mathlib.Core.Option.{none, some}
use Rattle.base.specs.Bytes.{Bytes, same, within}
use Rattle.base.specs.Choice.{pick, different}
use Rattle.base.specs.declared.Range.{Range}
use Rattle.base.specs.declared.refusal.Refusal.{Refusal}
use Rattle.color.specs.declared.Color.{Color}
use Rattle.cursor.specs.declared.Cursor.{Cursor}
use Rattle.table.specs.Value.{range_at, color_at}
use Rattle.table.specs.declared.PropertyValue.{PropertyValue}
use Rattle.grammar.specs.Reading.{Value, property, color_named}
use Rattle.grammar.specs.Input.{property_entry, Answer, refused, on_option, after, keep, read}
use Rattle.keep.specs.Lent.{Lent, value_shown, fresh_numbers, property_kept, put_entry, colors_from, place_from}
use Rattle.keep.proofs.KeepLaws.{is_full, is_put}
use Rattle.keep.specs.Source.{reading}
use Rattle.input.specs.Source.{Spot, spot}
use Rattle.input.specs.Text.{name_in, left, refusal_at, reached_at}
use Rattle.input.specs.declared.Source.{Source}
use Rattle.keep.proofs.Laws.{option_none, option_some}
use Rattle.keep.specs.Answers.{Reads, refuses, done}
use Rattle.properties.specs.Answers.{Values, bad_value, good_value, Leads, stops, leads, Nexts, no_next, at_end, a_next}
use Rattle.std.specs.Prelude.{Option, Some, None, Result, Ok, Err}

-- ---- what a call has read leads on

module _ {A B : Type 0} (Q : Answer B Spot Lent Refusal → Type 0) {bundle : Bytes} {s : Source} {b : ℕ} {then : Lent} {r : Result Cursor Refusal} {a : Answer A Spot Lent Refusal} (k : A → Spot → Lent → Answer B Spot Lent Refusal) (h : Reads bundle s b then r a) where
  pub after_refused : {e : Refusal} → r ≡ Err e → ((e' : Refusal) (τ : Lent) → e ≡ e' → Q (refused e' τ)) → Q (after a k)
  unfolding after
  after_refused {e} i f = go (rw i at h)
    where
      go : {a : Answer A Spot Lent Refusal} → Reads bundle s b then (Err e) a → Q (after a k)
      go (refuses {e' = y} {τ = τ} p) = f y τ p

  pub after_done : {d : Cursor} → r ≡ Ok d → ((x : A) → left bundle s d ≤ b → Q (k x (spot s d) then)) → Q (after a k)
  unfolding after
  after_done {d} i f = go (rw i at h)
    where
      go : {a : Answer A Spot Lent Refusal} → Reads bundle s b then (Ok d) a → Q (after a k)
      go (done {x = x} d l) = f x l

module _ {B : Type 0} (Q : Answer B Spot Lent Refusal → Type 0) {bundle : Bytes} {s : Source} {b : ℕ} {then : Lent} {r : Result (PropertyValue × Cursor) Refusal} {a : Answer Value Spot Lent Refusal} (k : Value → Spot → Lent → Answer B Spot Lent Refusal) (h : Values bundle s b then r a) where
  pub after_bad : {e : Refusal} → r ≡ Err e → ((e' : Refusal) (τ : Lent) → e ≡ e' → Q (refused e' τ)) → Q (after a k)
  unfolding after
  after_bad {e} i f = go (rw i at h)
    where
      go : {a : Answer Value Spot Lent Refusal} → Values bundle s b then (Err e) a → Q (after a k)
      go (bad_value {e' = y} {τ = τ} p) = f y τ p

  pub after_good :
      {v : PropertyValue} {d : Cursor}
      → r ≡ Ok (v, d)
      → ((x : Value) → left bundle s d ≤ b → value_shown x (fresh_numbers then.tally) ≡ v → Q (k x (spot s d) then))
      → Q (after a k)
  unfolding after
  after_good {v} {d} i f = go (rw i at h)
    where
      go : {a : Answer Value Spot Lent Refusal} → Values bundle s b then (Ok (v, d)) a → Q (after a k)
      go (good_value x d l w) = f x l w

pub widen_value :
    {bundle : Bytes} {s : Source} {b b' : ℕ} {then : Lent} {r : Result (PropertyValue × Cursor) Refusal} {a : Answer Value Spot Lent Refusal}
    → b ≤ b'
    → Values bundle s b then r a
    → Values bundle s b' then r a
widen_value h (bad_value e) = bad_value e
widen_value h (good_value v d l p) = good_value v d (omega arith) p

pub widen_leads :
    {A X : Type 0} {bundle : Bytes} {s : Source} {b b' : ℕ} {then : Lent} {K : X → Spot → Lent → Answer A Spot Lent Refusal} {r : Result Cursor Refusal} {a : Answer A Spot Lent Refusal}
    → b ≤ b'
    → Leads bundle s b then K r a
    → Leads bundle s b' then K r a
widen_leads h (stops e) = stops e
widen_leads h (leads x d l) = leads x d (omega arith)

module _ {A X : Type 0} (Q : Answer A Spot Lent Refusal → Type 0) {bundle : Bytes} {s : Source} {b : ℕ} {then : Lent} {K : X → Spot → Lent → Answer A Spot Lent Refusal} {r : Result Cursor Refusal} {a : Answer A Spot Lent Refusal} (h : Leads bundle s b then K r a) where
  pub lead_stop : {e : Refusal} → r ≡ Err e → ((e' : Refusal) (τ : Lent) → e ≡ e' → Q (refused e' τ)) → Q a
  lead_stop {e} i f = go (rw i at h)
    where
      go : {a : Answer A Spot Lent Refusal} → Leads bundle s b then K (Err e) a → Q a
      go (stops {e' = y} {τ = τ} p) = f y τ p

  pub lead_on : {d : Cursor} → r ≡ Ok d → ((x : X) → left bundle s d ≤ b → Q (K x (spot s d) then)) → Q a
  lead_on {d} i f = go (rw i at h)
    where
      go : {a : Answer A Spot Lent Refusal} → Leads bundle s b then K (Ok d) a → Q a
      go (leads x d l) = f x l

-- ---- storing a property

module _ {A : Type 0} (Q : Answer A Spot Lent Refusal → Type 0) (bundle : Bytes) (s : Source) where
  pub no_room_property :
      (name : Range) (x : Value) (p : PropertyValue) (c : Cursor) (τ : Lent) (k : Lent → Answer A Spot Lent Refusal) {τ' : Lent}
      → value_shown x (fresh_numbers τ.tally) ≡ p
      → property_kept τ name p ≡ (None, τ')
      → Q (refused (refusal_at 20 4 (reached_at s c)) τ)
      → Q (keep (reading bundle) (property_entry (property (name_in bundle name) x)) (spot s c) τ k)
  unfolding put_entry property_kept
  no_room_property name x p c τ k r e q = option_none Q _ _ k (is_full _ _ _ (ap (property_kept τ name) r ∙ e)) q

  pub room_property :
      (name : Range) (x : Value) (p : PropertyValue) (c : Cursor) (τ : Lent) (k : Lent → Answer A Spot Lent Refusal) {y : Unit} {τ' : Lent}
      → value_shown x (fresh_numbers τ.tally) ≡ p
      → property_kept τ name p ≡ (Some y, τ')
      → Q (k τ')
      → Q (keep (reading bundle) (property_entry (property (name_in bundle name) x)) (spot s c) τ k)
  unfolding put_entry property_kept
  room_property name x p c τ k r e q = option_some Q _ _ k (is_put _ _ _ (ap (property_kept τ name) r ∙ e)) q

-- ---- a reference to a colour

module _ (bundle : Bytes) (t : List ℕ) (name : Range) where
  color_from : (i k : ℕ) {j : ℕ} → place_from bundle (within name bundle) t i k ≡ Some j → color_named (name_in bundle name) (colors_from bundle t i k) ≡ some (color_at t j)
  unfolding place_from colors_from color_named pick
  color_from i zero e = different cc
  color_from i (suc k) {j} e = go (same (within name bundle) (within (range_at t i 1) bundle)) (color_from (i + 1) k) e
    where
      go :
          (b : Bool)
          → (place_from bundle (within name bundle) t (i + 1) k ≡ Some j → color_named (name_in bundle name) (colors_from bundle t (i + 1) k) ≡ some (color_at t j))
          → pick b (Some i) (place_from bundle (within name bundle) t (i + 1) k) ≡ Some j
          → cond b (some (color_at t i)) (color_named (name_in bundle name) (colors_from bundle t (i + 1) k)) ≡ some (color_at t j)
      go true f e = let z : i ≡ j = cc in ap (λ i. some (color_at t i)) z
      go false f e = f e

  no_color_from : (i k : ℕ) → place_from bundle (within name bundle) t i k ≡ None → color_named (name_in bundle name) (colors_from bundle t i k) ≡ none
  unfolding place_from colors_from color_named pick
  no_color_from i zero e = refl
  no_color_from i (suc k) e = go (same (within name bundle) (within (range_at t i 1) bundle)) (no_color_from (i + 1) k) e
    where
      go :
          (b : Bool)
          → (place_from bundle (within name bundle) t (i + 1) k ≡ None → color_named (name_in bundle name) (colors_from bundle t (i + 1) k) ≡ none)
          → pick b (Some i) (place_from bundle (within name bundle) t (i + 1) k) ≡ None
          → cond b (some (color_at t i)) (color_named (name_in bundle name) (colors_from bundle t (i + 1) k)) ≡ none
      go true f e = different cc
      go false f e = f e

  module _ {A : Type 0} (Q : Answer A Spot Lent Refusal → Type 0) (n : ℕ) where
    pub no_reference :
        (f : Answer A Spot Lent Refusal) (k : _ → Answer A Spot Lent Refusal)
        → place_from bundle (within name bundle) t 0 n ≡ None
        → Q f
        → Q (on_option (color_named (name_in bundle name) (colors_from bundle t 0 n)) f k)
    no_reference f k e q = option_none Q _ f k (no_color_from 0 n e) q

    pub reference :
        (f : Answer A Spot Lent Refusal) (k : _ → Answer A Spot Lent Refusal) {i : ℕ} {x : Color}
        → place_from bundle (within name bundle) t 0 n ≡ Some i
        → x ≡ color_at t i
        → Q (k x)
        → Q (on_option (color_named (name_in bundle name) (colors_from bundle t 0 n)) f k)
    reference f k e p q = option_some Q _ f k (color_from 0 n e ∙ ap some (sym p)) q

-- ---- the next of several, or their end

module _ {A X : Type 0} {bundle : Bytes} {s : Source} {bound : ℕ} {K : Spot → Answer A Spot Lent Refusal} {N : X → Spot → Answer A Spot Lent Refusal} {r : Result (Option X × Cursor) Refusal} {a : Answer A Spot Lent Refusal} (Q : Answer A Spot Lent Refusal → Type 0) (h : Nexts bundle s bound K N r a) where
  pub next_none : {e : Refusal} → r ≡ Err e → ((e' : Refusal) (τ : Lent) → e ≡ e' → Q (refused e' τ)) → Q a
  next_none {e} i k = go (rw i at h)
    where
      go : {a : Answer A Spot Lent Refusal} → Nexts bundle s bound K N (Err e) a → Q a
      go (no_next {e' = y} {τ = τ} p) = k y τ p

  pub next_end : {o : Option X} {d : Cursor} → r ≡ Ok (o, d) → o ≡ None → (left bundle s d < bound → Q (K (spot s d))) → Q a
  next_end {d = d} m n k = go (rw (m, n) at h)
    where
      go : {a : Answer A Spot Lent Refusal} → Nexts bundle s bound K N (Ok (None, d)) a → Q a
      go (at_end d p) = k p

  pub next_one : {o : Option X} {x : X} {d : Cursor} → r ≡ Ok (o, d) → o ≡ Some x → (left bundle s d < bound → Q (N x (spot s d))) → Q a
  next_one {x = x} {d} m n k = go (rw (m, n) at h)
    where
      go : {a : Answer A Spot Lent Refusal} → Nexts bundle s bound K N (Ok (Some x, d)) a → Q a
      go (a_next x d p) = k p

-- what is read behind a number, with the number before it
pub after_reads :
    {A B : Type 0} {bundle : Bytes} {s : Source} {b : ℕ} {then : Lent} {r : Result Cursor Refusal} (a : Answer A Spot Lent Refusal) (f : A → B)
    → Reads bundle s b then r a
    → Reads bundle s b then r (after a λ x c τ. read (f x) c τ)
unfolding after
after_reads a f (refuses e) = refuses e
after_reads a f (done d l) = done d l
