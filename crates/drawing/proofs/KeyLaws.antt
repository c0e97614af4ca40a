-- Laws of keys, one for each way through the code, over plain lists and numbers.
use Prim.Native.Nat.{ℕ, zero, suc, ◌+◌, ◌-◌, ◌*◌, ◌≤◌, ◌<◌}
use mathlib.Core.Path.{◌≡◌, refl, sym, ◌∙◌, ap}
use mathlib.Core.Bool.{Bool, true, false, not, ◌&&◌}
use mathlib.Core.List.{List, [], ◌∷◌, ◌++◌, append-nil}
use native.Mathlib.Omega.{arith}
use lib.IntN.{ℤ}
use lib.Ieee.{Float, is_nan}
use lib.ListN.{length, take, get_or, set, length-append}
use lib.Seq.{append_snoc, take-suc-set}
use native.Mathlib.Numerals.{add-one}
use borrow.Author.Tests.{lt-ltb, le-ltb}
use Rattle.base.specs.Bytes.{Bytes, same}
use Rattle.base.specs.Choice.{pick, by-test}
use Rattle.base.specs.Refusal.{refusal}
use Rattle.base.specs.declared.refusal.Refusal.{Refusal}
use Rattle.cascade.specs.Clause.{star}
use Rattle.cascade.specs.Map.{keep}
use Rattle.decode.specs.Decode.{places}
use Rattle.decode.proofs.Places.{places_step, places_end}
use Rattle.std.specs.List.{list_any, range_with_len}
use Rattle.walk.specs.Selectors.{layer_in}
use Rattle.styles.specs.Styles.{styled_rows}
use Rattle.order.specs.declared.Key.{Key}
use Rattle.drawing.specs.Gather.{Gathered, stopped, gathered, z_of, key_of, keys_from, any_nan, push}
use Rattle.std.specs.Prelude.{Option}

-- ---- the rows of the layers that are left

module _ (bundle : Bytes) (selectors t : List ℕ) (m : ℕ) where
  abbrev keeps : ℕ → Bool
  keeps i = not (same star (layer_in bundle selectors (get_or t (i * 131) 0)))

  abbrev rows : ℕ → List ℕ
  rows i = keep keeps (places i (m - i))

  rows_start : rows 0 ≡ styled_rows bundle selectors t m
  rows_start = let e : m - 0 ≡ m = omega arith in ap (λ k. keep keeps (places 0 k)) e

  rows_end : (i : ℕ) → m ≤ i → rows i ≡ []
  unfolding keep
  rows_end i h = ap (keep keeps) (places_end i m h)

  module _ (i : ℕ) (h : i < m) (r : Bool) (q : r ≡ keeps i) where
    rows_skip : r ≡ false → rows i ≡ rows (i + 1)
    unfolding keep
    rows_skip y = ap (keep keeps) (places_step i m h) ∙ rw (← q, y)

    rows_take : r ≡ true → rows i ≡ i ∷ rows (i + 1)
    unfolding keep
    rows_take y = ap (keep keeps) (places_step i m h) ∙ rw (← q, y)

-- ---- a z-index that is NaN

module _ (bundle : Bytes) (selectors properties : List ℕ) (numbers : List Float) (t : List ℕ) (m kind : ℕ) where
  abbrev pub is_nan_at : ℕ → Bool
  is_nan_at i = keeps bundle selectors t m i && is_nan (z_of bundle properties numbers t kind i)

  pub nan_among :
      (a n : ℕ)
      → list_any is_nan_at (range_with_len a n)
      ≡ any_nan bundle properties numbers t kind (keep (keeps bundle selectors t m) (places a n))
  unfolding any_nan keep places pick
  nan_among a zero = refl
  nan_among a (suc n) =
      by-test (keeps bundle selectors t m a)
      (λ e.
      by-test (is_nan (z_of bundle properties numbers t kind a))
      (λ q. rw (e, q))
      (λ q. rw (e, q, nan_among (a + 1) n)))
      (λ e. rw (e, nan_among (a + 1) n))

-- ---- keys behind those so far

module _ (room : ℕ) (ks : List Key) where
  push_more : (x : Key) (xs : List Key) → push room (ks ++ (x ∷ [])) (gathered xs) ≡ push room ks (gathered (x ∷ xs))
  unfolding push
  push_more x xs =
      let e : length (ks ++ (x ∷ [])) + length xs ≡ length ks + suc (length xs) = omega (arith, length-append ks (x ∷ [])) in
      rw (e, append_snoc ks x xs)

  push_full : (x : Key) (xs : List Key) → room ≤ length ks → stopped (refusal 25 0 0 0 0) ≡ push room ks (gathered (x ∷ xs))
  unfolding push pick
  push_full x xs h = rw (lt-ltb room (length ks + suc (length xs)) (omega arith))

  push_none : length ks ≤ room → gathered ks ≡ push room ks (gathered [])
  unfolding push pick
  push_none h =
      let e : length ks + 0 ≡ length ks = omega arith in
      rw (e, le-ltb room (length ks) h) (ap gathered (sym (append-nil ks)))

module _
    (bundle : Bytes) (selectors properties : List ℕ) (numbers : List Float) (for_labels multipolygons : Bool) (place kind id : ℕ)
    (layer : Option ℤ) (t : List ℕ) (m room : ℕ) where
  abbrev key : ℕ → ℕ → Key
  key = key_of bundle properties numbers for_labels multipolygons place kind id layer t

  abbrev keys : ℕ → List ℕ → List Key
  keys = keys_from bundle properties numbers for_labels multipolygons place kind id layer t

  -- layers from i on pushed behind keys, k of which are the entity's
  abbrev pub push_left : List Key → ℕ → ℕ → Gathered
  push_left ks i k = push room ks (gathered (keys k (rows bundle selectors t m i)))

  abbrev pub push_all : List Key → Gathered
  push_all ks = push room ks (gathered (keys 0 (styled_rows bundle selectors t m)))

  pub push_start : (ks : List Key) → push_left ks 0 0 ≡ push_all ks
  push_start ks = ap (λ is. push room ks (gathered (keys 0 is))) (rows_start bundle selectors t m)

  module _ (ks : List Key) (i k : ℕ) (all : Gathered) (g : push_left ks i k ≡ all) where
    pub push_end : m ≤ i → length ks ≤ room → gathered ks ≡ all
    unfolding keys_from
    push_end h l =
        push_none room ks l ∙ sym (ap (λ is. push room ks (gathered (keys k is))) (rows_end bundle selectors t m i h)) ∙ g

    module _ (h : i < m) (r : Bool) (q : r ≡ keeps bundle selectors t m i) where
      pub push_skip : r ≡ false → push_left ks (i + 1) k ≡ all
      push_skip y =
          sym (ap (λ is. push room ks (gathered (keys k is))) (rows_skip bundle selectors t m i h r q y)) ∙ g

      module _ (y : r ≡ true) where
        next : push room ks (gathered (key k i ∷ keys (k + 1) (rows bundle selectors t m (i + 1)))) ≡ all
        unfolding keys_from
        next = sym (ap (λ is. push room ks (gathered (keys k is))) (rows_take bundle selectors t m i h r q y)) ∙ g

        pub push_stop : room ≤ length ks → (x : Refusal) → x ≡ refusal 25 0 0 0 0 → stopped x ≡ all
        push_stop l x u =
            ap stopped u ∙ push_full room ks (key k i) (keys (k + 1) (rows bundle selectors t m (i + 1))) l ∙ next

        push_next : (ks' : List Key) → ks' ≡ ks ++ (key k i ∷ []) → push_left ks' (i + 1) (k + 1) ≡ all
        push_next ks' u =
            ap (λ l. push_left l (i + 1) (k + 1)) u
            ∙ push_more room ks (key k i) (keys (k + 1) (rows bundle selectors t m (i + 1)))
            ∙ next

  -- the same where the first k of t are the entity's
  pub keys_next :
      (t' : List Key) (i k : ℕ) (all : Gathered)
      → push_left (take k t') i k ≡ all
      → i < m
      → (r : Bool)
      → r ≡ keeps bundle selectors t m i
      → r ≡ true
      → k < length t'
      → (x : Key)
      → x ≡ key k i
      → push_left (take (k + 1) (set t' k x)) (i + 1) (k + 1) ≡ all
  keys_next t' i k all g h r q y l x u =
      push_next (take k t') i k all g h r q y (take (k + 1) (set t' k x))
      (rw (add-one k, take-suc-set t' k x l, u))
