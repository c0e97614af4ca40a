-- Laws of rows: the place of a name as the search finds it, an assignment as one store, and the assignments of a range, in order.
use Prim.Native.Nat.{ℕ, suc, ◌+◌, ◌-◌, ◌≤◌, ◌<◌, max, min}
use native.Mathlib.Omega.{arith}
use mathlib.Core.Path.{◌≡◌, refl, sym, ◌∙◌, ap, ap₂, subst}
use mathlib.Core.List.{List, [], ◌∷◌, ◌++◌}
use lib.ListN.{length, take, drop, get_or, set, length-take, length-drop, length-append, take-append-drop}
use lib.Seq.{drop-append_seam, split_at, take_at, drop_at, drop-drop}
use Rattle.base.specs.Bytes.{Bytes, same}
use Rattle.base.specs.Choice.{by-test}
use Rattle.cascade.specs.Numbered.{assign}
use Rattle.decode.specs.Decode.{places}
use Rattle.decode.proofs.Places.{places_step, places_end}
use Rattle.walk.specs.Rows.{below, place_of, assigns}
use Rattle.std.specs.Prelude.{Option, Some, None, ltb, unwrap_or}
use Rattle.std.specs.List.{position_or_len}
use Rattle.base.proofs.Options.{none_some}
use borrow.Author.Tests.{lt-ltb, le-ltb, ltb-true, ltb-false}

-- the search finds the place, and no place where that is the row's length
pub place_is : (name : ℕ → Bytes) (k : Bytes) (js : List ℕ) → position_or_len (λ j. same k (name j)) js ≡ place_of name js k
unfolding place_of
place_is name k [] = refl
place_is name k (j ∷ js) = by-test (same k (name j)) (λ e. rw e) (λ e. rw (e, place_is name k js) (omega arith))

pub below_found : (n k i : ℕ) → i ≡ k → i < n → Some i ≡ below n k
unfolding below
below_found n k i e h = rw (← e, lt-ltb i n h)

pub below_none : (n k : ℕ) → n ≤ k → None ≡ below n k
unfolding below
below_none n k h = rw (le-ltb k n h)

-- what is found is the place, and among the first n
pub below_some : (n k i : ℕ) (r : Option ℕ) → r ≡ below n k → r ≡ Some i → (i ≡ k) × (i < n)
unfolding below
below_some n k i r p q =
    by-test (ltb k n)
    (λ t. let g : below n k ≡ Some k = rw t refl in
    let e : Some k ≡ Some i = sym (p ∙ g) ∙ q in
    let f : k ≡ i = cc in
    (sym f, omega (arith, ltb-true k n t)))
    (λ t. let e : below n k ≡ None = rw t refl in none_some (sym (p ∙ e) ∙ q))

pub below_out : (n k : ℕ) (r : Option ℕ) → r ≡ below n k → r ≡ None → n ≤ k
unfolding below
below_out n k r p q =
    by-test (ltb k n)
    (λ t. let e : below n k ≡ Some k = rw t refl in none_some (sym q ∙ p ∙ e))
    (λ t. ltb-false k n t)

place_or : (n count k at : ℕ) (r : Option ℕ) → n ≡ count → k ≤ n → r ≡ below n k → at ≡ unwrap_or r count → at ≡ k
unfolding below
place_or n count k at r e h p q =
    by-test (ltb k n)
    (λ t. q ∙ ap (λ (o : Option ℕ). unwrap_or o count) p ∙ rw t refl)
    (λ t. q ∙ ap (λ (o : Option ℕ). unwrap_or o count) p ∙ rw t (omega (arith, ltb-false k n t)))

-- ---- an assignment is one store

module _ (name : ℕ → Bytes) (p : ℕ) where
  pub place_le : (js : List ℕ) → place_of name js (name p) ≤ length js
  unfolding place_of
  place_le [] = omega arith
  place_le (j ∷ js) = by-test (same (name p) (name j)) (λ e. rw e (omega arith)) (λ e. rw e (omega (arith, place_le js)))

  pub length_assign : (js : List ℕ) → length (assign name js p) ≡ max (length js) (place_of name js (name p) + 1)
  unfolding place_of assign
  length_assign [] = refl
  length_assign (j ∷ js) = by-test (same (name p) (name j)) (λ e. rw e (omega arith)) (λ e. rw e (omega (arith, length_assign js)))

  store :
      (js : List ℕ) (x : ℕ) (rest : List ℕ)
      → set (js ++ (x ∷ rest)) (place_of name js (name p)) p ≡ assign name js p ++ drop (length (assign name js p)) (js ++ (x ∷ rest))
  unfolding place_of assign
  store [] x rest = refl
  store (j ∷ js) x rest = by-test (same (name p) (name j)) (λ e. rw (e, drop-append_seam js (x ∷ rest))) (λ e. rw (e, store js x rest))

  -- over a table whose first `count` entries are in use
  pub store_row :
      (row : List ℕ) (count : ℕ)
      → count < length row
      → set row (place_of name (take count row) (name p)) p ≡ assign name (take count row) p ++ drop
      (length (assign name (take count row) p)) row
  store_row row count h =
      subst
      (λ l.
      set l (place_of name (take count row) (name p)) p ≡ assign name (take count row) p ++ drop
      (length (assign name (take count row) p)) l) (sym (split_at row count 0 h))
      (store (take count row) (get_or row count 0) (drop (suc count) row))

  -- as the code finds the place, by a name k
  module _ (row : List ℕ) (count at : ℕ) (h : count < length row) (k : Bytes) (named : k ≡ name p) (r : Option ℕ)
      (seen : r ≡ below (length (take count row)) (place_of name (take count row) k)) (found : at ≡ unwrap_or r count) where
    here : at ≡ place_of name (take count row) (name p)
    here =
        place_or (length (take count row)) count (place_of name (take count row) (name p)) at r
        (omega (arith, length-take count row))
        (place_le (take count row))
        (seen ∙ ap (λ x. below (length (take count row)) (place_of name (take count row) x)) named)
        found

    pub place_within : at ≤ count
    place_within = omega (arith, here, place_le (take count row), length-take count row)

    pub assigned_at :
        (w : ℕ)
        → w ≡ max count (at + 1)
        → (w ≡ length (assign name (take count row) p)) × (set row at p ≡ assign name (take count row) p ++ drop w row)
    assigned_at w e = (
      len,
      ap (λ i. set row i p) here
          ∙ store_row row count h
          ∙ ap (λ n. assign name (take count row) p ++ drop n row) (sym len),
    )
      where
        len : w ≡ length (assign name (take count row) p)
        len = omega (arith, here, length_assign (take count row), length-take count row)

-- ---- a rule's properties, in order

module _ (name : ℕ → Bytes) where
  -- rows only grow
  pub assigns_grow : (js ps : List ℕ) → length js ≤ length (assigns name js ps)
  assigns_grow js [] = omega arith
  assigns_grow js (p ∷ ps) = omega (arith, assigns_grow (assign name js p) ps, length_assign name p js)

-- where the loop over a rule's properties stands: n entries in use, p the next property
pub record Filling (name : ℕ → Bytes) (row₀ : List ℕ) (count from to : ℕ) (row : List ℕ) (n p : ℕ) : Type 0 where
  pub in_row : n < length row
  pub same_length_lem : length row ≡ length row₀
  pub tail : drop n row ≡ drop n row₀
  pub rest : assigns name (take n row) (places p (to - p)) ≡ assigns name (take count row₀) (places from (to - from))

module _ (name : ℕ → Bytes) (row₀ : List ℕ) (count from to : ℕ) where
  -- a row with no entry free
  pub filled_before :
      length row₀ ≤ count
      → length row₀ ≡ min (length row₀) (length (assigns name (take count row₀) (places from (to - from))))
  filled_before h = omega (arith, assigns_grow name (take count row₀) (places from (to - from)), length-take count row₀)

  module _ (row : List ℕ) (n p : ℕ) (f : Filling name row₀ count from to row n p) where
    after :
        p < to
        → assigns name (assign name (take n row) p) (places (p + 1) (to - (p + 1))) ≡ assigns name (take count row₀)
        (places from (to - from))
    after h = ap (assigns name (take n row)) (sym (places_step p to h)) ∙ f.rest

    pub filled_length :
        (row' : List ℕ) (r : ℕ)
        → r ≡ length (assign name (take n row) p)
        → row' ≡ assign name (take n row) p ++ drop r row
        → (length row' ≡ length row) × (r ≤ length row)
    filled_length row' r e q = (
      omega (arith, ap length q, length-append (assign name (take n row) p) (drop r row), length-drop r row, within),
      within,
    )
      where
        within : r ≤ length row
        within = omega (arith, f.in_row, length_assign name p (take n row), place_le name p (take n row), length-take n row)

    -- the last assignment left no entry free
    pub filling_full :
        (r : ℕ)
        → p < to
        → r ≡ length (assign name (take n row) p)
        → r ≡ length row₀
        → r ≡ min (length row₀) (length (assigns name (take count row₀) (places from (to - from))))
    filling_full r h e full =
        omega
        (arith, assigns_grow name (assign name (take n row) p) (places (p + 1) (to - (p + 1))), ap length (after h))

    pub filling_step :
        (row' : List ℕ) (r : ℕ)
        → p < to
        → r ≡ length (assign name (take n row) p)
        → row' ≡ assign name (take n row) p ++ drop r row
        → length row' ≡ length row
        → r < length row'
        → Filling name row₀ count from to row' r (p + 1)
    filling_step row' r h e q l i =
        record
        { in_row = i; same_length_lem = l ∙ f.same_length_lem; tail = back; rest = ap (λ x. assigns name x (places (p + 1) (to - (p + 1)))) front ∙ after h }
      where
        front : take r row' ≡ assign name (take n row) p
        front = rw (q, take_at (assign name (take n row) p) (drop r row) r (sym e))

        more : r ≡ n + (r - n)
        more = omega (arith, f.in_row, length_assign name p (take n row), length-take n row)

        back : drop r row' ≡ drop r row₀
        back =
            ap (drop r) q
            ∙ drop_at (assign name (take n row) p) (drop r row) r (sym e)
            ∙ ap (λ k. drop k row) more
            ∙ sym (drop-drop (r - n) n row)
            ∙ ap (drop (r - n)) f.tail
            ∙ drop-drop (r - n) n row₀
            ∙ ap (λ k. drop k row₀) (sym more)

    pub filling_used : to ≤ p → n ≡ min (length row₀) (length (assigns name (take count row₀) (places from (to - from))))
    filling_used h =
        omega (
          arith,
          f.in_row,
          f.same_length_lem,
          length-take n row,
          ap length (ap (assigns name (take n row)) (sym (places_end p to h)) ∙ f.rest),
        )

    pub filling_kept : to ≤ p → row ≡ assigns name (take count row₀) (places from (to - from)) ++ drop n row₀
    filling_kept h =
        sym (take-append-drop n row)
        ∙ ap₂ ◌++◌ (ap (assigns name (take n row)) (sym (places_end p to h)) ∙ f.rest) f.tail
