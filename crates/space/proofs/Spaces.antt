-- The list of white space is the runs that the code tests.
use Prim.Native.Nat.{ℕ, zero, suc, ◌+◌, ◌-◌, ◌<◌, ◌≤◌}
use native.Mathlib.Omega.{arith}
use mathlib.Core.Path.{◌≡◌, refl, sym, ◌∙◌}
use mathlib.Core.Bool.{true, false, ◌||◌}
use mathlib.Core.List.{List, [], ◌∷◌, ◌++◌}
use lib.Dec.{eqb, ltb}
use borrow.Author.Tests.{le-ltb, ne_eqb, ltb-true, ltb-false, eqb-false}
use Rattle.base.specs.Choice.{pick, by-test}
use Rattle.space.specs.Space.{among, is_white_space, Run, rising, general_runs, all_runs}

-- n numbers from k on
up_from : ℕ → ℕ → List ℕ
up_from k zero = []
up_from k (suc n) = k ∷ up_from (suc k) n

spread : List Run → List ℕ
spread [] = []
spread (r ∷ rs) = up_from r.first (r.behind - r.first) ++ spread rs

-- runs that follow one another, from a number on
data From : ℕ → List Run → Type 0 where
  none : {k : ℕ} → From k []
  next : {k : ℕ} {r : Run} {rs : List Run} → k ≤ r.first → r.first ≤ r.behind → From r.behind rs → From k (r ∷ rs)

among_append : (k : ℕ) (xs ys : List ℕ) → among k (xs ++ ys) ≡ (among k xs || among k ys)
unfolding among
among_append k [] ys = refl
among_append k (x ∷ xs) ys = by-test (eqb k x) (λ e. rw e) (λ e. rw e (among_append k xs ys))

module _ (k : ℕ) where
  up_below : (f n : ℕ) → k < f → among k (up_from f n) ≡ false
  unfolding among up_from
  up_below f zero h = refl
  up_below f (suc n) h = rw (ne_eqb k f (λ e. omega arith)) (up_below (suc f) n (omega arith))

  up_above : (f n : ℕ) → f + n ≤ k → among k (up_from f n) ≡ false
  unfolding among up_from
  up_above f zero h = refl
  up_above f (suc n) h = rw (ne_eqb k f (λ e. omega arith)) (up_above (suc f) n (omega arith))

  up_in : (f n : ℕ) → f ≤ k → k < f + n → among k (up_from f n) ≡ true
  unfolding among up_from
  up_in f zero h g = absurd (omega arith)
  up_in f (suc n) h g =
      by-test (eqb k f)
      (λ e. rw e)
      (λ e. let d = eqb-false k f e in rw e (up_in (suc f) n (later d) (omega arith)))
    where
      later : (k ≡ f → ⊥) → suc f ≤ k
      later d = omega arith

  spread_below : (f : ℕ) (rs : List Run) → From f rs → k < f → among k (spread rs) ≡ false
  unfolding among spread
  spread_below f [] none h = refl
  spread_below f (r ∷ rs) (next p q t) h =
      among_append k (up_from r.first (r.behind - r.first)) (spread rs)
      ∙ rw (up_below r.first (r.behind - r.first) (omega arith), spread_below r.behind rs t (omega arith))

  rising_spread : (f : ℕ) (rs : List Run) → From f rs → rising rs k ≡ among k (spread rs)
  unfolding rising among spread pick
  rising_spread f [] none = refl
  rising_spread f (r ∷ rs) (next p q t) =
      let parts = among_append k (up_from r.first (r.behind - r.first)) (spread rs) in
      by-test (ltb k r.first)
      (λ e.
      let h = ltb-true k r.first e in
      rw e (sym (parts ∙ rw (up_below r.first (r.behind - r.first) h, spread_below r.behind rs t (omega arith)))))
      (λ e.
      let h = ltb-false k r.first e in
      by-test (ltb k r.behind)
      (λ d.
      let g = ltb-true k r.behind d in
      rw (e, d) (sym (parts ∙ rw (up_in r.first (r.behind - r.first) h (omega arith)))))
      (λ d.
      let g = ltb-false k r.behind d in
      rw (e, d) (sym (parts ∙ (rw (up_above r.first (r.behind - r.first) (omega arith)) (sym (rising_spread r.behind rs t)))))))

pub white_space_runs : (k : ℕ) → rising all_runs k ≡ is_white_space k
unfolding is_white_space spread up_from
white_space_runs k =
    rising_spread k 0 all_runs
    (next (omega arith) (omega arith) (next (omega arith) (omega arith) (next (omega arith) (omega arith)
    (next (omega arith) (omega arith) (next (omega arith) (omega arith) (next (omega arith) (omega arith)
    (next (omega arith) (omega arith) (next (omega arith) (omega arith) (next (omega arith) (omega arith)
    (next (omega arith) (omega arith) none))))))))))

-- past U+200A the last runs decide
pub white_space_beyond : (k : ℕ) → 0x200A < k → rising general_runs k ≡ is_white_space k
unfolding rising pick
white_space_beyond k h =
    let p : rising all_runs k ≡ rising general_runs k = simp (
      le-ltb k 0x9 (omega arith),
      le-ltb k 0xE (omega arith),
      le-ltb k 0x20 (omega arith),
      le-ltb k 0x21 (omega arith),
      le-ltb k 0x85 (omega arith),
      le-ltb k 0x86 (omega arith),
      le-ltb k 0xA0 (omega arith),
      le-ltb k 0xA1 (omega arith),
      le-ltb k 0x1680 (omega arith),
      le-ltb k 0x1681 (omega arith),
      le-ltb k 0x2000 (omega arith),
      le-ltb k 0x200B (omega arith),
    ) in
    sym p ∙ white_space_runs k
