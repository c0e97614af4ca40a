-- Laws of layers, one for each way through the code, over plain lists and numbers.
use Prim.Native.Nat.{ℕ, zero, suc, ◌+◌, ◌*◌, ◌-◌, ◌≤◌, ◌<◌, min}
use native.Mathlib.Omega.{arith}
use native.Mathlib.Numerals.{add-one}
use native.Mathlib.Nat.{add-zero}
use mathlib.Core.Path.{◌≡◌, sym, ◌∙◌, ap, ap₂, subst}
use mathlib.Core.Bool.{Bool, true, false, cond}
use mathlib.Core.List.{List, ◌∷◌, ◌++◌, append_assoc}
use lib.ListN.{length, take, drop, get_or, set, length-take, length-drop, take-append-drop, get_or-append}
use lib.Seq.{take-suc, set_at, append_snoc, length-take-le, drop-append-le, drop-drop, paste, paste-zero, length_paste_head, get_or-take, get_or-drop}
use Rattle.std.specs.List.{copy_within}
use Rattle.std.proofs.lemmas.List.Edits.{paste_more}
use borrow.Author.Tests.{lt-ltb, le-ltb, ne_eqb, eq-eqb, eqb-true, eqb-false}
use Rattle.base.specs.Bytes.{Bytes, same, within}
use Rattle.base.specs.declared.Range.{Range}
use Rattle.base.specs.Choice.{pick, by-test}
use lib.Dec.{eqb}
use Rattle.table.specs.Value.{word_at, range_at}
use Rattle.cascade.specs.Clause.{star, default_name}
use Rattle.decode.specs.Decode.{layer_at}
use Rattle.walk.specs.Rows.{assigns}
use Rattle.walk.specs.Selectors.{layer_in}
use Rattle.walk.specs.Run.{Run, stop, going, bind, told, over, copied, assign_at, assign_all, seek, new_row, touch_of, step_of}
use Rattle.std.specs.Prelude.{Result, Ok, Err}

-- ---- names of layers

module _ (bundle : Bytes) (selectors : List ℕ) (s w : ℕ) (e : w ≡ word_at selectors s 5) where
  pub default_layer : (w ≡ 1 → ⊥) → layer_in bundle selectors s ≡ default_name
  unfolding layer_at pick
  default_layer z = rw (← e, ne_eqb w 1 z)

  pub named_layer :
      w ≡ 1
      → (r : Range) (p : Bytes)
      → r ≡ range_at selectors s 6
      → p ≡ within r bundle
      → p ≡ layer_in bundle selectors s
  unfolding layer_at pick
  named_layer z r p f q = rw (← e, eq-eqb w 1 z) (q ∙ ap (λ x. within x bundle) f)

module _ (layer : ℕ → Bytes) (t : List ℕ) (l : Bytes) where
  -- what a search over the layers from i on finds, k of them
  abbrev pub Is : ℕ → Type 0
  Is i = same l (layer (get_or t (i * 131) 0)) ≡ true

  abbrev pub Other : ℕ → Type 0
  Other i = same l (layer (get_or t (i * 131) 0)) ≡ false

  pub seek_all : (i k : ℕ) → ((j : ℕ) → i ≤ j → j < i + k → Other j) → seek layer t l i k ≡ i + k
  unfolding seek
  seek_all i zero h = omega arith
  seek_all i (suc k) h =
      rw (h i (omega arith) (omega arith))
      (seek_all (i + 1) k (λ j a b. h j (omega arith) (omega arith)) ∙ (let e : i + 1 + k ≡ i + suc k = omega arith in e))

  pub seek_first :
      (i k j : ℕ)
      → i ≤ j
      → j < i + k
      → Is j
      → ((h : ℕ) → i ≤ h → h < j → Other h)
      → seek layer t l i k ≡ j
  unfolding seek
  seek_first i zero j a b e h = absurd (omega (arith, a, b))
  seek_first i (suc k) j a b e h =
      by-test (eqb i j)
      (λ q. let p = eqb-true i j q in rw (rw (sym p) at e) p)
      (λ q.
      let p = eqb-false i j q in
      let m : i + 1 ≤ j = omega (arith, a, p) in
      rw (h i (omega arith) (omega (arith, m))) (seek_first (i + 1) k j m (omega (arith, b)) e (λ n c d. h n (omega arith) d)))

-- ---- rows

-- the library's copy, to a place behind the words that are copied
module _ (t : List ℕ) (a b : ℕ) where
  pasted : (k i : ℕ) → a + (i + k) ≤ b → b + (i + k) ≤ length t → paste t b (drop a t) (i + k) ≡ copied (paste t b (drop a t) i) (a + i) (b + i) k
  unfolding copied
  pasted zero i h l = ap (paste t b (drop a t)) (add-zero i)
  pasted (suc k) i h l =
      let x : List ℕ = paste t b (drop a t) i in
      let on : i + suc k ≡ i + 1 + k = omega arith in
      let p : a + (i + 1) ≡ a + i + 1 = omega arith in
      let q : b + (i + 1) ≡ b + i + 1 = omega arith in
      let word : get_or x (a + i) 0 ≡ get_or (drop a t) i 0 =
      get_or-append (take b t ++ take i (drop a t)) (drop (b + i) t) 0 (a + i)
      (omega (arith, length_paste_head t b (drop a t) i (omega arith) (omega (arith, length-drop a t))))
      ∙ get_or-append (take b t) (take i (drop a t)) 0 (a + i) (omega (arith, length-take b t))
      ∙ get_or-take b t (a + i) 0 (omega arith)
      ∙ sym (get_or-drop a t i 0) in
      let one : set x (b + i) (get_or x (a + i) 0) ≡ paste t b (drop a t) (i + 1) =
      ap (set x (b + i)) word ∙ paste_more t b (drop a t) i 0 (omega arith) (omega (arith, length-drop a t)) in
      ap (paste t b (drop a t)) on
      ∙ pasted k (i + 1) (omega arith) (omega arith)
      ∙ ap₂ (λ u v. copied (paste t b (drop a t) (i + 1)) u v k) p q
      ∙ ap (λ y. copied y (a + i + 1) (b + i + 1) k) (sym one)

  pub copied_within : (e k : ℕ) → e ≡ a + k → a + k ≤ b → b + k ≤ length t → copy_within t a e b ≡ copied t a b k
  copied_within e k r h l =
      let z : e - a ≡ 0 + k = omega arith in
      ap (paste t b (drop a t)) z
      ∙ pasted k 0 (omega arith) (omega arith)
      ∙ ap (λ y. copied y (a + 0) (b + 0) k) (sym (paste-zero t b (drop a t)))
      ∙ ap₂ (λ u v. copied t u v k) (add-zero a) (add-zero b)

module _ (layer : ℕ → Bytes) (t : List ℕ) (n s j : ℕ) (e : j ≡ seek layer t star 0 n) where
  pub new_copied : (u : List ℕ) → j < n → u ≡ copied t (j * 131) (n * 131) 131 → set u (n * 131) s ≡ new_row layer t n s
  unfolding new_row
  new_copied u h q = rw (← e, lt-ltb j n h, q)

  pub new_bare : n ≤ j → set t (n * 131) s ≡ new_row layer t n s
  unfolding new_row
  new_bare h = rw (← e, le-ltb j n h)

-- a row's numbers stored, and the count before them
stored :
    (xs ys g : List ℕ) (h r : ℕ)
    → h + 130 ≤ length xs
    → r ≡ length g
    → r < 129
    → ys ≡ g ++ drop r (take 129 (drop (h + 1) xs))
    → set (take (h + 1) xs ++ (ys ++ drop 129 (drop (h + 1) xs))) h r ≡ over xs h (r ∷ g)
unfolding over
stored xs ys g h r fits e l q =
    ap (λ z. set z h r) front
    ∙ set_at (take h xs) (get_or xs h 0) (g ++ drop (h + 1 + r) xs) r h (length-take-le h xs (omega arith))
    ∙ ap (λ k. take h xs ++ (r ∷ (g ++ drop k xs))) last
  where
    last : h + 1 + r ≡ h + suc (length g)
    last = omega arith

    back : ys ++ drop 129 (drop (h + 1) xs) ≡ g ++ drop (h + 1 + r) xs
    back =
        ap (λ z. z ++ drop 129 (drop (h + 1) xs)) q
        ∙ append_assoc g (drop r (take 129 (drop (h + 1) xs))) (drop 129 (drop (h + 1) xs))
        ∙ ap (λ z. g ++ z)
        (sym
        (drop-append-le r (take 129 (drop (h + 1) xs)) (drop 129 (drop (h + 1) xs))
        (omega (arith, length-take 129 (drop (h + 1) xs), length-drop (h + 1) xs)))
        ∙ ap (drop r) (take-append-drop 129 (drop (h + 1) xs))
        ∙ drop-drop r (h + 1) xs)

    front : take (h + 1) xs ++ (ys ++ drop 129 (drop (h + 1) xs)) ≡ take h xs ++ (get_or xs h 0 ∷ (g ++ drop (h + 1 + r) xs))
    front =
        ap₂ ◌++◌ (ap (λ k. take k xs) (add-one h) ∙ take-suc xs h 0 (omega arith)) back
        ∙ append_snoc (take h xs) (get_or xs h 0) (g ++ drop (h + 1 + r) xs)

-- what the call that was lent a row's part of k words means for the table
module _ (name : ℕ → Bytes) (xs ys ps : List ℕ) (m i r : ℕ) (near : i ≤ 32) (long : length xs ≡ 4323) where
  abbrev row : ℕ → List ℕ
  row k = take k (drop (i * 131 + 1 + 1) xs)

  abbrev new : ℕ → List ℕ
  new k = assigns name (take (get_or xs (i * 131 + 1) 0) (row k)) ps

  abbrev Done : ℕ → Type 0
  Done k =
      r ≡ min (length (row k)) (length (new k))
      → (r < length (row k) → ys ≡ new k ++ drop r (row k))
      →
      (r < 129 → going m
      (set (take (i * 131 + 1 + 1) xs ++ (ys ++ drop k (drop (i * 131 + 1 + 1) xs))) (i * 131 + 1) r) ≡
      assign_at name xs m i ps) × (129 ≤ r → stop 24 ≡ assign_at name xs m i ps)

  done : Done 129
  unfolding assign_at
  done used kept = (fits, full)
    where
      len : length (row 129) ≡ 129
      len = omega (arith, length-take 129 (drop (i * 131 + 1 + 1) xs), length-drop (i * 131 + 1 + 1) xs)

      fits :
          r < 129
          → going m (set (take (i * 131 + 1 + 1) xs ++ (ys ++ drop 129 (drop (i * 131 + 1 + 1) xs))) (i * 131 + 1) r) ≡ assign_at name xs m i ps
      fits l =
          let e : r ≡ length (new 129) = omega (arith, used, len) in
          rw (lt-ltb (length (new 129)) 129 (omega arith), ← e)
          (ap (going m) (stored xs ys (new 129) (i * 131 + 1) r (omega arith) e l (kept (omega (arith, len)))))

      full : 129 ≤ r → stop 24 ≡ assign_at name xs m i ps
      full l = rw (le-ltb (length (new 129)) 129 (omega (arith, used, len)))

  pub assign_done : (k : ℕ) → k ≡ 129 → Done k
  assign_done k e = subst Done (sym e) done

-- ---- runs

pub told_stop : (r : Result (Unit {0}) ℕ) (n : ℕ) (t : List ℕ) (x : Run) (k : ℕ) → told r n t ≡ x → r ≡ Err k → x ≡ stop k
told_stop r n t x k e m = sym e ∙ ap (λ q. told q n t) m

pub told_going : (r : Result (Unit {0}) ℕ) (n : ℕ) (t : List ℕ) (x : Run) (u : Unit {0}) → told r n t ≡ x → r ≡ Ok u → x ≡ going n t
told_going r n t x u e m = sym e ∙ ap (λ q. told q n t) m

pub bind_stop : (x : Run) (f : ℕ → List ℕ → Run) (k : ℕ) → x ≡ stop k → bind x f ≡ stop k
unfolding bind
bind_stop x f k e = ap (λ y. bind y f) e

pub bind_going : (x : Run) (f : ℕ → List ℕ → Run) (n : ℕ) (t : List ℕ) → x ≡ going n t → bind x f ≡ f n t
unfolding bind
bind_going x f n t e = ap (λ y. bind y f) e

pub one_less : (i n : ℕ) → i < n → n - i ≡ suc (n - (i + 1))
one_less i n h = omega arith

pub none_left : (i n : ℕ) → n ≤ i → n - i ≡ 0
none_left i n h = omega arith

module _ (name : ℕ → Bytes) (t : List ℕ) (m i : ℕ) (ps : List ℕ) where
  pub all_end : m ≤ i → assign_all name t m i (m - i) ps ≡ going m t
  unfolding assign_all
  all_end h = ap (λ k. assign_all name t m i k ps) (none_left i m h)

  module _ (h : i < m) (r : Result (Unit {0}) ℕ) (n : ℕ) (t' : List ℕ) (e : told r n t' ≡ assign_at name t m i ps) where
    pub all_stop : (k : ℕ) → r ≡ Err k → assign_all name t m i (m - i) ps ≡ stop k
    unfolding assign_all
    all_stop k q = ap (λ k. assign_all name t m i k ps) (one_less i m h) ∙ bind_stop _ _ k (told_stop r n t' _ k e q)

    pub all_next : (u : Unit {0}) → r ≡ Ok u → assign_all name t m i (m - i) ps ≡ assign_all name t' m (i + 1) (m - (i + 1)) ps
    unfolding assign_all
    all_next u q = ap (λ k. assign_all name t m i k ps) (one_less i m h) ∙ bind_going _ _ n t' (told_going r n t' _ u e q)

-- ---- one selector

module _ (name layer : ℕ → Bytes) (t : List ℕ) (m j s : ℕ) (ps : List ℕ) (b : Bool) (e : b ≡ same star (layer s)) (x : Run) where
  pub touch_all : b ≡ true → x ≡ assign_all name t m 0 m ps → x ≡ touch_of name layer t m j s ps
  unfolding touch_of
  touch_all y q = rw (← e, y) q

  pub touch_one : b ≡ false → x ≡ assign_at name t m j ps → x ≡ touch_of name layer t m j s ps
  unfolding touch_of
  touch_one y q = rw (← e, y) q

module _ (name layer : ℕ → Bytes) (t : List ℕ) (n j s : ℕ) (ps : List ℕ) (e : j ≡ seek layer t (layer s) 0 n) (x : Run) where
  pub step_found : j < n → x ≡ touch_of name layer t n j s ps → x ≡ step_of name layer t n s ps
  unfolding step_of
  step_found h q = rw (← e, lt-ltb j n h) q

  pub step_made :
      n ≤ j
      → n < 32
      → (u : List ℕ)
      → u ≡ new_row layer t n s
      → x ≡ touch_of name layer u (n + 1) n s ps
      → x ≡ step_of name layer t n s ps
  unfolding step_of
  step_made h l u w q = rw (← e, le-ltb j n h, lt-ltb n 32 l, ← w) q

  pub step_full : n ≤ j → 32 ≤ n → x ≡ stop 23 → x ≡ step_of name layer t n s ps
  unfolding step_of
  step_full h l q = rw (← e, le-ltb j n h, le-ltb n 32 l) q
