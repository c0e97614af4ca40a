-- Stores one after another, and a table filled row by row.
use Prim.Native.Nat.{ℕ, zero, suc, ◌+◌, ◌*◌, ◌≤◌, ◌<◌}
use mathlib.Core.Path.{◌≡◌, refl, sym, ap, ◌∙◌}
use mathlib.Core.List.{List, [], ◌∷◌, ◌++◌, map, append-nil}
use native.Mathlib.Nat.{suc-mul}
use native.Mathlib.Numerals.{add-one}
use native.Mathlib.Omega.{arith}
use lib.ListN.{get_or, length, set, take, drop, replicate, length-append, length-take, length-drop, drop_of_length-le}
use lib.Seq.{take-suc, drop-cons}
use Rattle.std.proofs.lemmas.List.{take_all, length-map, map-append}
use Rattle.base.specs.Table.{padded, stored, flat}
use Rattle.base.proofs.Tables.{padded_none, padded_set, padded_entry, stored_append, stored_at}

module _ {A : Type 0} where
  -- the first of what is left behind k
  pub first_left :
      (all : List A) (k : ℕ) {x : A} {r : List A} (d : A)
      → drop k all ≡ x ∷ r
      → (k < length all) × (x ≡ get_or all k d) × (r ≡ drop (k + 1) all)
  first_left all k {x} {r} d e =
      let h : k < length all = omega (arith, length-drop k all, ap length e) in
      let q : x ∷ r ≡ get_or all k d ∷ drop (suc k) all = sym e ∙ drop-cons all k d h in
      (h, ap (λ (l : List A). get_or l 0 d) q, ap (drop 1) q ∙ ap (λ (j : ℕ). drop j all) (sym (add-one k)))

  -- all, and 32 at most, are seen where n of 32 are left and none behind k
  pub all_seen :
      (all : List A) (k n : ℕ)
      → k ≤ length all
      → k + n ≡ 32
      → (0 < n → length (drop k all) ≡ 0)
      → take k all ≡ take 32 all
  all_seen all k zero b e f = let q : k ≡ 32 = omega arith in ap (λ (k : ℕ). take k all) q
  all_seen all k (suc n) b e f =
      let l : length all ≤ k = omega (arith, length-drop k all, f (omega arith)) in
      take_all k all l ∙ sym (take_all 32 all (omega arith))

  -- a table of zeros
  pub nothing_yet : (z : A) (n len : ℕ) {t : List A} → t ≡ replicate n z → n ≡ len → t ≡ padded z len []
  nothing_yet z n len e p = e ∙ ap (λ (k : ℕ). replicate k z) p ∙ sym (padded_none z len)

  -- a list stored, and the rest behind it
  pub put_all :
      (t : List A) (i j n : ℕ) {u w : List A} (xs ys : List A)
      → length xs ≡ n
      → u ≡ stored t i xs
      → j ≡ i + n
      → w ≡ stored u j ys
      → w ≡ stored t i (xs ++ ys)
  put_all t i j n {u} xs ys l e f g =
      g
      ∙ ap (λ (j : ℕ). stored u j ys) (f ∙ ap (λ (m : ℕ). i + m) (sym l))
      ∙ ap (λ (u : List A). stored u (i + length xs) ys) e
      ∙ sym (stored_append t i xs ys)

  -- as many elements as the list has
  pub all_stored : (t xs : List A) → length t ≡ length xs → stored t 0 xs ≡ xs
  all_stored t xs h =
      stored_at [] t 0 xs refl (omega arith)
      ∙ ap (λ (r : List A). xs ++ r) (drop_of_length-le t (omega arith))
      ∙ append-nil xs

  -- what a call stored, by what another gave
  pub stored_as : (t : List A) (at : ℕ) {w r vs : List A} → w ≡ stored t at r → r ≡ vs → w ≡ stored t at vs
  stored_as t at e f = e ∙ ap (λ (vs : List A). stored t at vs) f

module _ {A B : Type 0} (g : B → A) (all : List B) (k : ℕ) {v : A} {x : B} (d : B) (b : k < length all) (e : x ≡ get_or all k d) (w : v ≡ g x) where
  taken_more : map g (take (k + 1) all) ≡ map g (take k all) ++ (v ∷ [])
  taken_more =
      ap (λ (j : ℕ). map g (take j all)) (add-one k)
      ∙ ap (map g) (take-suc all k d b)
      ∙ map-append g (take k all) (get_or all k d ∷ [])
      ∙ ap (λ (y : A). map g (take k all) ++ (y ∷ [])) (sym (w ∙ ap g e))

  length_taken : length (map g (take k all)) ≡ k
  length_taken = length-map (take k all) g ∙ length-take k all ∙ omega arith

  -- one element more
  pub mapped_more : (z : A) (len : ℕ) {t : List A} → t ≡ padded z len (map g (take k all)) → k < len → set t k v ≡ padded z len (map g (take (k + 1) all))
  mapped_more z len q c =
      ap (λ (t : List A). set t k v) q
      ∙ padded_set z len (map g (take k all)) k v length_taken c
      ∙ ap (padded z len) (sym taken_more)

module _ {A B : Type 0} (f : B → List A) (n : ℕ) (h : (x : B) → length (f x) ≡ n) where
  length_rows : (xs : List B) → length (flat (map f xs)) ≡ length xs * n
  length_rows [] = sym (native.Mathlib.Nat.zero-mul n)
  length_rows (x ∷ xs) = length-append (f x) (flat (map f xs)) ∙ omega (arith, h x, length_rows xs, suc-mul (length xs) n)

  -- one row more
  pub filled_more :
      (all : List B) (k : ℕ) {x : B} (d : B) (z : A) (len : ℕ) {t u : List A}
      → k < length all
      → x ≡ get_or all k d
      → t ≡ padded z len (flat (map f (take k all)))
      → k * n + n ≤ len
      → u ≡ stored t (k * n) (f x)
      → u ≡ padded z len (flat (map f (take (k + 1) all)))
  filled_more all k {x} d z len b e q c s =
      let l : length (take k all) ≡ k = length-take k all ∙ omega arith in
      s
      ∙ ap (λ (t : List A). stored t (k * n) (f x)) q
      ∙ padded_entry z len n k (map f (take k all)) (f x) (length_rows (take k all) ∙ ap (λ (m : ℕ). m * n) l) (h x) c
      ∙ ap (λ (rows : List (List A)). padded z len (flat rows)) (sym (taken_more f all k d b e refl))
