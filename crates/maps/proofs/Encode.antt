-- The words of the rows: what the code's reads and stores are on the list of rows.
use Prim.Native.Nat.{ℕ, zero, suc, ◌+◌, ◌*◌, ◌-◌, ◌≤◌, ◌<◌}
use native.Mathlib.Omega.{arith}
use native.Mathlib.Numerals.{add-one}
use native.Mathlib.Nat.{add-zero, zero-add}
use mathlib.Core.Path.{◌≡◌, refl, sym, ◌∙◌, ap, ap₂, subst}
use mathlib.Core.Bool.{cond}
use mathlib.Core.List.{List, [], ◌∷◌, ◌++◌, map, append_assoc}
use lib.Dec.{ltb}
use lib.ListN.{length, take, drop, get_or, set, replicate, length-append, length-replicate, length-set, replicate-append-replicate, take-append-drop, get_or-eq_default}
use lib.Seq.{take_at, drop_at, set_at, get_or_at, take-append-add, drop-append-add, get_or-append-add, drop-append-le, drop-cons, take-suc-set, drop-set-lt, append_snoc, take-set-le, drop-set-add, drop-drop, split_at, length-take-le}
use borrow.Author.Tests.{ltb-true, ltb-false}
use Rattle.std.proofs.lemmas.List.{drop-replicate}
use Rattle.base.specs.Bytes.{Bytes, same}
use Rattle.base.specs.Choice.{by-test}
use Rattle.base.specs.Map.{entry}
use Rattle.base.specs.Table.{padded}
use Rattle.cascade.specs.Clause.{star}
use Rattle.cascade.specs.Numbered.{assign, spelled}
use Rattle.decode.specs.Decode.{places}
use Rattle.walk.specs.Rows.{assigns, numbers_at}
use Rattle.walk.specs.Run.{stop, going, over, copied, assign_at, seek, new_row}
use Rattle.maps.specs.Held.{rows_at, layer_held}
use Rattle.maps.proofs.Book.{Row, row, Book, no_row, words, rows_of, encode, Slim, spell, layer_place}

assign_grows : (name : ℕ → Bytes) (js : List ℕ) (i : ℕ) → length js ≤ length (assign name js i)
unfolding assign
assign_grows name [] i = omega arith
assign_grows name (j ∷ js) i =
    by-test (same (name i) (name j)) (λ p. rw p (omega arith)) (λ p. rw p (omega (arith, assign_grows name js i)))

assigns_grow : (name : ℕ → Bytes) (js ps : List ℕ) → length js ≤ length (assigns name js ps)
assigns_grow name js [] = omega arith
assigns_grow name js (p ∷ ps) = omega (arith, assign_grows name js p, assigns_grow name (assign name js p) ps)

pub rows_append : (xs ys : Book) → rows_of (xs ++ ys) ≡ rows_of xs ++ rows_of ys
unfolding rows_of
rows_append [] ys = refl
rows_append (x ∷ xs) ys = ap (λ r. words x ++ r) (rows_append xs ys) ∙ sym (append_assoc (words x) (rows_of xs) (rows_of ys))

part_length : (js : List ℕ) → length js ≤ 129 → length (js ++ replicate (129 - length js) 0) ≡ 129
part_length js h = omega (arith, length-append js (replicate (129 - length js) 0), length-replicate {A = ℕ} (129 - length js) 0)

pub rows_length : (b : Book) → Slim b → length (rows_of b) ≡ length b * 131
unfolding rows_of Slim
rows_length [] s = refl
rows_length (x ∷ b) s =
    omega (
      arith,
      length-append (words x) (rows_of b),
      part_length x.numbers (omega (arith, s.0)),
      rows_length b s.1,
    )

pub slim_left : (xs ys : Book) → Slim (xs ++ ys) → Slim xs
unfolding Slim
slim_left [] ys s = tt
slim_left (x ∷ xs) ys s = (s.0, slim_left xs ys s.1)

pub slim_right : (xs ys : Book) → Slim (xs ++ ys) → Slim ys
unfolding Slim
slim_right [] ys s = s
slim_right (x ∷ xs) ys s = slim_right xs ys s.1

pub slim_both : (xs ys : Book) → Slim xs → Slim ys → Slim (xs ++ ys)
unfolding Slim
slim_both [] ys s r = r
slim_both (x ∷ xs) ys s r = (s.0, slim_both xs ys s.1 r)

-- what stands behind row `length xs`
abbrev rest : Book → Book → List ℕ
rest xs ys = rows_of ys ++ replicate (4323 - (length xs + suc (length ys)) * 131) 0

encode_split : (xs : Book) (y : Row) (ys : Book) → encode (xs ++ (y ∷ ys)) ≡ rows_of xs ++ (words y ++ rest xs ys)
unfolding encode rows_of
encode_split xs y ys =
    rw (rows_append xs (y ∷ ys), length-append xs (y ∷ ys))
    (append_assoc (rows_of xs) (words y ++ rows_of ys) (replicate (4323 - (length xs + suc (length ys)) * 131) 0)
    ∙ ap (λ r. rows_of xs ++ r) (append_assoc (words y) (rows_of ys) (replicate (4323 - (length xs + suc (length ys)) * 131) 0)))

-- reads and a store within A ++ (words y ++ B)
module _ (A : List ℕ) (y : Row) (B : List ℕ) (o : ℕ) (at : length A ≡ o) (h : length y.numbers ≤ 128) where
  read_head : get_or (A ++ (words y ++ B)) o 0 ≡ y.head
  read_head = get_or_at A y.head (length y.numbers ∷ (y.numbers ++ replicate (129 - length y.numbers) 0) ++ B) 0 o at

  read_count : get_or (A ++ (words y ++ B)) (o + 1) 0 ≡ length y.numbers
  read_count = ap (λ k. get_or (A ++ (words y ++ B)) (k + 1) 0) (sym at) ∙ get_or-append-add A (words y ++ B) 1 0

  read_part : drop (o + 1 + 1) (A ++ (words y ++ B)) ≡ (y.numbers ++ replicate (129 - length y.numbers) 0) ++ B
  read_part = ap (λ k. drop k (A ++ (words y ++ B))) two ∙ drop-append-add A (words y ++ B) 2
    where
      two : o + 1 + 1 ≡ length A + 2
      two = omega arith

  read_numbers : take (get_or (A ++ (words y ++ B)) (o + 1) 0) (take 129 (drop (o + 1 + 1) (A ++ (words y ++ B)))) ≡ y.numbers
  read_numbers =
      rw (
        read_count,
        read_part,
        take_at (y.numbers ++ replicate (129 - length y.numbers) 0) B 129 (part_length y.numbers (omega arith)),
      )
      (take_at y.numbers (replicate (129 - length y.numbers) 0) (length y.numbers) refl)

  read_held : take (get_or (A ++ (words y ++ B)) (o + 1) 0) (drop (o + 2) (A ++ (words y ++ B))) ≡ y.numbers
  read_held =
      rw (read_count, ← at, drop-append-add A (words y ++ B) 2, append_assoc y.numbers (replicate (129 - length y.numbers) 0) B)
      (take_at y.numbers (replicate (129 - length y.numbers) 0 ++ B) (length y.numbers) refl)

  stored_row :
      (ks : List ℕ)
      → length y.numbers ≤ length ks
      → length ks ≤ 128
      → over (A ++ (words y ++ B)) (o + 1) (length ks ∷ ks) ≡ A ++ (words (row y.head ks) ++ B)
  unfolding over
  stored_row ks g l =
      ap₂ (λ a b. a ++ ((length ks ∷ ks) ++ b)) front back
      ∙ append_assoc A (y.head ∷ []) ((length ks ∷ ks) ++ (replicate (129 - length ks) 0 ++ B))
      ∙ ap (λ r. A ++ (y.head ∷ length ks ∷ r)) (sym (append_assoc ks (replicate (129 - length ks) 0) B))
    where
      zeros : ℕ
      zeros = 129 - length y.numbers

      front : take (o + 1) (A ++ (words y ++ B)) ≡ A ++ (y.head ∷ [])
      front = ap (λ k. take (k + 1) (A ++ (words y ++ B))) (sym at) ∙ take-append-add A (words y ++ B) 1

      far : o + 1 + suc (length ks) ≡ length A + (2 + length ks)
      far = omega arith

      more : length ks ≡ length y.numbers + (length ks - length y.numbers)
      more = omega arith

      left : 129 - length y.numbers - (length ks - length y.numbers) ≡ 129 - length ks
      left = omega arith

      behind : drop (length ks) (y.numbers ++ replicate (129 - length y.numbers) 0) ≡ replicate (129 - length ks) 0
      behind =
          ap (λ k. drop k (y.numbers ++ replicate (129 - length y.numbers) 0)) more
          ∙ drop-append-add y.numbers (replicate (129 - length y.numbers) 0) (length ks - length y.numbers)
          ∙ drop-replicate (length ks - length y.numbers) (129 - length y.numbers) 0
          ∙ ap (λ k. replicate k 0) left

      skip : drop (2 + length ks) (words y ++ B) ≡ drop (length ks) ((y.numbers ++ replicate (129 - length y.numbers) 0) ++ B)
      skip = ap (λ k. drop k (words y ++ B)) (two_more (length ks))
        where
          two_more : (n : ℕ) → 2 + n ≡ suc (suc n)
          two_more n = omega arith

      back : drop (o + 1 + suc (length ks)) (A ++ (words y ++ B)) ≡ replicate (129 - length ks) 0 ++ B
      back =
          ap (λ k. drop k (A ++ (words y ++ B))) far
          ∙ drop-append-add A (words y ++ B) (2 + length ks)
          ∙ skip
          ∙ drop-append-le (length ks) (y.numbers ++ replicate (129 - length y.numbers) 0) B
          (omega (arith, part_length y.numbers (omega arith)))
          ∙ ap (λ r. r ++ B) behind

padded_words : (y : Row) → padded 0 131 (y.head ∷ length y.numbers ∷ y.numbers) ≡ words y
padded_words y = ap (λ k. y.head ∷ length y.numbers ∷ (y.numbers ++ replicate k 0)) two_less
  where
    two_less : 131 - suc (suc (length y.numbers)) ≡ 129 - length y.numbers
    two_less = omega arith

-- where row `length xs` begins, by the rows before it
module _ (xs : Book) (y : Row) (ys : Book) (s : Slim (xs ++ (y ∷ ys))) where
  begin : length (rows_of xs) ≡ length xs * 131
  begin = rows_length xs (slim_left xs (y ∷ ys) s)

  fits : length y.numbers ≤ 128
  unfolding Slim
  fits = (slim_right xs (y ∷ ys) s).0

  pub head_at : get_or (encode (xs ++ (y ∷ ys))) (length xs * 131) 0 ≡ y.head
  head_at = rw (encode_split xs y ys) (read_head (rows_of xs) y (rest xs ys) (length xs * 131) begin fits)

  pub numbers_at_lem :
      take (get_or (encode (xs ++ (y ∷ ys))) (length xs * 131 + 1) 0)
      (take 129 (drop (length xs * 131 + 1 + 1) (encode (xs ++ (y ∷ ys))))) ≡ y.numbers
  numbers_at_lem = rw (encode_split xs y ys) (read_numbers (rows_of xs) y (rest xs ys) (length xs * 131) begin fits)

  pub held_at : numbers_at (encode (xs ++ (y ∷ ys))) (length xs) ≡ y.numbers
  held_at = rw (encode_split xs y ys) (read_held (rows_of xs) y (rest xs ys) (length xs * 131) begin fits)

  pub assign_row :
      (name : ℕ → Bytes) (m : ℕ) (ps : List ℕ)
      → assign_at name (encode (xs ++ (y ∷ ys))) m (length xs) ps ≡ cond
      (ltb (length (assigns name y.numbers ps)) 129)
      (going m (encode (xs ++ (row y.head (assigns name y.numbers ps) ∷ ys)))) (stop 24)
  unfolding assign_at
  assign_row name m ps =
      ap
      (λ g. cond (ltb (length g) 129) (going m (over (encode (xs ++ (y ∷ ys))) (length xs * 131 + 1) (length g ∷ g))) (stop 24))
      (ap (λ z. assigns name z ps) numbers_at_lem)
      ∙ by-test (ltb (length (assigns name y.numbers ps)) 129)
      (λ p. rw p (ap (going m) (put (ltb-true (length (assigns name y.numbers ps)) 129 p))))
      (λ p. rw p)
    where
      put :
          length (assigns name y.numbers ps) < 129
          → over (encode (xs ++ (y ∷ ys))) (length xs * 131 + 1)
          (length (assigns name y.numbers ps) ∷ assigns name y.numbers ps) ≡ encode
          (xs ++ (row y.head (assigns name y.numbers ps) ∷ ys))
      put l =
          rw (encode_split xs y ys)
          (stored_row (rows_of xs) y (rest xs ys) (length xs * 131) begin fits (assigns name y.numbers ps)
          (assigns_grow name y.numbers ps) (omega arith)
          ∙ sym (encode_split xs (row y.head (assigns name y.numbers ps)) ys))

snoc_length : (xs : Book) (y : Row) → length (xs ++ (y ∷ [])) ≡ length xs + 1
snoc_length xs y = length-append xs (y ∷ [])

-- finding a layer
pub seek_place :
    (layer : ℕ → Bytes) (l : Bytes) (xs ys : Book)
    → Slim (xs ++ ys)
    → seek layer (encode (xs ++ ys)) l (length xs) (length ys) ≡ length xs + layer_place layer l ys
unfolding seek layer_place
seek_place layer l xs [] s = sym (add-zero (length xs))
seek_place layer l xs (y ∷ ys) s =
    rw (head_at xs y ys s)
    (by-test (same l (layer y.head))
    (λ p. rw p (sym (add-zero (length xs))))
    (λ p.
    let e = append_assoc xs (y ∷ []) ys in
    let r = seek_place layer l (xs ++ (y ∷ [])) ys (subst Slim (sym e) s) in
    rw p
    (ap₂ (λ z i. seek layer (encode z) l i (length ys)) (sym e) (sym (snoc_length xs y))
    ∙ r
    ∙ (omega (arith, snoc_length xs y)))))

-- reading the rows back
pub layers_back :
    (name layer : ℕ → Bytes) (xs ys : Book)
    → Slim (xs ++ ys)
    → map (layer_held name layer (encode (xs ++ ys))) (places (length xs) (length ys)) ≡ spell name layer ys
unfolding places
layers_back name layer xs [] s = refl
layers_back name layer xs (y ∷ ys) s =
    let e = append_assoc xs (y ∷ []) ys in
    let r = layers_back name layer (xs ++ (y ∷ [])) ys (subst Slim (sym e) s) in
    ap₂ ◌∷◌ (ap₂ (λ h js. entry (layer h) (map (spelled name) js)) (head_at xs y ys s) (held_at xs y ys s))
    (ap₂ (λ z i. map (layer_held name layer (encode z)) (places i (length ys))) (sym e) (sym (snoc_length xs y)) ∙ r)

pub rows_back : (xs ys : Book) → Slim (xs ++ ys) → rows_at (encode (xs ++ ys)) (places (length xs) (length ys)) ≡ rows_of ys
unfolding places rows_at rows_of
rows_back xs [] s = refl
rows_back xs (y ∷ ys) s =
    let e = append_assoc xs (y ∷ []) ys in
    let r = rows_back (xs ++ (y ∷ [])) ys (subst Slim (sym e) s) in
    ap₂ ◌++◌ (ap₂ (λ h js. padded 0 131 (h ∷ length js ∷ js)) (head_at xs y ys s) (held_at xs y ys s) ∙ padded_words y)
    (ap₂ (λ z i. rows_at (encode z) (places i (length ys))) (sym e) (sym (snoc_length xs y)) ∙ r)

-- ---- a new row

copied_is :
    (k : ℕ) (t : List ℕ) (a b : ℕ)
    → b + k ≤ length t
    → a + k ≤ b
    → copied t a b k ≡ take b t ++ (take k (drop a t) ++ drop (b + k) t)
unfolding copied
copied_is zero t a b h g = rw (add-zero b) (sym (take-append-drop b t))
copied_is (suc k) t a b h g =
    copied_is k (set t b (get_or t a 0)) (a + 1) (b + 1) (omega (arith, length-set t b (get_or t a 0))) (omega arith)
    ∙ ap₂ (λ x y. x ++ (take k (drop (a + 1) (set t b (get_or t a 0))) ++ y)) front back
    ∙ ap (λ x. (take b t ++ (get_or t a 0 ∷ [])) ++ (x ++ drop (b + suc k) t)) middle
    ∙ append_snoc (take b t) (get_or t a 0) (take k (drop (suc a) t) ++ drop (b + suc k) t)
    ∙ ap (λ x. take b t ++ (take (suc k) x ++ drop (b + suc k) t)) (sym (drop-cons t a 0 (omega arith)))
  where
    front : take (b + 1) (set t b (get_or t a 0)) ≡ take b t ++ (get_or t a 0 ∷ [])
    front = ap (λ n. take n (set t b (get_or t a 0))) (add-one b) ∙ take-suc-set t b (get_or t a 0) (omega arith)

    back : drop (b + 1 + k) (set t b (get_or t a 0)) ≡ drop (b + suc k) t
    back =
        drop-set-lt (b + 1 + k) t b (get_or t a 0) (omega arith)
        ∙ ap (λ n. drop n t) same_place
      where
        same_place : b + 1 + k ≡ b + suc k
        same_place = omega arith

    middle : take k (drop (a + 1) (set t b (get_or t a 0))) ≡ take k (drop (suc a) t)
    middle =
        ap (λ n. take k (drop (a + 1) (set t n (get_or t a 0)))) apart
        ∙ ap (take k) (drop-set-add (a + 1) t (b - (a + 1)) (get_or t a 0))
        ∙ take-set-le k (drop (a + 1) t) (b - (a + 1)) (get_or t a 0) (omega arith)
        ∙ ap (λ n. take k (drop n t)) (add-one a)
      where
        apart : b ≡ a + 1 + (b - (a + 1))
        apart = omega arith

pub slim_each : (b : Book) → Slim b → (j : ℕ) → length (get_or b j no_row).numbers ≤ 128
unfolding Slim
slim_each [] s j = omega arith
slim_each (x ∷ b) s zero = s.0
slim_each (x ∷ b) s (suc j) = slim_each b s.1 j

module _ (b : Book) (s : Slim b) (h : length b ≤ 32) where
  -- the first row that is free
  free : encode b ≡ rows_of b ++ (words no_row ++ rest b [])
  unfolding encode rows_of
  free =
      ap (λ z. rows_of b ++ z)
      (ap (λ k. replicate k 0) size ∙ sym (replicate-append-replicate {A = ℕ} 131 (4323 - (length b + 1) * 131) 0))
    where
      size : 4323 - length b * 131 ≡ 131 + (4323 - (length b + 1) * 131)
      size = omega arith

  named : (y : Row) (n : ℕ) → set (rows_of b ++ (words y ++ rest b [])) (length b * 131) n ≡ encode (b ++ (row n y.numbers ∷ []))
  named y n =
      set_at (rows_of b) y.head
      (length y.numbers ∷ (y.numbers ++ replicate (129 - length y.numbers) 0) ++ rest b []) n
      (length b * 131) (rows_length b s)
      ∙ sym (encode_split b (row n y.numbers) [])

  words_length : (y : Row) → length y.numbers ≤ 128 → length (words y) ≡ 131
  words_length y l = omega (arith, part_length y.numbers (omega arith))

  slim_at : (j : ℕ) → length (get_or b j no_row).numbers ≤ 128
  slim_at = slim_each b s

  row_words_lem : (j : ℕ) → j < length b → take 131 (drop (j * 131) (encode b)) ≡ words (get_or b j no_row)
  row_words_lem j l =
      ap (λ z. take 131 (drop (j * 131) (encode z))) (split_at b j no_row l)
      ∙ (rw (encode_split (take j b) (get_or b j no_row) (drop (suc j) b))
      (ap (take 131) (drop_at (rows_of (take j b)) (words (get_or b j no_row) ++ rest (take j b) (drop (suc j) b)) (j * 131) before)
      ∙ take_at (words (get_or b j no_row)) (rest (take j b) (drop (suc j) b)) 131 (words_length (get_or b j no_row) (slim_at j))))
    where
      before : length (rows_of (take j b)) ≡ j * 131
      before =
          rows_length (take j b) (slim_left (take j b) (drop j b) (subst Slim (sym (take-append-drop j b)) s))
          ∙ ap (λ n. n * 131) (length-take-le j b (omega arith))

  whole : length (encode b) ≡ 4323
  unfolding encode
  whole =
      omega (
        arith,
        length-append (rows_of b) (replicate (4323 - length b * 131) 0),
        rows_length b s,
        length-replicate {A = ℕ} (4323 - length b * 131) 0,
      )

  pub new_row_lem :
      (layer : ℕ → Bytes) (n : ℕ)
      → new_row layer (encode b) (length b) n ≡ encode (b ++ (row n (get_or b (layer_place layer star b) no_row).numbers ∷ []))
  unfolding new_row
  new_row_lem layer n =
      let e : seek layer (encode b) star 0 (length b) ≡ layer_place layer star b =
      seek_place layer star [] b s ∙ zero-add (layer_place layer star b) in
      rw e
      (by-test (ltb (layer_place layer star b) (length b))
      (λ p. rw p (copies (layer_place layer star b) (ltb-true (layer_place layer star b) (length b) p)))
      (λ p. rw p (bare (layer_place layer star b) (ltb-false (layer_place layer star b) (length b) p))))
    where
      bare : (j : ℕ) → length b ≤ j → set (encode b) (length b * 131) n ≡ encode (b ++ (row n (get_or b j no_row).numbers ∷ []))
      bare j l =
          ap (λ z. set z (length b * 131) n) free
          ∙ named no_row n
          ∙ ap (λ x. encode (b ++ (row n x.numbers ∷ []))) (sym (get_or-eq_default b no_row l))

      copies :
          (j : ℕ)
          → j < length b
          → set (copied (encode b) (j * 131) (length b * 131) 131) (length b * 131) n
          ≡ encode (b ++ (row n (get_or b j no_row).numbers ∷ []))
      copies j l =
          ap (λ z. set z (length b * 131) n)
          (copied_is 131 (encode b) (j * 131) (length b * 131) (omega (arith, whole)) (omega arith)
          ∙ ap (λ z. take (length b * 131) (encode b) ++ (z ++ drop (length b * 131 + 131) (encode b))) (row_words_lem j l)
          ∙ ap₂ (λ x z. x ++ (words (get_or b j no_row) ++ z)) front back)
          ∙ named (get_or b j no_row) n
        where
          front : take (length b * 131) (encode b) ≡ rows_of b
          front = rw free (take_at (rows_of b) (words no_row ++ rest b []) (length b * 131) (rows_length b s))

          back : drop (length b * 131 + 131) (encode b) ≡ rest b []
          back =
              rw free
              (sym (drop-drop 131 (length b * 131) (rows_of b ++ (words no_row ++ rest b [])))
              ∙ ap (drop 131) (drop_at (rows_of b) (words no_row ++ rest b []) (length b * 131) (rows_length b s)))
