-- Laws of the list, one for each way through the code: places counted, entries written, and numbers sorted by their keys.
use Prim.Native.Nat.{ℕ, zero, suc, ◌+◌, ◌-◌, ◌*◌, ◌≤◌, ◌<◌}
use mathlib.Core.Path.{◌≡◌, refl, sym, ◌∙◌, ap, ap₂}
use mathlib.Core.Bool.{Bool}
use mathlib.Core.List.{List, [], ◌∷◌, ◌++◌, map, map-map, map-append, append-nil}
use native.Mathlib.Omega.{arith}
use native.Mathlib.Numerals.{add-one}
use lib.ListN.{length, take, drop, get_or, set, length-append, drop_of_length-le, length-drop}
use lib.Seq.{take-suc, drop-cons, set_at, append_snoc, length-take-le, take_at, drop_at, take_all}
use Rattle.base.specs.Choice.{by-test}
use Rattle.base.specs.Table.{padded, flat, stored}
use Rattle.base.proofs.Tables.{padded_entry}
use Rattle.cascade.specs.Sort.{place, sort}
use Rattle.cascade.proofs.SortLaws.{sort_map}
use Rattle.decode.specs.Decode.{places}
use Rattle.decode.proofs.Places.{length_places, places_on}
use Rattle.order.specs.declared.Key.{Key}
use Rattle.order.specs.Keys.{zero_key, key_at, key_le, number_le}
use Rattle.drawing.specs.Lists.{entry_words, entry_at, entries_of}

-- ---- places

-- numbers counted, i of them so far
pub count_more :
    (t : List ℕ) (from i : ℕ)
    → i < length t
    → set (places from i ++ drop i t) i (from + i) ≡ places from (i + 1) ++ drop (i + 1) t
count_more t from i h =
    let e : i + 1 ≡ suc i = omega arith in
    ap (λ r. set (places from i ++ r) i (from + i)) (drop-cons t i 0 h)
    ∙ set_at (places from i) (get_or t i 0) (drop (suc i) t) (from + i) i (length_places from i)
    ∙ sym (append_snoc (places from i) (from + i) (drop (suc i) t))
    ∙ ap (λ l. l ++ drop (suc i) t) (sym (places_on from i))
    ∙ ap (λ k. places from k ++ drop k t) (sym e)

-- ---- entries written, those of the first i numbers so far

module _ (keys : List Key) (order : List ℕ) (len : ℕ) where
  abbrev pub written : ℕ → List ℕ
  written i = padded 0 len (flat (map (entry_at keys) (take i order)))

  length_entries : (is : List ℕ) → length (flat (map (entry_at keys) is)) ≡ length is * 3
  length_entries [] = refl
  length_entries (i ∷ is) = omega (arith, length_entries is)

  pub write_more :
      (i : ℕ) (k : Key)
      → i < length order
      → i * 3 + 3 ≤ len
      → k ≡ key_at keys (get_or order i 0)
      → (u : List ℕ)
      → u ≡ written i
      → stored u (i * 3) (entry_words k) ≡ written (i + 1)
  write_more i k h w p u q =
      let n : length (flat (map (entry_at keys) (take i order))) ≡ i * 3 =
      length_entries (take i order) ∙ ap (λ n. n * 3) (length-take-le i order (omega arith)) in
      ap (λ u. stored u (i * 3) (entry_words k)) q
      ∙ padded_entry 0 len 3 i (map (entry_at keys) (take i order)) (entry_words k) n refl w
      ∙ ap (λ es. padded 0 len (flat es))
      (ap (λ l. map (entry_at keys) (take i order) ++ (l ∷ [])) (ap entry_words p)
      ∙ sym
      (ap (map (entry_at keys)) (ap (λ n. take n order) (add-one i) ∙ take-suc order i 0 h)
      ∙ map-append (entry_at keys) (take i order) (get_or order i 0 ∷ [])))

-- ---- numbers sorted by their keys

length_place : {A : Type 0} (le : A → A → Bool) (x : A) (ys : List A) → length (place le x ys) ≡ suc (length ys)
unfolding place
length_place le x [] = refl
length_place le x (y ∷ ys) = by-test (le x y) (λ p. rw p) (λ p. rw p (ap suc (length_place le x ys)))

pub length_sort : {A : Type 0} (le : A → A → Bool) (xs : List A) → length (sort le xs) ≡ length xs
unfolding sort
length_sort le [] = refl
length_sort le (x ∷ xs) = length_place le x (sort le xs) ∙ ap suc (length_sort le xs)

-- two counts, each into its part: ys and zs come back from the calls
pub counted :
    (t ys zs : List ℕ) (ways : ℕ)
    → ways ≤ length t
    → ys ≡ places ways (length (take (length t - ways) t))
    → zs
    ≡ places 0
    (length
    (take (length (ys ++ drop (length t - ways) t) - (length t - ways))
    (drop (length t - ways) (ys ++ drop (length t - ways) t))))
    → take (length t - ways) (ys ++ drop (length t - ways) t)
    ++ (zs
    ++ drop (length (ys ++ drop (length t - ways) t) - (length t - ways)) (drop (length t - ways) (ys ++ drop (length t - ways) t)))
    ≡ places ways (length t - ways) ++ places 0 ways
counted t ys zs ways h e f =
    let k = length t - ways in
    let y : ys ≡ places ways k = e ∙ ap (places ways) (length-take-le k t (omega arith)) in
    let l : length ys ≡ k = ap length y ∙ length_places ways k in
    let b : drop k (ys ++ drop k t) ≡ drop k t = drop_at ys (drop k t) k l in
    let z : length (drop k t) ≡ ways = length-drop k t ∙ omega arith in
    let n : length (ys ++ drop k t) - k ≡ length (drop k t) = omega (arith, length-append ys (drop k t)) in
    let q : length (drop k t) ≤ length (drop k t) = omega arith in
    let w : zs ≡ places 0 ways = f ∙ ap (places 0) (rw (b, n, take_all (length (drop k t)) (drop k t) q) z) in
    rw (b, n, drop_of_length-le (drop k t) q, take_at ys (drop k t) k l, y, w)
    (ap (λ l. places ways k ++ l) (append-nil (places 0 ways)))

-- the keys of consecutive numbers
keys_places : (keys : List Key) (a k : ℕ) → a + k ≤ length keys → map (key_at keys) (places a k) ≡ take k (drop a keys)
unfolding places
keys_places keys a zero h = refl
keys_places keys a (suc k) h =
    let g : a < length keys = omega arith in
    let e : a + 1 ≡ suc a = omega arith in
    ap (λ l. key_at keys a ∷ l) (keys_places keys (a + 1) k (omega arith) ∙ ap (λ i. take k (drop i keys)) e)
    ∙ sym (ap (take (suc k)) (drop-cons keys a zero_key g))

module _ (keys : List Key) (ways : ℕ) (h : ways ≤ length keys) where
  -- the numbers behind the first `ways`, then those
  abbrev pub turned : List ℕ
  turned = places ways (length keys - ways) ++ places 0 ways

  pub length_turned : length turned ≡ length keys
  length_turned =
      length-append (places ways (length keys - ways)) (places 0 ways)
      ∙ omega (arith, length_places ways (length keys - ways), length_places 0 ways)

  keys_turned : map (key_at keys) turned ≡ drop ways keys ++ take ways keys
  keys_turned =
      map-append (key_at keys) (places ways (length keys - ways)) (places 0 ways)
      ∙ ap₂ ◌++◌
      (keys_places keys ways (length keys - ways) (omega arith)
      ∙ take_all (length keys - ways) (drop ways keys) (rw (length-drop ways keys) (omega arith)))
      (keys_places keys 0 ways (omega arith))

  -- q: the numbers before the sort, r: after it
  pub list_written :
      (q r : List ℕ) (len : ℕ)
      → take (length keys) q ≡ turned
      → r ≡ sort (number_le keys) (take (length keys) q) ++ drop (length keys) q
      → padded 0 len (flat (map (entry_at keys) (take (length keys) r)))
      ≡ padded 0 len (entries_of (sort key_le (drop ways keys ++ take ways keys)))
  list_written q r len a d =
      let s : take (length keys) r ≡ sort (number_le keys) turned =
      ap (take (length keys)) (d ∙ ap (λ l. sort (number_le keys) l ++ drop (length keys) q) a)
      ∙ take_at (sort (number_le keys) turned) (drop (length keys) q) (length keys) (length_sort (number_le keys) turned ∙ length_turned) in
      ap (λ l. padded 0 len (flat (map (entry_at keys) l))) s
      ∙ ap (λ l. padded 0 len (flat l))
      (sym (map-map entry_words (key_at keys) (sort (number_le keys) turned))
      ∙ ap (map entry_words) (sort_map (key_at keys) key_le turned ∙ ap (sort key_le) keys_turned))
