-- Runs of pairs: one step of the walk, the ranges that are read, and reading as the inverse of writing.
use Prim.Native.Nat.{ℕ, zero, suc, ◌+◌, ◌-◌, ◌<◌, ◌≤◌}
use native.Mathlib.Omega.{arith}
use mathlib.Core.Path.{◌≡◌, refl, sym, ◌∙◌, ap, ap₂}
use mathlib.Core.Bool.{Bool, ◌&&◌}
use mathlib.Core.List.{List, [], ◌∷◌, ◌++◌, map, append_assoc}
use lib.Dec.{leb}
use lib.ListN.{length, take, drop, length-append, length-drop, take-append-drop}
use lib.Seq.{drop-drop, take-append_seam, drop-append_seam}
use borrow.Author.Tests.{le-leb, leb-true}
use Rattle.base.specs.Bytes.{Bytes, AllBytes, within}
use Rattle.base.specs.Map.{Entry, Map, entry}
use Rattle.base.specs.Choice.{pick, by-test}
use Rattle.base.specs.declared.Range.{Range}
use Rattle.utf8.specs.Utf8.{is_utf8}
use Rattle.group.specs.Number.{number_at, group_of}
use Rattle.group.specs.Pair.{Ranges, range, sized_of, part_at, ranges, pair_at, pairs_at, skip_of, nth_of, named, entries_at, all_utf8, sized_bytes, pair_bytes, map_bytes}
use Rattle.group.proofs.Numbers.{number_read_at, number_written_at, number_within, group_length}
use Rattle.std.specs.Prelude.{Some, None}
use Rattle.std.specs.List.{list_all, slice_get}
use Rattle.base.specs.Option.{on_option, on_option2}
use Rattle.base.proofs.Options.{by_option, by_option2, none_some, some2_first, some2_second}

-- what a loop that counts up has left
pub less_one : (n k : ℕ) → n - (k + 1) ≡ n - k - 1
less_one n k = omega arith

-- a run, by its first pair
run_step : (n : ℕ) (s : Bytes) (at : ℕ) → 0 < n → pairs_at n s at ≡ on_option2 (pair_at s at) [] (λ a b. ranges a b ∷ pairs_at (n - 1) s b.to)
unfolding pairs_at
run_step zero s at h = absurd (omega arith)
run_step (suc n) s at h = let p : n ≡ suc n - 1 = omega arith in rw (sym p)

module _ (n : ℕ) (s : Bytes) (at : ℕ) where
  pub run_end : n ≤ 0 → pairs_at n s at ≡ []
  unfolding pairs_at
  run_end h = let e : n ≡ 0 = omega arith in rw e

  pub run_broken : 0 < n → pair_at s at ≡ None → pairs_at n s at ≡ []
  unfolding on_option
  run_broken h e = run_step n s at h ∙ (rw e)

  pub run_two : (a b : Range) → 0 < n → pair_at s at ≡ Some (a, b) → pairs_at n s at ≡ ranges a b ∷ pairs_at (n - 1) s b.to
  unfolding on_option
  run_two a b h e = run_step n s at h ∙ (rw e)

pub run_length : (n : ℕ) (s : Bytes) (at : ℕ) → length (pairs_at n s at) ≤ n
unfolding pairs_at on_option
run_length zero s at = omega arith
run_length (suc n) s at =
    by_option2 (pair_at s at)
    (λ q. rw q (omega arith))
    (λ a b q. rw q (let h = run_length n s b.to in omega arith))

-- whether the two parts of a pair are UTF-8
abbrev pub pair_utf8 : Bytes → Ranges → Bool
pair_utf8 s p = is_utf8 (within p.0 s) && is_utf8 (within p.1 s)

pub all_pairs_utf8 : (s : Bytes) (ps : List Ranges) → list_all (pair_utf8 s) ps ≡ all_utf8 (map (named s) ps)
unfolding all_utf8 pick
all_pairs_utf8 s [] = refl
all_pairs_utf8 s (p ∷ ps) =
    by-test (is_utf8 (within p.0 s))
    (λ k. by-test (is_utf8 (within p.1 s)) (λ v. rw (k, v) (all_pairs_utf8 s ps)) (λ v. rw (k, v)))
    (λ k. rw k)

pub nth_is : (ps : List Ranges) (k : ℕ) → slice_get ps k ≡ nth_of ps k
unfolding nth_of
nth_is [] k = refl
nth_is (p ∷ ps) zero = refl
nth_is (p ∷ ps) (suc k) = nth_is ps k

-- a part that is read: its length and its bytes stand there, and its range lies within the text
pub record Part-is (s : Bytes) (at : ℕ) (r : Range) : Type 0 where
  pub order : r.from ≤ r.to
  pub in_text : r.to ≤ length s
  pub forward : at < r.from

-- the number and the bytes of a part that is read
pub record Part-of (s : Bytes) (at : ℕ) (r : Range) : Type 0 where
  pub count : ℕ
  pub from : ℕ
  pub number : number_at s at 4294967295 ≡ Some (count, from)
  pub there : count ≤ length s - from
  pub is : range from (from + count) ≡ r

part_of : (s : Bytes) (at : ℕ) (r : Range) → part_at s at ≡ Some r → Part-of s at r
unfolding part_at on_option sized_of pick
part_of s at r e =
    by_option2 (number_at s at 4294967295)
    (λ q. none_some (rw q at e))
    (λ n f q.
    by-test (leb f (length s))
    (λ t.
    by-test (leb n (length s - f))
    (λ u.
    let x : Some (range f (f + n)) ≡ Some r = rw (q, t, u) at e in
    record { count = n; from = f; number = q; there = leb-true n (length s - f) u; is = cc })
    (λ u. none_some (rw (q, t, u) at e)))
    (λ t. none_some (rw (q, t) at e)))

pub part_is : (s : Bytes) (at : ℕ) (r : Range) → part_at s at ≡ Some r → Part-is s at r
part_is s at r e =
    let o = part_of s at r e in
    let h = number_within s at 4294967295 o.count o.from o.number in
    let l = o.there in
    let a : r.from ≡ o.from = sym (ap (λ (k : Range). k.from) o.is) in
    let b : r.to ≡ o.from + o.count = sym (ap (λ (k : Range). k.to) o.is) in
    record { order = omega arith; in_text = omega arith; forward = omega arith }

-- reading what was written, at a place of a text, whatever follows
pub part_read :
    (s x t : Bytes) (at : ℕ)
    → drop at s ≡ sized_bytes x ++ t
    → length x ≤ 4294967295
    → (r : Range) × ((part_at s at ≡ Some r) × ((within r s ≡ x) × (drop r.to s ≡ t)))
unfolding part_at on_option sized_of pick sized_bytes
part_read s x t at e h =
    let g = group_of (length x) in
    let f = at + length g in
    let d : drop at s ≡ g ++ (x ++ t) = e ∙ append_assoc g x t in
    let n : number_at s at 4294967295 ≡ Some (length x, f) = number_read_at s (x ++ t) at 4294967295 (length x) d h in
    let l = ap length d ∙ length-append g (x ++ t) ∙ ap (λ (k : ℕ). length g + k) (length-append x t) in
    let m = length-drop at s in
    let p = group_length (length x) in
    let a : f ≤ length s = omega arith in
    let b : length x ≤ length s - f = omega arith in
    let q : drop f s ≡ x ++ t = sym (drop-drop (length g) at s) ∙ ap (drop (length g)) d ∙ drop-append_seam g (x ++ t) in
    let w : f + length x - f ≡ length x = omega arith in (
      range f (f + length x),
      (
        rw (n, le-leb _ _ a, le-leb _ _ b),
        (
          rw (w, q, take-append_seam x t),
          sym (drop-drop (length x) f s) ∙ ap (drop (length x)) q ∙ drop-append_seam x t,
        ),
      ),
    )

pub record Pair-read (s : Bytes) (at : ℕ) (e : Entry Bytes) (t : Bytes) : Type 0 where
  pub first : Range
  pub second : Range
  pub is : pair_at s at ≡ Some (first, second)
  pub bytes : named s (ranges first second) ≡ e
  pub rest : drop second.to s ≡ t

pub pair_read :
    (s : Bytes) (at : ℕ) (e : Entry Bytes) (t : Bytes)
    → drop at s ≡ pair_bytes e ++ t
    → length e.key ≤ 4294967295
    → length e.value ≤ 4294967295
    → Pair-read s at e t
unfolding pair_at on_option pair_bytes
pair_read s at e t d h g =
    let k = sized_bytes e.key in
    let v = sized_bytes e.value in
    let a = part_read s e.key (v ++ t) at (d ∙ append_assoc k v t) h in
    let b = part_read s e.value t a.0.to a.1.1.1 g in
    record {
      first = a.0;
      second = b.0;
      is = rw (a.1.0, b.1.0);
      bytes = ap₂ entry a.1.1.0 b.1.1.0;
      rest = b.1.1.1;
    }

-- keys and values whose lengths are group numbers
pub data AllShort : Map Bytes → Type 0 where
  none : AllShort []
  next : {e : Entry Bytes} {m : Map Bytes} → length e.key ≤ 4294967295 → length e.value ≤ 4294967295 → AllShort m → AllShort (e ∷ m)

pub pairs_read :
    (m : Map Bytes) (s : Bytes) (at : ℕ) (t : Bytes)
    → drop at s ≡ map_bytes m ++ t
    → AllShort m
    → (p : ℕ) × ((skip_of (length m) s at ≡ Some p) × ((entries_at (length m) s at ≡ m) × (drop p s ≡ t)))
unfolding skip_of entries_at pairs_at map_bytes on_option
pairs_read [] s at t d none = (at, (refl, (refl, d)))
pairs_read (e ∷ m) s at t d (next h g a) =
    let r = pair_read s at e (map_bytes m ++ t) (d ∙ append_assoc (pair_bytes e) (map_bytes m) t) h g in
    let q = pairs_read m s r.second.to t r.rest a in
    (q.0, (rw r.is q.1.0, (rw r.is (ap₂ ◌∷◌ r.bytes q.1.1.0), q.1.1.1)))

-- what is read was written there
pub part_written :
    (s : Bytes) (at : ℕ) (r : Range)
    → AllBytes s
    → part_at s at ≡ Some r
    → drop at s ≡ sized_bytes (within r s) ++ drop r.to s
unfolding sized_bytes
part_written s at r a e =
    let o = part_of s at r e in
    let n = o.count in
    let f = o.from in
    let b = between_length f n o.there in
    number_written_at s at 4294967295 n f a o.number
    ∙ ap₂ ◌++◌ (ap group_of (sym b)) (split f n)
    ∙ sym (append_assoc (group_of (length (within (range f (f + n)) s))) (within (range f (f + n)) s) (drop (f + n) s))
    ∙ ap (λ (k : Range). sized_bytes (within k s) ++ drop k.to s) o.is
  where
    between_length : (f n : ℕ) → n ≤ length s - f → length (within (range f (f + n)) s) ≡ n
    between_length f n l =
        let w : f + n - f ≡ n = omega arith in
        let d = length-drop f s in
        rw w (lib.Seq.length-take-le n (drop f s) (omega arith))

    split : (f n : ℕ) → drop f s ≡ within (range f (f + n)) s ++ drop (f + n) s
    split f n =
        let w : f + n - f ≡ n = omega arith in
        rw w (sym (take-append-drop n (drop f s)) ∙ ap (λ (k : Bytes). take n (drop f s) ++ k) (drop-drop n f s))

-- the two parts of a pair that is read
pair_of : (s : Bytes) (at : ℕ) (a b : Range) → pair_at s at ≡ Some (a, b) → (part_at s at ≡ Some a) × (part_at s a.to ≡ Some b)
unfolding pair_at on_option
pair_of s at a b e =
    by_option (part_at s at)
    (λ q. none_some (rw q at e))
    (λ r q.
    by_option (part_at s r.to)
    (λ p. none_some (rw (q, p) at e))
    (λ r₂ p.
    let x : Some (r, r₂) ≡ Some (a, b) = rw (q, p) at e in
    let y : r ≡ a = some2_first x in
    let z : r₂ ≡ b = some2_second x in
    (q ∙ ap Some y, ap (λ (k : Range). part_at s k.to) (sym y) ∙ p ∙ ap Some z)))

pub pair_written :
    (s : Bytes) (at : ℕ) (a b : Range)
    → AllBytes s
    → pair_at s at ≡ Some (a, b)
    → drop at s ≡ pair_bytes (named s (ranges a b)) ++ drop b.to s
unfolding pair_bytes
pair_written s at a b all e =
    let o = pair_of s at a b e in
    part_written s at a all o.0
    ∙ ap (λ (k : Bytes). sized_bytes (within a s) ++ k) (part_written s a.to b all o.1)
    ∙ sym (append_assoc (sized_bytes (within a s)) (sized_bytes (within b s)) (drop b.to s))

pub pairs_written : (n : ℕ) (s : Bytes) (at p : ℕ) → AllBytes s → skip_of n s at ≡ Some p → drop at s ≡ map_bytes (entries_at n s at) ++ drop p s
unfolding skip_of entries_at pairs_at map_bytes on_option
pairs_written zero s at p all e = let y : at ≡ p = cc in ap (λ (k : ℕ). drop k s) y
pairs_written (suc n) s at p all e =
    by_option2 (pair_at s at)
    (λ q. none_some (rw q at e))
    (λ a b q.
    rw q
    (pair_written s at a b all q
    ∙ ap (λ (k : Bytes). pair_bytes (named s (ranges a b)) ++ k) (pairs_written n s b.to p all (rw q at e))
    ∙ sym (append_assoc (pair_bytes (named s (ranges a b))) (map_bytes (map (named s) (pairs_at n s b.to))) (drop p s))))

-- a pair's ranges lie within the text, one behind the other
pub record Pair-is (s : Bytes) (at : ℕ) (a b : Range) : Type 0 where
  pub key : Part-is s at a
  pub value : Part-is s a.to b

pub pair_is : (s : Bytes) (at : ℕ) (a b : Range) → pair_at s at ≡ Some (a, b) → Pair-is s at a b
pair_is s at a b e =
    let o = pair_of s at a b e in
    record { key = part_is s at a o.0; value = part_is s a.to b o.1 }

-- where so many pairs can be skipped, they are all read, and none ends past the text
pub pairs_all : (n : ℕ) (s : Bytes) (at p : ℕ) → skip_of n s at ≡ Some p → length (pairs_at n s at) ≡ n
unfolding skip_of pairs_at on_option
pairs_all zero s at p e = refl
pairs_all (suc n) s at p e =
    by_option2 (pair_at s at)
    (λ q. none_some (rw q at e))
    (λ a b q. rw q (ap suc (pairs_all n s b.to p (rw q at e))))

-- the place behind pairs lies within the text
pub skip_within : (n : ℕ) (s : Bytes) (at p : ℕ) → skip_of n s at ≡ Some p → at ≤ length s → (at ≤ p) × (p ≤ length s)
unfolding skip_of on_option
skip_within zero s at p e h = let y : at ≡ p = cc in (omega arith, omega arith)
skip_within (suc n) s at p e h =
    by_option2 (pair_at s at)
    (λ q. none_some (rw q at e))
    (λ a b q.
    let o = pair_is s at a b q in
    let k = o.key in
    let v = o.value in
    let f = k.forward in
    let g = k.order in
    let i = v.forward in
    let j = v.order in
    let r = skip_within n s b.to p (rw q at e) v.in_text in
    (omega arith, r.1))

-- parts of a text that is not too long have lengths that are group numbers
short_sized : (x : Bytes) → length x ≤ length (sized_bytes x)
unfolding sized_bytes
short_sized x = let l = length-append (group_of (length x)) x in omega arith

pub all_short : (m : Map Bytes) → length (map_bytes m) ≤ 4294967295 → AllShort m
unfolding map_bytes pair_bytes
all_short [] h = none
all_short (e ∷ m) h =
    let l = length-append (pair_bytes e) (map_bytes m) in
    let p = length-append (sized_bytes e.key) (sized_bytes e.value) in
    let k = short_sized e.key in
    let v = short_sized e.value in
    let h₁ : length e.key ≤ 4294967295 = omega arith in
    let h₂ : length e.value ≤ 4294967295 = omega arith in
    next h₁ h₂ (all_short m (omega arith))
