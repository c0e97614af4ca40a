-- Reading a bundle is the inverse of writing it.
use Prim.Native.Nat.{ℕ, ◌<◌, ◌≤◌}
use native.Mathlib.Omega.{arith}
use mathlib.Core.Path.{◌≡◌, refl, sym, ◌∙◌, ap, ap₂}
use mathlib.Core.Bool.{true, false}
use mathlib.Core.List.{[], ◌++◌, map, append-nil}
use lib.Dec.{eqb, ltb}
use lib.ListN.{length, drop, length-append, length-drop, length-map}
use borrow.Author.Tests.{eq-eqb, ne_eqb, lt-ltb, le-ltb, eqb-true, eqb-false, ltb-false}
use Rattle.base.specs.Bytes.{Bytes, AllBytes}
use Rattle.base.specs.Choice.{pick, by-test, clash}
use Rattle.base.specs.Map.{Map, key_of}
use Rattle.group.specs.Number.{number_at, group_of}
use Rattle.group.specs.Pair.{pairs_at, skip_of, entries_at, named, map_bytes}
use Rattle.group.proofs.Numbers.{number_read_at, number_written_at, number_most}
use Rattle.group.proofs.Runs.{AllShort, all_short, pairs_read, pairs_written, pairs_all, skip_within}
use Rattle.bundle.specs.Bundle.{count_of, first_at, texts_of, good_names, is_bundle, bundle_bytes, IsTexts}
use Rattle.std.specs.Prelude.{Some}
use Rattle.base.specs.Option.{on_option}
use Rattle.base.proofs.Options.{by_option, by_option2}

pub bundle_long : (s : Bytes) → 1048576 < length s → false ≡ is_bundle s
unfolding is_bundle pick
bundle_long s h = rw (lt-ltb _ _ h)

-- a bundle of some texts that end where it ends is one if their names are good
bundle_names :
    (s : Bytes)
    → length s ≤ 1048576
    → (count_of s ≡ 0 → ⊥)
    → skip_of (count_of s) s (first_at s) ≡ Some (length s)
    → good_names (map key_of (texts_of s)) ≡ is_bundle s
unfolding is_bundle pick on_option
bundle_names s l c e = rw (le-ltb _ _ l, ne_eqb _ _ c, e, eq-eqb (length s) _ refl)

-- what was read of a bundle that was written
module _ (m : Map Bytes) (t : IsTexts m) where
  count_read : number_at (bundle_bytes m) 0 64 ≡ Some (length m, length (group_of (length m)))
  unfolding bundle_bytes
  count_read =
      number_read_at (bundle_bytes m) (map_bytes m) 0 64 (length m) refl t.few
      ∙ ap (λ (p : ℕ). Some (length m, p)) (native.Mathlib.Nat.zero-add (length (group_of (length m))))

  count_is : count_of (bundle_bytes m) ≡ length m
  unfolding count_of on_option
  count_is = rw count_read

  first_is : first_at (bundle_bytes m) ≡ length (group_of (length m))
  unfolding first_at on_option
  first_is = rw count_read

  behind_count : drop (length (group_of (length m))) (bundle_bytes m) ≡ map_bytes m ++ []
  unfolding bundle_bytes
  behind_count = lib.Seq.drop-append_seam (group_of (length m)) (map_bytes m) ∙ sym (append-nil (map_bytes m))

  texts_short : AllShort m
  unfolding bundle_bytes
  texts_short =
      let l = length-append (group_of (length m)) (map_bytes m) in
      let z = t.size in
      all_short m (omega arith)

  -- the texts are read back
  pub texts_read : texts_of (bundle_bytes m) ≡ m
  unfolding texts_of
  texts_read =
      let r = pairs_read m (bundle_bytes m) (length (group_of (length m))) [] behind_count texts_short in
      ap₂ (λ (i j : ℕ). entries_at i (bundle_bytes m) j) count_is first_is ∙ r.1.1.0

  skipped : (p : ℕ) × ((skip_of (length m) (bundle_bytes m) (length (group_of (length m))) ≡ Some p) × (drop p (bundle_bytes m) ≡ []))
  skipped =
      let r = pairs_read m (bundle_bytes m) (length (group_of (length m))) [] behind_count texts_short in
      (r.0, (r.1.0, r.1.1.1))

  -- and nothing within the limits is refused
  pub bundle_read : is_bundle (bundle_bytes m) ≡ true
  unfolding bundle_bytes
  bundle_read =
      let r = skipped in
      let l = length-drop r.0 (bundle_bytes m) in
      let d = ap length r.1.1 in
      let a = length-append (group_of (length m)) (map_bytes m) in
      let w = skip_within (length m) (bundle_bytes m) (length (group_of (length m))) r.0 r.1.0 (omega arith) in
      let some = t.some_text in
      let n = count_is in
      let z : r.0 ≡ length (bundle_bytes m) = omega arith in
      sym
      (bundle_names (bundle_bytes m) t.size
      (λ z. omega arith)
      (ap₂ (λ (i j : ℕ). skip_of i (bundle_bytes m) j) count_is first_is ∙ r.1.0 ∙ ap Some z))
      ∙ ap (λ (k : Map Bytes). good_names (map key_of k)) texts_read
      ∙ t.names

-- what is read of a bundle was written there, and is within the limits
module _ (s : Bytes) (all : AllBytes s) (b : is_bundle s ≡ true) where
  pub record Laid : Type 0 where
    pub short : length s ≤ 1048576
    pub counted : number_at s 0 64 ≡ Some (count_of s, first_at s)
    pub some_text : 1 ≤ count_of s
    pub ends : skip_of (count_of s) s (first_at s) ≡ Some (length s)
    pub names : good_names (map key_of (texts_of s)) ≡ true

  pub laid : Laid
  unfolding is_bundle pick on_option count_of first_at
  laid =
      by-test (ltb 1048576 (length s))
      (λ p. clash (rw p at b) refl)
      (λ p.
      by_option2 (number_at s 0 64)
      (λ q. clash (rw (p, q) at b) refl)
      (λ n f q.
      by-test (eqb n 0)
      (λ z. clash (rw (p, q, z) at b) refl)
      (λ z.
      by_option (skip_of n s f)
      (λ e. clash (rw (p, q, z, e) at b) refl)
      (λ end e.
      by-test (eqb end (length s))
      (λ y.
      let d = eqb-false n 0 z in
      let o : 1 ≤ n = positive n d in
      let g : good_names (map key_of (texts_of s)) ≡ true = rw (p, q, z, e, y) at b in
      let c : count_of s ≡ n = rw q in
      let c' : first_at s ≡ f = rw q in
      record {
        short = ltb-false 1048576 (length s) p;
        counted = q ∙ ap₂ (λ (i j : ℕ). Some (i, j)) (sym c) (sym c');
        some_text = omega arith;
        ends = ap₂ (λ (i j : ℕ). skip_of i s j) c c' ∙ e ∙ ap Some (eqb-true end (length s) y);
        names = g;
      })
      (λ y. clash (rw (p, q, z, e, y) at b) refl)))))
    where
      positive : (n : ℕ) → (n ≡ 0 → ⊥) → 1 ≤ n
      positive n d = omega arith

  count_texts : length (texts_of s) ≡ count_of s
  unfolding texts_of entries_at
  count_texts =
      length-map (pairs_at (count_of s) s (first_at s)) (named s)
      ∙ pairs_all (count_of s) s (first_at s) (length s) laid.ends

  -- the bytes are those of the texts
  pub bundle_written : bundle_bytes (texts_of s) ≡ s
  unfolding bundle_bytes texts_of
  bundle_written =
      let l = laid in
      let m = entries_at (count_of s) s (first_at s) in
      ap (λ (k : ℕ). group_of k ++ map_bytes m) count_texts
      ∙ sym
      (number_written_at s 0 64 (count_of s) (first_at s) all l.counted
      ∙ ap (λ (k : Bytes). group_of (count_of s) ++ k)
      (pairs_written (count_of s) s (first_at s) (length s) all l.ends
      ∙ ap (λ (k : Bytes). map_bytes m ++ k) (lib.Seq.drop-length s)
      ∙ append-nil (map_bytes m)))

  -- and the texts are within the limits
  pub texts_within : IsTexts (texts_of s)
  texts_within =
      let l = laid in
      let n = count_texts in
      let f = number_most s 0 64 (count_of s) (first_at s) l.counted in
      let o = l.some_text in
      let z = l.short in
      let w = ap length bundle_written in
      record { some_text = omega arith; few = omega arith; names = l.names; size = omega arith }
