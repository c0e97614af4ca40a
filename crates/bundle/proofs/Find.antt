-- The text of a name is the value that the map of texts has for it.
use Prim.Native.Nat.{ℕ, suc, ◌+◌, ◌-◌, ◌≤◌}
use native.Mathlib.Omega.{arith}
use mathlib.Core.Path.{◌≡◌, refl, sym, ap}
use mathlib.Core.List.{List, [], ◌∷◌, map}
use mathlib.Core.Option.{none, some}
use Rattle.base.specs.Bytes.{Bytes, same, within}
use Rattle.base.specs.Choice.{pick, by-test}
use Rattle.base.specs.Map.{lookup}
use Rattle.base.specs.declared.Range.{Range}
use Rattle.base.proofs.Compare.{same_true}
use Rattle.group.specs.Pair.{Ranges, named, pairs_at, entries_at, nth_of}
use Rattle.bundle.specs.Bundle.{count_of, first_at, ranges_of, texts_of, find_in, find_of}
use Rattle.std.specs.Prelude.{Some}
use Rattle.base.specs.Option.{on_option, on_option2}
use Rattle.base.proofs.Options.{some2_first, some2_second}

module _ (s name : Bytes) where
  lookup_in :
      (k : ℕ) (ps : List Ranges)
      → lookup name (map (named s) ps) ≡ on_option2 (find_in s name k ps) none (λ j r. some (within r s))
  unfolding lookup find_in on_option pick
  lookup_in k [] = refl
  lookup_in k (p ∷ ps) =
      by-test (same name (within p.0 s)) (λ e. rw e) (λ e. rw e (lookup_in (k + 1) ps))

  pub find_lookup : lookup name (texts_of s) ≡ on_option2 (find_of s name) none (λ k r. some (within r s))
  unfolding find_of ranges_of texts_of entries_at
  find_lookup = lookup_in 0 (pairs_at (count_of s) s (first_at s))

  -- the text of a number, under the name
  pub record Numbered (ps : List Ranges) (j k : ℕ) (r : Range) : Type 0 where
    pub later : j ≤ k
    pub name_at_lem : Range
    pub is : nth_of ps (k - j) ≡ Some (name_at_lem, r)
    pub named_so : within name_at_lem s ≡ name

  numbered_in : (j k : ℕ) (r : Range) (ps : List Ranges) → find_in s name j ps ≡ Some (k, r) → Numbered ps j k r
  unfolding find_in nth_of pick
  numbered_in j k r [] e = absurd (cc)
  numbered_in j k r (p ∷ ps) e =
      by-test (same name (within p.0 s))
      (λ t.
      let q : Some (j, p.1) ≡ Some (k, r) = rw t at e in
      let x : j ≡ k = some2_first q in
      let y : p.1 ≡ r = some2_second q in
      let z : k - j ≡ 0 = omega arith in
      record {
        later = omega arith;
        name_at_lem = p.0;
        is = rw z (ap (λ (r : Range). Some (p.0, r)) y);
        named_so = sym (same_true name (within p.0 s) t);
      })
      (λ t.
      let o = numbered_in (j + 1) k r ps (rw t at e) in
      let l = o.later in
      let z : k - j ≡ suc (k - (j + 1)) = omega arith in
      record { later = omega arith; name_at_lem = o.name_at_lem; is = rw z o.is; named_so = o.named_so })

  pub find_numbered : (k : ℕ) (r : Range) → find_of s name ≡ Some (k, r) → Numbered (ranges_of s) 0 k r
  unfolding find_of
  find_numbered k r e = numbered_in 0 k r (ranges_of s) e
