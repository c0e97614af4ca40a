-- Tag lookup: one step of the scan, a key of two parts, and that it finds what the map of tags has.
use Prim.Native.Nat.{ℕ}
use native.Mathlib.Omega.{arith}
use mathlib.Core.Path.{◌≡◌, refl, sym, ◌∙◌, ap}
use mathlib.Core.Bool.{false}
use mathlib.Core.List.{List, [], ◌∷◌, ◌++◌, map}
use mathlib.Core.Option.{none, some}
use lib.Dec.{eqb, eqb_refl}
use lib.ListN.{get_or, drop, length}
use borrow.Author.Tests.{eq-eqb, ne_eqb}
use Rattle.base.specs.Bytes.{Bytes, same, within}
use Rattle.base.specs.Choice.{pick, by-test, holds}
use Rattle.base.specs.Map.{lookup}
use Rattle.base.proofs.Compare.{same_false}
use Rattle.group.specs.Pair.{Ranges, pairs_at, entries_at, named}
use Rattle.entity.specs.Layout.{value_of, tags_of, tag_ranges}
use Rattle.entity.specs.declared.EntityRange.{EntityRange}
use Rattle.cascade.specs.Match.{tag}
use Rattle.reader.specs.Tags.{value_in}
use Rattle.std.specs.Prelude.{Option}
use Rattle.std.specs.List.{find}
use Rattle.std.specs.Option.{option_map}
use Rattle.std.proofs.lemmas.Iterator.Adapters.{option_map_id}
use Rattle.base.specs.Option.{on_option}

-- the value of a key is that of the first tag that has the key
pub value_found : (s key : Bytes) (ps : List Ranges) → option_map (λ p. p.1) (find (λ p. same key (within p.0 s)) ps) ≡ value_in s key ps
unfolding value_in pick
value_found s key [] = refl
value_found s key (p ∷ ps) = by-test (same key (within p.0 s)) (λ e. rw e) (λ e. rw e (value_found s key ps))

pub value_read : (s key : Bytes) (ps : List Ranges) (r : Option Ranges) → option_map (λ p. p) r ≡ find (λ p. same key (within p.0 s)) ps → option_map (λ p. p.1) r ≡ value_in s key ps
value_read s key ps r e = ap (option_map (λ p. p.1)) (sym (option_map_id r) ∙ e) ∙ value_found s key ps

-- a key of two parts
same_front : (a b y : Bytes) → same (a ++ b) (a ++ y) ≡ same b y
unfolding same
same_front [] b y = refl
same_front (x ∷ a) b y = rw (holds (eqb x x) (eqb_refl x)) (same_front a b y)

colon_at : (a b : Bytes) → get_or (a ++ (58 ∷ b)) (length a) 0 ≡ 58
colon_at [] b = refl
colon_at (x ∷ a) b = colon_at a b

module _ (a b y : Bytes) where
  pub joined_unmarked : (get_or y (length a) 0 ≡ 58 → ⊥) → false ≡ same (a ++ (58 ∷ b)) y
  joined_unmarked h = sym (same_false (a ++ (58 ∷ b)) y (λ e. h (ap (λ (x : Bytes). get_or x (length a) 0) (sym e) ∙ colon_at a b)))

  pub joined_none : ((x : Bytes) → y ≡ a ++ x → ⊥) → false ≡ same (a ++ (58 ∷ b)) y
  joined_none h = sym (same_false (a ++ (58 ∷ b)) y (λ e. h (58 ∷ b) (sym e)))

  module _ (x : Bytes) (e : y ≡ a ++ x) where
    pub joined_else : (get_or x 0 0 ≡ 58 → ⊥) → false ≡ same (a ++ (58 ∷ b)) y
    unfolding same
    joined_else h = rw (e, same_front a (58 ∷ b) x) (go x h)
      where
        go : (x : Bytes) → (get_or x 0 0 ≡ 58 → ⊥) → false ≡ same (58 ∷ b) x
        go [] h = refl
        go (z ∷ x) h = rw (ne_eqb 58 z (λ e. h (sym e)))

    pub joined_rest : get_or x 0 0 ≡ 58 → same b (drop 1 x) ≡ same (a ++ (58 ∷ b)) y
    unfolding same
    joined_rest h = rw (e, same_front a (58 ∷ b) x) (go x h)
      where
        go : (x : Bytes) → get_or x 0 0 ≡ 58 → same b (drop 1 x) ≡ same (58 ∷ b) x
        go [] h = absurd (omega arith)
        go (z ∷ x) h = rw (eq-eqb 58 z (sym h))

-- the scan finds what the map of tags has
module _ (s key : Bytes) where
  lookup_in : (ps : List Ranges) → lookup key (map (named s) ps) ≡ on_option (value_in s key ps) none (λ r. some (within r s))
  unfolding lookup value_in on_option pick
  lookup_in [] = refl
  lookup_in (p ∷ ps) = by-test (same key (within p.0 s)) (λ e. rw e) (λ e. rw e (lookup_in ps))

  pub value_lookup :
      (n at : ℕ)
      → lookup key (entries_at n s at) ≡ on_option (value_in s key (pairs_at n s at)) none (λ r. some (within r s))
  unfolding entries_at
  value_lookup n at = lookup_in (pairs_at n s at)

  -- and what the theory has for a tag of an entity
  pub tag_value :
      (e : EntityRange)
      → tag (value_of s e) key
      ≡ on_option (value_in s key (tag_ranges s e)) none (λ r. some (within r s))
  unfolding value_of tags_of
  tag_value e = value_lookup e.count e.tags
