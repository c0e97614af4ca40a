-- Reading an entity is the inverse of writing it: nothing within the limits is refused, and what is read was written there.
use Prim.Native.Nat.{ℕ, ◌+◌, ◌-◌, ◌<◌, ◌≤◌}
use native.Mathlib.Omega.{arith}
use native.Mathlib.Numerals.{add-one}
use mathlib.Core.Path.{◌≡◌, refl, sym, ◌∙◌, ap, ap₂, subst}
use mathlib.Core.Bool.{true}
use mathlib.Core.List.{◌∷◌, ◌++◌, map, append_assoc}
use lib.Dec.{leb, ltb}
use lib.ListN.{length, get_or, drop, length-append, length-drop, length-map}
use lib.Seq.{drop-cons, drop-drop, drop-append_seam}
use borrow.Author.Tests.{lt-leb, le-ltb, leb-true, leb-false, ltb-false, eqb-true}
use Rattle.base.specs.Bytes.{Bytes, AllBytes}
use Rattle.base.specs.Choice.{pick, by-test, and_right}
use Rattle.base.specs.Entity.{Entity}
use Rattle.base.specs.Map.{Map, key_of}
use Rattle.group.specs.Number.{number_at, group_of}
use Rattle.group.specs.Pair.{skip_of, pairs_at, entries_at, named, map_bytes}
use Rattle.group.proofs.Numbers.{number_read_at, number_written_at, number_most, number_within}
use Rattle.group.proofs.Runs.{AllShort, all_short, pairs_read, pairs_written, pairs_all, skip_within}
use Rattle.entity.specs.Layout.{kind_fits, rising, tags_of, value_of, closed_of, tags_at, entity_at, entity_bytes, IsEntity}
use Rattle.entity.specs.declared.Sort.{Sort}
use Rattle.entity.specs.declared.Sort.TheVariants.{Any, Nodes, Areas}
use Rattle.entity.specs.declared.EntityRange.{EntityRange}
use Rattle.std.specs.Prelude.{Some}
use Rattle.base.proofs.Options.{by_option, by_option2, none_some}
use Rattle.base.specs.Option.{on_option}

-- what stands behind the first bytes of a text
behind : (s x t : Bytes) (at : ℕ) → drop at s ≡ x ++ t → drop (at + length x) s ≡ t
behind s x t at e = sym (drop-drop (length x) at s) ∙ ap (drop (length x)) e ∙ drop-append_seam x t

abbrev entity_range : ℕ → ℕ → ℕ → ℕ → ℕ → EntityRange
entity_range k i t n e = record { kind = k; id = i; tags = t; count = n; end = e }

-- an entity, by its parts
whole_is :
    (sort : Sort) (s : Bytes) (at k i n p q end : ℕ)
    → at < length s
    → get_or s at 0 ≡ k
    → kind_fits sort k ≡ true
    → number_at s (at + 1) 18446744073709551615 ≡ Some (i, p)
    → number_at s p 256 ≡ Some (n, q)
    → skip_of n s q ≡ Some end
    → end - at ≤ 65536
    → rising (map key_of (entries_at n s q)) ≡ true
    → entity_at sort s at ≡ Some (entity_range k i q n end)
unfolding entity_at tags_at closed_of tags_of on_option pick
whole_is sort s at k i n p q end h e f a b c m g = rw (lt-leb (length s) at h, e, f, a, b, c, le-ltb 65536 (end - at) m, g)

pub record EntityRead (sort : Sort) (s : Bytes) (at : ℕ) (e : Entity) (t : Bytes) : Type 0 where
  pub place : EntityRange
  pub is : entity_at sort s at ≡ Some place
  pub value : value_of s place ≡ e
  pub rest : drop place.end s ≡ t
  pub in_text : place.end ≤ length s
  pub end : place.end ≡ at + length (entity_bytes e)

module _ (sort : Sort) (s : Bytes) (at : ℕ) (e : Entity) (t : Bytes) (ok : IsEntity e) (fits : kind_fits sort e.kind ≡ true) where
  abbrev tag_bytes : Bytes
  tag_bytes = map_bytes e.tags ++ t

  abbrev id_bytes : Bytes
  id_bytes = group_of (length e.tags) ++ tag_bytes

  spelled : entity_bytes e ++ t ≡ e.kind ∷ (group_of e.id ++ id_bytes)
  unfolding entity_bytes
  spelled =
      ap (◌∷◌ e.kind)
      (append_assoc (group_of e.id) (group_of (length e.tags) ++ map_bytes e.tags) t
      ∙ ap (λ (k : Bytes). group_of e.id ++ k) (append_assoc (group_of (length e.tags)) (map_bytes e.tags) t))

  tags_short : AllShort e.tags
  unfolding entity_bytes
  tags_short =
      let a = length-append (group_of e.id) (group_of (length e.tags) ++ map_bytes e.tags) in
      let b = length-append (group_of (length e.tags)) (map_bytes e.tags) in
      let z = ok.size in
      all_short e.tags (omega arith)

  pub entity_read : drop at s ≡ entity_bytes e ++ t → EntityRead sort s at e t
  unfolding tags_of value_of
  entity_read d =
      let d₁ : drop at s ≡ e.kind ∷ (group_of e.id ++ id_bytes) = d ∙ spelled in
      let l = length-drop at s in
      let l₁ = ap length d₁ in
      let inside : at < length s = omega arith in
      let c = drop-cons s at 0 inside in
      let k : get_or s at 0 ≡ e.kind = cc in
      let d₂ : drop (at + 1) s ≡ group_of e.id ++ id_bytes = ap (λ (i : ℕ). drop i s) (add-one at) ∙ cc in
      let p = at + 1 + length (group_of e.id) in
      let n₁ : number_at s (at + 1) 18446744073709551615 ≡ Some (e.id, p) =
      number_read_at s id_bytes (at + 1) 18446744073709551615 e.id d₂ ok.id in
      let d₃ : drop p s ≡ id_bytes = behind s (group_of e.id) id_bytes (at + 1) d₂ in
      let q = p + length (group_of (length e.tags)) in
      let n₂ : number_at s p 256 ≡ Some (length e.tags, q) = number_read_at s tag_bytes p 256 (length e.tags) d₃ ok.few in
      let d₄ : drop q s ≡ tag_bytes = behind s (group_of (length e.tags)) tag_bytes p d₃ in
      let r = pairs_read e.tags s q t d₄ tags_short in
      let w = number_within s p 256 (length e.tags) q n₂ in
      let v = skip_within (length e.tags) s q r.0 r.1.0 w.1 in
      let l₂ = ap length d ∙ length-append (entity_bytes e) t in
      let l₃ = length-drop r.0 s in
      let l₄ = ap length r.1.1.1 in
      let z = ok.size in
      let m : r.0 - at ≤ 65536 = omega arith in
      let g : rising (map key_of (entries_at (length e.tags) s q)) ≡ true =
      ap (λ (x : Map Bytes). rising (map key_of x)) r.1.1.0 ∙ ok.keys in
      record {
        place = entity_range e.kind e.id q (length e.tags) r.0;
        is = whole_is sort s at e.kind e.id (length e.tags) p q r.0 inside k fits n₁ n₂ r.1.0 m g;
        value = ap (λ (x : Map Bytes). record { kind = e.kind; id = e.id; tags = x }) r.1.1.0;
        rest = r.1.1.1;
        in_text = v.1;
        end = omega arith;
      }

-- what is read was written there
pub record EntityWritten (sort : Sort) (s : Bytes) (at : ℕ) (r : EntityRange) : Type 0 where
  pub fits : kind_fits sort r.kind ≡ true
  pub within : IsEntity (value_of s r)
  pub bytes : drop at s ≡ entity_bytes (value_of s r) ++ drop r.end s
  pub forward : at < r.end
  pub in_text : r.end ≤ length s

-- the parts of an entity that is read
record Parts (sort : Sort) (s : Bytes) (at : ℕ) (r : EntityRange) : Type 0 where
  inside : at < length s
  kind : get_or s at 0 ≡ r.kind
  fits : kind_fits sort r.kind ≡ true
  middle : ℕ
  id : number_at s (at + 1) 18446744073709551615 ≡ Some (r.id, middle)
  count : number_at s middle 256 ≡ Some (r.count, r.tags)
  ends : skip_of r.count s r.tags ≡ Some r.end
  short : r.end - at ≤ 65536
  keys : rising (map key_of (entries_at r.count s r.tags)) ≡ true

parts : (sort : Sort) (s : Bytes) (at : ℕ) (r : EntityRange) → entity_at sort s at ≡ Some r → Parts sort s at r
unfolding entity_at tags_at closed_of tags_of on_option pick
parts sort s at r e =
    by-test (leb (length s) at)
    (λ a. none_some (rw a at e))
    (λ a.
    by-test (kind_fits sort (get_or s at 0))
    (λ b.
    by_option2 (number_at s (at + 1) 18446744073709551615)
    (λ c. none_some (rw (a, b, c) at e))
    (λ i p c.
    by_option2 (number_at s p 256)
    (λ d. none_some (rw (a, b, c, d) at e))
    (λ n q d.
    by_option (skip_of n s q)
    (λ f. none_some (rw (a, b, c, d, f) at e))
    (λ end f.
    by-test (ltb 65536 (end - at))
    (λ g. none_some (rw (a, b, c, d, f, g) at e))
    (λ g.
    by-test (rising (map key_of (entries_at n s q)))
    (λ h.
    let x : Some (entity_range (get_or s at 0) i q n end) ≡ Some r = rw (a, b, c, d, f, g, h) at e in
    let y : entity_range (get_or s at 0) i q n end ≡ r = cc in
    subst (Parts sort s at) y
    (record {
      inside = leb-false (length s) at a;
      kind = refl;
      fits = b;
      middle = p;
      id = c;
      count = d;
      ends = f;
      short = ltb-false 65536 (end - at) g;
      keys = h;
    }))
    (λ h. none_some (rw (a, b, c, d, f, g, h) at e)))))))
    (λ b. none_some (rw (a, b) at e)))

-- it ends behind its first byte and within the text, whatever the text is
pub end_there :
    (sort : Sort) (s : Bytes) (at : ℕ) (r : EntityRange)
    → entity_at sort s at ≡ Some r
    → (at < r.end) × (r.end ≤ length s)
end_there sort s at r e =
    let p = parts sort s at r e in
    let a = number_within s (at + 1) 18446744073709551615 r.id p.middle p.id in
    let b = number_within s p.middle 256 r.count r.tags p.count in
    let c = skip_within r.count s r.tags r.end p.ends b.1 in
    (omega arith, c.1)

kind_low : (sort : Sort) (k : ℕ) → kind_fits sort k ≡ true → k ≤ 2
kind_low Any k e = leb-true k 2 e
kind_low Nodes k e = let z = eqb-true k 0 e in omega arith
kind_low Areas k e = leb-true k 2 (and_right (leb 1 k) (leb k 2) e)

module _ (sort : Sort) (s : Bytes) (at : ℕ) (r : EntityRange) (all : AllBytes s) (e : entity_at sort s at ≡ Some r) where
  tags_count : length (entries_at r.count s r.tags) ≡ r.count
  unfolding entries_at
  tags_count =
      length-map (pairs_at r.count s r.tags) (named s)
      ∙ pairs_all r.count s r.tags r.end (parts sort s at r e).ends

  bytes_there : drop at s ≡ entity_bytes (value_of s r) ++ drop r.end s
  unfolding entity_bytes value_of tags_of
  bytes_there =
      let p = parts sort s at r e in
      let m = entries_at r.count s r.tags in
      let t = drop r.end s in
      let g = group_of r.count in
      drop-cons s at 0 p.inside
      ∙ ap₂ ◌∷◌ p.kind
      (ap (λ (i : ℕ). drop i s) (sym (add-one at))
      ∙ number_written_at s (at + 1) 18446744073709551615 r.id p.middle all p.id
      ∙ ap (λ (k : Bytes). group_of r.id ++ k)
      (number_written_at s p.middle 256 r.count r.tags all p.count
      ∙ ap (λ (k : Bytes). g ++ k) (pairs_written r.count s r.tags r.end all p.ends)
      ∙ sym (append_assoc g (map_bytes m) t)
      ∙ ap (λ (k : ℕ). (group_of k ++ map_bytes m) ++ t) (sym tags_count))
      ∙ sym (append_assoc (group_of r.id) (group_of (length m) ++ map_bytes m) t))

  within_limits : IsEntity (value_of s r)
  unfolding value_of tags_of
  within_limits =
      let p = parts sort s at r e in
      let n = tags_count in
      let c = number_most s p.middle 256 r.count r.tags p.count in
      let l = ap length bytes_there ∙ length-append (entity_bytes (value_of s r)) (drop r.end s) in
      let l₁ = length-drop at s in
      let l₂ = length-drop r.end s in
      let d = end_there sort s at r e in
      let h = p.short in
      record {
        kind = kind_low sort r.kind p.fits;
        id = number_most s (at + 1) 18446744073709551615 r.id p.middle p.id;
        few = omega arith;
        keys = p.keys;
        size = omega arith;
      }

  pub entity_written : EntityWritten sort s at r
  entity_written =
      let d = end_there sort s at r e in
      record {
        fits = (parts sort s at r e).fits;
        within = within_limits;
        bytes = bytes_there;
        forward = d.0;
        in_text = d.1;
      }
