-- A single entity and a stream that were written are read back.
use Prim.Native.Nat.{ℕ, zero, suc, ◌+◌, ◌<◌, ◌≤◌}
use native.Mathlib.Omega.{arith}
use mathlib.Core.Path.{◌≡◌, refl, sym, ◌∙◌, ap}
use mathlib.Core.Bool.{Bool, true}
use mathlib.Core.List.{List, [], ◌∷◌, append-nil}
use mathlib.Core.Option.{none}
use lib.ListN.{length, drop, length-append, length-drop}
use borrow.Author.Tests.{le-leb, lt-leb, le-ltb, eq-eqb}
use Rattle.base.specs.Bytes.{Bytes}
use Rattle.base.specs.Choice.{pick}
use Rattle.base.specs.Entity.{Entity}
use Rattle.group.specs.Pair.{all_utf8}
use Rattle.entity.specs.Layout.{kind_fits, tags_of, value_of, entity_at, single_of, next_of, stream_from, stream_of, entity_bytes, IsEntity, stream_bytes}
use Rattle.entity.specs.declared.Sort.{Sort}
use Rattle.entity.specs.declared.Sort.TheVariants.{Any}
use Rattle.entity.specs.declared.EntityRange.{EntityRange}
use Rattle.entity.proofs.Inverse.{entity_read}
use Rattle.std.specs.Prelude.{Some, Ok, None}
use Rattle.base.specs.Option.{on_option, on_result}

-- an entity of a sort whose keys and values are UTF-8
pub record Sound (sort : Sort) (e : Entity) : Type 0 where
  pub limits : IsEntity e
  pub fits : kind_fits sort e.kind ≡ true
  pub utf8 : all_utf8 e.tags ≡ true

pub data AllSound (sort : Sort) : List Entity → Type 0 where
  none_left : AllSound sort []
  one_more : {e : Entity} {es : List Entity} → Sound sort e → AllSound sort es → AllSound sort (e ∷ es)

bytes_some : (e : Entity) → 1 ≤ length (entity_bytes e)
unfolding entity_bytes
bytes_some e = omega arith

tags_are : (s : Bytes) (r : EntityRange) (e : Entity) → value_of s r ≡ e → tags_of s r ≡ e.tags
unfolding value_of
tags_are s r e q = ap (λ (x : Entity). x.tags) q

single_is :
    (s : Bytes) (r : EntityRange)
    → entity_at Any s 0 ≡ Some r
    → r.end ≡ length s
    → all_utf8 (tags_of s r) ≡ true
    → single_of s ≡ Ok r
unfolding single_of on_option pick
single_is s r e h u = rw (e, eq-eqb _ _ h, u)

-- a single entity is read back
pub single_read :
    (e : Entity)
    → Sound Any e
    → (r : EntityRange) × ((single_of (entity_bytes e) ≡ Ok r) × (value_of (entity_bytes e) r ≡ e))
single_read e ok =
    let s = entity_bytes e in
    let o = entity_read Any s 0 e [] ok.limits ok.fits (sym (append-nil s)) in
    let h : o.place.end ≡ length s = o.end ∙ native.Mathlib.Nat.zero-add (length s) in
    (o.place, (single_is s o.place o.is h (ap all_utf8 (tags_are s o.place e o.value) ∙ ok.utf8), o.value))

module _ (sort : Sort) (multipolygons : Bool) (s : Bytes) (short : length s ≤ 1048576) where
  next_is :
      (at place : ℕ) (r : EntityRange)
      → at < length s
      → entity_at sort s at ≡ Some r
      → all_utf8 (tags_of s r) ≡ true
      → next_of sort multipolygons s at place ≡ Ok (Some r)
  unfolding next_of on_option pick
  next_is at place r h e u = rw (le-ltb 1048576 (length s) short, lt-leb (length s) at h, e, u)

  next_none : (at place : ℕ) → length s ≤ at → next_of sort multipolygons s at place ≡ (Ok None)
  unfolding next_of pick
  next_none at place h = rw (le-ltb 1048576 (length s) short, le-leb (length s) at h)

  read_on :
      (es : List Entity) (n at place : ℕ)
      → AllSound sort es
      → drop at s ≡ stream_bytes es
      → length (stream_bytes es) < n
      → stream_from n sort multipolygons s at place ≡ record { entities = es; stopped = none }
  unfolding stream_from on_result on_option stream_bytes
  read_on es zero at place a d h = absurd (omega arith)
  read_on [] (suc n) at place a d h =
      let l = length-drop at s in
      let m = ap length d in
      rw (next_none at place (omega arith))
  read_on (e ∷ es) (suc n) at place (one_more ok a) d h =
      let o = entity_read sort s at e (stream_bytes es) ok.limits ok.fits d in
      let l = length-drop at s in
      let m = ap length d ∙ length-append (entity_bytes e) (stream_bytes es) in
      let b = bytes_some e in
      let g = length-append (entity_bytes e) (stream_bytes es) in
      let x = next_is at place o.place (omega arith) o.is (ap all_utf8 (tags_are s o.place e o.value) ∙ ok.utf8) in
      let y = read_on es n o.place.end (place + 1) a o.rest (omega arith) in
      rw (x, y, o.value)

-- a stream is read back
pub stream_read :
    (sort : Sort) (multipolygons : Bool) (es : List Entity)
    → length (stream_bytes es) ≤ 1048576
    → AllSound sort es
    → stream_of sort multipolygons (stream_bytes es) ≡ record { entities = es; stopped = none }
unfolding stream_of
stream_read sort multipolygons es short a =
    read_on sort multipolygons (stream_bytes es) short es (suc (length (stream_bytes es))) 0 0 a refl (omega arith)
