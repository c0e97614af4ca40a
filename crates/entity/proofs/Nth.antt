-- Going through a stream to an entity of a number.
use Prim.Native.Nat.{ℕ, zero, suc, ◌-◌}
use native.Mathlib.Omega.{arith}
use mathlib.Core.Path.{◌≡◌, refl}
use Rattle.base.specs.Bytes.{Bytes}
use Rattle.group.specs.Pair.{range}
use Rattle.entity.specs.Layout.{entity_at, nth_from}
use Rattle.entity.specs.declared.Sort.{Sort}
use Rattle.entity.specs.declared.EntityRange.{EntityRange}
use Rattle.std.specs.Prelude.{Some, None}
use Rattle.base.specs.Option.{on_option}

module _ (sort : Sort) (s : Bytes) (at : ℕ) where
  pub nth_none : (k : ℕ) → entity_at sort s at ≡ None → None ≡ nth_from k sort s at
  unfolding nth_from on_option
  nth_none zero e = rw e
  nth_none (suc k) e = rw e

  module _ (k : ℕ) (r : EntityRange) (e : entity_at sort s at ≡ Some r) where
    pub nth_here : k ≡ 0 → Some (range at r.end) ≡ nth_from k sort s at
    unfolding nth_from on_option
    nth_here z = rw (z, e)

    pub nth_later : (k ≡ 0 → ⊥) → nth_from (k - 1) sort s r.end ≡ nth_from k sort s at
    unfolding nth_from on_option
    nth_later h = go k h
      where
        go : (k : ℕ) → (k ≡ 0 → ⊥) → nth_from (k - 1) sort s r.end ≡ nth_from k sort s at
        go zero h = absurd (h refl)
        go (suc k) h = let p : suc k - 1 ≡ k = omega arith in rw (p, e)
