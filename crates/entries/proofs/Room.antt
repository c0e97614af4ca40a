-- Room in a table, as the code tests it.
use Prim.Native.Nat.{ℕ, suc, ◌+◌, ◌*◌, ◌/◌, ◌<◌, ◌≤◌}
use Rattle.std.proofs.Math.Nat.{suc-mul, mul-le-mul_right, div-mul-le_self}
use native.Mathlib.Omega.{arith}
use mathlib.Core.Path.{◌≡◌, refl, ap}
use mathlib.Core.List.{List}
use lib.ListN.{length}
use borrow.Author.Tests.{lt-ltb, le-ltb}
use Rattle.base.specs.Choice.{if_true, if_false}
use Rattle.base.specs.Table.{capacity_of, stored}
use Rattle.entries.specs.Put.{put_of}
use Rattle.std.specs.Prelude.{Some, None}

module _ {A : Type 0} (k : ℕ) (t : List A) (n : ℕ) (vs : List A) where
  pub full : capacity_of k (length t) ≤ n → (None, t) ≡ put_of k t n vs
  unfolding put_of
  full h = if_false _ _ _ (le-ltb n (capacity_of k (length t)) h) refl

  pub room : (u : List A) → n < capacity_of k (length t) → u ≡ stored t (n * k) vs → (Some (n + 1), u) ≡ put_of k t n vs
  unfolding put_of
  room u h e = if_true _ _ _ (lt-ltb n (capacity_of k (length t)) h) (ap (λ (x : List A). (Some (n + 1), x)) e)

-- an entry behind the first n is within the table
pub entry_fits : (k len n : ℕ) → n < capacity_of k len → n * k + k ≤ len
unfolding capacity_of
entry_fits k len n h =
    let a : suc n * k ≤ len / k * k = mul-le-mul_right k (omega (arith, h)) in
    omega (arith, suc-mul n k, a, div-mul-le_self len k)
