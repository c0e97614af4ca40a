-- Loops: what is left to read leads to the answer of the whole. R is what is known of an answer, by the bytes left and the tables.
use Prim.Native.Nat.{ℕ, zero, suc, ◌<◌, ◌≤◌}
use native.Mathlib.Omega.{arith}
use Rattle.base.specs.Bytes.{Bytes}
use Rattle.base.specs.declared.refusal.Refusal.{Refusal}
use Rattle.cursor.specs.declared.Cursor.{Cursor}
use Rattle.grammar.specs.Input.{Answer}
use Rattle.keep.specs.Lent.{Lent}
use Rattle.input.specs.Source.{Spot}
use Rattle.input.specs.Text.{left}
use Rattle.input.specs.declared.Source.{Source}

module _ {A E : Type 0} (R : ℕ → Lent → E → Answer A Spot Lent Refusal → Type 0) (bundle : Bytes) (s : Source) where
  -- from a cursor on, with enough fuel: g is what is left to read, w is the whole, with so many bytes from its start on
  abbrev pub Goes : ℕ → Answer A Spot Lent Refusal → Cursor → (ℕ → Answer A Spot Lent Refusal) → Type 0
  Goes start w at g =
      (k : ℕ)
      × ((left bundle s at < k)
      × ((left bundle s at ≤ start) × ((τ : Lent) (r : E) → R (left bundle s at) τ r (g k) → R start τ r w)))

  pub goes_start :
      (c : Cursor) (g : ℕ → Answer A Spot Lent Refusal) (k : ℕ)
      → left bundle s c < k
      → Goes (left bundle s c) (g k) c g
  goes_start c g k h = (k, (h, (omega arith, λ t r q. q)))

  pub goes_end :
      (start : ℕ) (w : Answer A Spot Lent Refusal) (at : Cursor) (g : ℕ → Answer A Spot Lent Refusal) {τ : Lent} {r : E}
      → Goes start w at g
      → ((k : ℕ) → left bundle s at ≤ k → R (left bundle s at) τ r (g (suc k)))
      → R start τ r w
  goes_end start w at g {τ} {r} (k, (l, (b, h))) q = go k l h
    where
      go : (k : ℕ) → left bundle s at < k → ((τ : Lent) (r : E) → R (left bundle s at) τ r (g k) → R start τ r w) → R start τ r w
      go zero l h = absurd (omega arith)
      go (suc k) l h = h τ r (q k (omega arith))

  pub goes_on :
      (start : ℕ) (w : Answer A Spot Lent Refusal) (at d : Cursor) (g f : ℕ → Answer A Spot Lent Refusal)
      → Goes start w at g
      → left bundle s d < left bundle s at
      → ((k : ℕ) → left bundle s at ≤ k → (τ : Lent) (r : E) → R (left bundle s d) τ r (f k) → R (left bundle s at) τ r (g (suc k)))
      → Goes start w d f
  goes_on start w at d g f (k, (l, (b, h))) m q = go k l h
    where
      go :
          (k : ℕ)
          → left bundle s at < k
          → ((τ : Lent) (r : E) → R (left bundle s at) τ r (g k) → R start τ r w)
          → Goes start w d f
      go zero l h = absurd (omega arith)
      go (suc k) l h = (k, (omega arith, (omega arith, λ t r x. h t r (q k (omega arith) t r x))))
