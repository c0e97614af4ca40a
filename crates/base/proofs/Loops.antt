-- A loop of the code against `turns`: what is left of the loop gives what the whole gives.
use Prim.Native.Nat.{ℕ, zero, suc, ◌<◌}
use native.Mathlib.Omega.{arith}
use mathlib.Core.Path.{◌≡◌, refl}
use Rattle.base.specs.Turns.{Turn, more, done, after, turns}

pub record Going {S R : Type 0} (f : S → Turn S R) (d : R) (left : ℕ) (x : S) (out : R) : Type 0 where
  pub fuel : ℕ
  pub enough : left < fuel
  pub same : turns f d fuel x ≡ out

module _ {S R : Type 0} (f : S → Turn S R) (d : R) where
  pub going_start : (n left : ℕ) (x : S) → left < n → Going f d left x (turns f d n x)
  going_start n left x h = record { fuel = n; enough = h; same = refl }

  pub going_more :
      (left left' : ℕ) (x y : S) (out : R)
      → Going f d left x out
      → f x ≡ more y
      → left' < left
      → Going f d left' y out
  unfolding turns
  going_more left left' x y out g e h = go g.fuel g.enough g.same
    where
      go : (n : ℕ) → left < n → turns f d n x ≡ out → Going f d left' y out
      go zero l q = absurd (omega arith)
      go (suc n) l q = record { fuel = n; enough = omega arith; same = rw e at q }

  pub going_done : (left : ℕ) (x : S) (r out : R) → Going f d left x out → f x ≡ done r → r ≡ out
  unfolding turns
  going_done left x r out g e = go g.fuel g.enough g.same
    where
      go : (n : ℕ) → left < n → turns f d n x ≡ out → r ≡ out
      go zero l q = absurd (omega arith)
      go (suc n) l q = rw e at q

-- what a turn keeps, and what it is done with
abbrev pub Kept : {S R : Type 0} → (S → Type 0) → (R → Type 0) → Turn S R → Type 0
Kept P Q (more x) = P x
Kept P Q (done r) = Q r

module _
    {S R : Type 0}
    (P : S → Type 0)
    (Q : R → Type 0)
    (f : S → Turn S R)
    (d : R)
    (base : Q d)
    (turn : (x : S) → P x → Kept P Q (f x))
  where
    kept_after : (rest : S → R) → ((x : S) → P x → Q (rest x)) → (t : Turn S R) → Kept P Q t → Q (after t rest)
    kept_after rest h (more x) p = h x p
    kept_after rest h (done r) p = p

    pub turns_keep : (n : ℕ) (x : S) → P x → Q (turns f d n x)
    unfolding turns
    turns_keep zero x p = base
    turns_keep (suc n) x p = kept_after (turns f d n) (λ y q. turns_keep n y q) (f x) (turn x p)
