-- What a match on byte strings knows in its arms: the length and each byte of the string that fits, and of no other.
use Prim.Native.Nat.{ℕ, suc}
use mathlib.Core.Path.{◌≡◌, refl, sym, ap, subst}
use mathlib.Core.Bool.{false}
use mathlib.Core.List.{[], ◌∷◌}
use lib.ListN.{length, get_or}
use Rattle.std.proofs.lemmas.Slice.Eq.{HasBytesAt, text_from_reads}
use Rattle.base.specs.Bytes.{Bytes, same}
use Rattle.base.proofs.Compare.{same_false}

-- P follows where the bytes of p stand in s from place i on
abbrev pub From : Bytes → ℕ → Bytes → Type 0 → Type 0
From s i [] P = P
From s i (x ∷ p) P = get_or s i 0 ≡ x → From s (suc i) p P

-- P follows where s is p
abbrev pub Spelled : Bytes → Bytes → Type 0 → Type 0
Spelled s p P = length s ≡ length p → From s 0 p P

from : (s p : Bytes) (i : ℕ) {P : Type 0} → (HasBytesAt s i p → P) → From s i p P
from s [] i f = f tt
from s (x ∷ p) i f = λ e. from s p (suc i) (λ h. f (e, h))

-- in the arm of p
pub spelled : {A : Type 0} (f : Bytes → A) (s p : Bytes) → Spelled s p (f p ≡ f s)
spelled f s p = λ l. from s p 0 (λ h. sym (ap f (text_from_reads s p l h)))

behind : (P : Type 0) (x : ℕ) (s p : Bytes) (i : ℕ) → From (x ∷ s) (suc i) p P → From s i p P
behind P x s [] i f = f
behind P x s (y ∷ p) i f = λ e. behind P x s p (suc i) (f e)

itself : (P : Type 0) (p : Bytes) → From p 0 p P → P
itself P [] f = f
itself P (x ∷ p) f = itself P p (behind P x p p 0 (f refl))

-- behind the arm of p
pub missed : (s p : Bytes) → Spelled s p ⊥ → same s p ≡ false
missed s p h = same_false s p (λ e. itself ⊥ p (subst (λ t. Spelled t p ⊥) e h refl))
