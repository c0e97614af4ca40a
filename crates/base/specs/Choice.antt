-- A choice by a test, and the laws by which a return follows a definition down its cases.
use Rattle.std.specs.Prelude.{◌≡◌, refl, Bool, true, false, ◌&&◌, ◌||◌, T}
use Rattle.std.proofs.Common.{sym, ap, ◌∙◌, subst}

unfoldable pub pick : {A : Type 0} → Bool → A → A → A
pick true a b = a
pick false a b = b

pub if_true : {A : Type 0} (t : Bool) (a b : A) {y : A} → t ≡ true → y ≡ a → y ≡ pick t a b
unfolding pick
if_true t a b e h = h ∙ sym (ap (λ t. pick t a b) e)

pub if_false : {A : Type 0} (t : Bool) (a b : A) {y : A} → t ≡ false → y ≡ b → y ≡ pick t a b
unfolding pick
if_false t a b e h = h ∙ sym (ap (λ t. pick t a b) e)

-- what holds of both ways holds of the choice
pub pick_split :
    {A : Type 0} (P : A → Type 0) (t : Bool) (x y : A)
    → (t ≡ true → P x)
    → (t ≡ false → P y)
    → P (pick t x y)
unfolding pick
pick_split P true x y f g = f refl
pick_split P false x y f g = g refl

-- case analysis on a test, its outcome kept as an equation
pub by-test {ℓ} : {A : Type ℓ} (b : Bool) → (b ≡ true → A) → (b ≡ false → A) → A
by-test true f g = f refl
by-test false f g = g refl

pub clash : {A : Type 0} {b : Bool} → b ≡ true → b ≡ false → A
clash p q = absurd (subst T (sym p ∙ q) tt)

pub different : {A : Type 0} → ◌≡◌ {A = Bool} true false → A
different e = clash {b = true} refl e

pub holds : (b : Bool) → T b → b ≡ true
holds b t = by-test b (λ e. e) (λ e. absurd (subst T e t))

pub and_left : (a b : Bool) → (a && b) ≡ true → a ≡ true
and_left true b e = refl
and_left false b e = e

pub and_right : (a b : Bool) → (a && b) ≡ true → b ≡ true
and_right true b e = e
and_right false b e = clash e refl

pub or_left : (a b : Bool) → (a || b) ≡ false → a ≡ false
or_left true b e = e
or_left false b e = refl

pub or_right : (a b : Bool) → (a || b) ≡ false → b ≡ false
or_right true b e = clash refl e
or_right false b e = e

-- what a call's contract says of its result, and which value the result is: the definition's call is that value
pub via : {A : Type 0} {r d k : A} → r ≡ d → r ≡ k → d ≡ k
via e m = sym e ∙ m

-- the same of an answer beside what the call left in the tables
pub via_with : {A B : Type 0} {r k : A} {x : B} {d : A × B} → (r, x) ≡ d → r ≡ k → d ≡ (k, x)
via_with {x = x} e m = sym e ∙ ap (λ y. (y, x)) m
