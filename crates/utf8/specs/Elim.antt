-- Eliminators of the enums of utf8, with their laws.
use Rattle.std.specs.Prelude.{◌≡◌, ℕ}
use Rattle.std.proofs.Common.{sym, ap, ◌∙◌}
use Rattle.utf8.specs.declared.Char.{Char}
use Rattle.utf8.specs.declared.Char.TheVariants.{Bad, End, Code}

unfoldable pub on-Char : {B : Type 0} → Char → B → B → (ℕ → ℕ → B) → B
on-Char Bad k0 k1 k2 = k0
on-Char End k0 k1 k2 = k1
on-Char (Code x0 x1) k0 k1 k2 = k2 x0 x1

unfoldable pub with-Char : {T B : Type 0} → Char × T → (T → B) → (T → B) → (ℕ → ℕ → T → B) → B
with-Char x k0 k1 k2 = on-Char x.0 (k0 x.1) (k1 x.1) (λ x0 x1. k2 x0 x1 x.1)

pub Char-Bad : {B : Type 0} (x : Char) (k0 : B) (k1 : B) (k2 : ℕ → ℕ → B) {y : B} → x ≡ Bad → y ≡ k0 → y ≡ on-Char x k0 k1 k2
unfolding on-Char
Char-Bad x k0 k1 k2 e h = h ∙ sym (ap (λ x. on-Char x k0 k1 k2) e)

pub Char-End : {B : Type 0} (x : Char) (k0 : B) (k1 : B) (k2 : ℕ → ℕ → B) {y : B} → x ≡ End → y ≡ k1 → y ≡ on-Char x k0 k1 k2
unfolding on-Char
Char-End x k0 k1 k2 e h = h ∙ sym (ap (λ x. on-Char x k0 k1 k2) e)

pub Char-Code :
    {B : Type 0} (x : Char) (k0 : B) (k1 : B) (k2 : ℕ → ℕ → B) {x0 : ℕ} {x1 : ℕ} {y : B}
    → x ≡ Code x0 x1
    → y ≡ k2 x0 x1
    → y ≡ on-Char x k0 k1 k2
unfolding on-Char
Char-Code x k0 k1 k2 e h = h ∙ sym (ap (λ x. on-Char x k0 k1 k2) e)

pub Char-Bad-with :
    {T B : Type 0} (x : Char × T) (k0 : T → B) (k1 : T → B) (k2 : ℕ → ℕ → T → B) {u : T} {y : B}
    → x ≡ (Bad, u)
    → y ≡ k0 u
    → y ≡ with-Char x k0 k1 k2
unfolding on-Char with-Char
Char-Bad-with x k0 k1 k2 e h = h ∙ sym (ap (λ x. with-Char x k0 k1 k2) e)

pub Char-End-with :
    {T B : Type 0} (x : Char × T) (k0 : T → B) (k1 : T → B) (k2 : ℕ → ℕ → T → B) {u : T} {y : B}
    → x ≡ (End, u)
    → y ≡ k1 u
    → y ≡ with-Char x k0 k1 k2
unfolding on-Char with-Char
Char-End-with x k0 k1 k2 e h = h ∙ sym (ap (λ x. with-Char x k0 k1 k2) e)

pub Char-Code-with :
    {T B : Type 0} (x : Char × T) (k0 : T → B) (k1 : T → B) (k2 : ℕ → ℕ → T → B) {x0 : ℕ} {x1 : ℕ} {u : T} {y : B}
    → x ≡ (Code x0 x1, u)
    → y ≡ k2 x0 x1 u
    → y ≡ with-Char x k0 k1 k2
unfolding on-Char with-Char
Char-Code-with x k0 k1 k2 e h = h ∙ sym (ap (λ x. with-Char x k0 k1 k2) e)
