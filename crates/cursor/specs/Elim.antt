-- Eliminators of the enums of cursor, with their laws.
use Rattle.std.specs.Prelude.{◌≡◌, ℕ}
use Rattle.std.proofs.Common.{sym, ap, ◌∙◌}
use Rattle.cursor.specs.declared.Cursor.{Cursor}
use Rattle.cursor.specs.declared.Significant.{Significant}
use Rattle.cursor.specs.declared.Significant.TheVariants.{Ended, Found}

unfoldable pub on-Significant : {B : Type 0} → Significant → (Cursor → B) → (ℕ → ℕ → Cursor → B) → B
on-Significant (Ended x0) k0 k1 = k0 x0
on-Significant (Found x0 x1 x2) k0 k1 = k1 x0 x1 x2

pub Significant-Ended : {B : Type 0} (x : Significant) (k0 : Cursor → B) (k1 : ℕ → ℕ → Cursor → B) {x0 : Cursor} {y : B} → x ≡ Ended x0 → y ≡ k0 x0 → y ≡ on-Significant x k0 k1
unfolding on-Significant
Significant-Ended x k0 k1 e h = h ∙ sym (ap (λ x. on-Significant x k0 k1) e)

pub Significant-Found : {B : Type 0} (x : Significant) (k0 : Cursor → B) (k1 : ℕ → ℕ → Cursor → B) {x0 : ℕ} {x1 : ℕ} {x2 : Cursor} {y : B} → x ≡ Found x0 x1 x2 → y ≡ k1 x0 x1 x2 → y ≡ on-Significant x k0 k1
unfolding on-Significant
Significant-Found x k0 k1 e h = h ∙ sym (ap (λ x. on-Significant x k0 k1) e)
