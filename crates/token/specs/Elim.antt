-- Eliminators of the enums of token, with their laws.
use Rattle.std.specs.Prelude.{◌≡◌, ℕ, Result}
use Rattle.std.proofs.Common.{sym, ap, ◌∙◌}
use Rattle.base.specs.Option.{on_result}
use Rattle.token.specs.declared.Step.{Step}
use Rattle.token_kind.specs.declared.LexerError.{LexerError}
use Rattle.token_kind.specs.declared.Token.{Token}
use Rattle.token.specs.declared.Step.TheVariants.{End, Took}
use Rattle.cursor.specs.declared.Cursor.{Cursor}

unfoldable pub on-Step : {B : Type 0} → Step → (Cursor → B) → (Token → ℕ → ℕ → Cursor → B) → B
on-Step (End x0) k0 k1 = k0 x0
on-Step (Took x0 x1 x2 x3) k0 k1 = k1 x0 x1 x2 x3

pub Step-End : {B : Type 0} (x : Step) (k0 : Cursor → B) (k1 : Token → ℕ → ℕ → Cursor → B) {x0 : Cursor} {y : B} → x ≡ End x0 → y ≡ k0 x0 → y ≡ on-Step x k0 k1
unfolding on-Step
Step-End x k0 k1 e h = h ∙ sym (ap (λ x. on-Step x k0 k1) e)

pub Step-Took : {B : Type 0} (x : Step) (k0 : Cursor → B) (k1 : Token → ℕ → ℕ → Cursor → B) {x0 : Token} {x1 : ℕ} {x2 : ℕ} {x3 : Cursor} {y : B} → x ≡ Took x0 x1 x2 x3 → y ≡ k1 x0 x1 x2 x3 → y ≡ on-Step x k0 k1
unfolding on-Step
Step-Took x k0 k1 e h = h ∙ sym (ap (λ x. on-Step x k0 k1) e)

-- an error of the tokenizer, or one of the two
abbrev pub on_step : {B : Type 0} → Result Step LexerError → (LexerError → B) → (Cursor → B) → (Token → ℕ → ℕ → Cursor → B) → B
on_step x g k0 k1 = on_result x g (λ y. on-Step y k0 k1)
