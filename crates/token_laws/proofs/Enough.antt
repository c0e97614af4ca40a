-- The number of steps that bounds a text's tokens does not matter.
use Prim.Native.Nat.{ℕ, zero, suc, ◌-◌, ◌<◌}
use native.Mathlib.Omega.{arith}
use mathlib.Core.Path.{◌≡◌, refl, ap}
use mathlib.Core.List.{[]}
use lib.ListN.{length}
use Rattle.base.specs.Bytes.{Bytes}
use Rattle.cursor.specs.declared.Cursor.{Cursor}
use Rattle.std.specs.Prelude.{Result, Ok, Err}
use Rattle.base.specs.Option.{on_result}
use Rattle.token.specs.Elim.{on-Step, on_step}
use Rattle.token_kind.specs.declared.LexerError.{LexerError}
use Rattle.token.specs.Step.{step_of}
use Rattle.token_laws.specs.Tokens.{wrong, listed, put, token_at, tokens_from}
use Rattle.token.specs.declared.Step.{Step}
use Rattle.token.specs.declared.Step.TheVariants.{End, Took}
use Rattle.token_laws.proofs.Consuming.{steps_consume}

-- as many steps as bytes are left are enough
pub steps_enough :
    (s : Bytes) (n m : ℕ) (c : Cursor)
    → length s - c.at < n
    → length s - c.at < m
    → tokens_from n s c ≡ tokens_from m s c
unfolding tokens_from on-Step on_result
steps_enough s zero m c p q = absurd (omega arith)
steps_enough s (suc n) zero c p q = absurd (omega arith)
steps_enough s (suc n) (suc m) c p q = go (λ d f g. steps_enough s n m d f g) (step_of s c) refl
  where
    go :
        ((d : Cursor) → length s - d.at < n → length s - d.at < m → tokens_from n s d ≡ tokens_from m s d)
        → (x : Result Step LexerError)
        → step_of s c ≡ x
        → on_step x (λ e. wrong e.reason e.line e.character) (λ d. listed [] d.line d.character) (λ t l k d. put (token_at t l k) (tokens_from n s d))
        ≡ on_step x (λ e. wrong e.reason e.line e.character) (λ d. listed [] d.line d.character) (λ t l k d. put (token_at t l k) (tokens_from m s d))
    go h (Err f) e = refl
    go h (Ok (End d)) e = refl
    go h (Ok (Took t l k d)) e =
        let w = steps_consume s c d t l k e in
        let a = w.behind in
        let b = w.moves in
        let z = w.in_text in
        ap (put (token_at t l k)) (h d (omega arith) (omega arith))

-- so the tokens of a text are those of its first step, then those of what is left
pub tokens_next :
    (s : Bytes) (c : Cursor)
    → tokens_from (suc (length s)) s c
    ≡ on_step (step_of s c) (λ e. wrong e.reason e.line e.character) (λ d. listed [] d.line d.character) (λ t l k d. put (token_at t l k) (tokens_from (suc (length s)) s d))
unfolding tokens_from
tokens_next s c = steps_enough s (suc (length s)) (suc (suc (length s))) c (omega arith) (omega arith)
