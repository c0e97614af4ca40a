-- Each token consumes at least a byte of its text, so the fuel is enough.
use Prim.Native.Nat.{ℕ, suc, ◌<◌}
use native.Mathlib.Omega.{arith}
use mathlib.Core.Path.{◌≡◌, refl, subst}
use mathlib.Core.List.{List}
use lib.ListN.{length}
use Rattle.base.specs.Bytes.{Bytes}
use Rattle.base.specs.Choice.{different}
use Rattle.base.specs.declared.refusal.Refusal.{Refusal}
use Rattle.cursor.specs.declared.Cursor.{Cursor}
use Rattle.token.specs.Elim.{on-Step, on_step}
use Rattle.token_kind.specs.declared.LexerError.{LexerError}
use Rattle.token.specs.Step.{step_of}
use Rattle.token.specs.declared.Step.{Step}
use Rattle.token.specs.declared.Step.TheVariants.{End, Took}
use Rattle.token_kind.specs.declared.Token.{Token}
use Rattle.token_laws.proofs.Consuming.{steps_consume}
use Rattle.grammar.specs.Token.{Token as Token'}
use Rattle.grammar.specs.Input.{broken, end, token, Store}
use Rattle.grammar.specs.Stream.{Gives, here, ◌▸◌, Fueled}
use Rattle.input.specs.Source.{Spot, spot, next_at, input_of}
use Rattle.input.specs.Text.{placed, text_of, next_of, token_of, place, refusal_at, reached_at, error_at, left, mandatory_of}
use Rattle.input.specs.declared.Place.{Place}
use Rattle.input.specs.declared.Source.{Source}
use Rattle.std.specs.Prelude.{Result, Ok, Err}
use Rattle.base.specs.Option.{on_result}
use Rattle.base.proofs.Options.{ok3_third}

module _ (bundle : Bytes) where
  pub next_moves :
      (s : Source) (c d : Cursor) (t : Token) (line character : ℕ)
      → next_of bundle s c ≡ Ok (Took t line character d)
      → left bundle s d < left bundle s c
  unfolding next_of on-Step on_result left
  next_moves s c d t line character e = go (step_of (text_of bundle s) c) refl e
    where
      go :
          (x : Result Step LexerError)
          → step_of (text_of bundle s) c ≡ x
          → ◌≡◌ {A = Result Step LexerError}
          (on_step x Err (λ d. Ok (End d)) (λ t line character d. Ok (Took (placed s.range.from t) line character d)))
          (Ok (Took t line character d))
          → left bundle s d < left bundle s c
      go (Err r) q e = different cc
      go (Ok (End f)) q e = different cc
      go (Ok (Took u l k f)) q e =
          let p : f ≡ d = cc in
          let w = steps_consume (text_of bundle s) c d u l k (subst (λ f. step_of (text_of bundle s) c ≡ Ok (Took u l k f)) p q) in
          let a = w.behind in
          let b = w.moves in
          let z = w.in_text in
          omega arith

  pub mandatory_moves :
      (s : Source) (c d : Cursor) (t : Token) (o : Place)
      → mandatory_of bundle s c ≡ Ok (t, o, d)
      → left bundle s d < left bundle s c
  unfolding mandatory_of on-Step on_result
  mandatory_moves s c d t o e = go (next_of bundle s c) refl e
    where
      go :
          (x : Result Step LexerError)
          → next_of bundle s c ≡ x
          → ◌≡◌ {A = Result (Token × Place × Cursor) Refusal}
          (on_step x
          (λ e. Err (error_at s e))
          (λ d. Err (refusal_at 4 1 (reached_at s d)))
          (λ t line character d. Ok (t, place s.number line character, d)))
          (Ok (t, o, d))
          → left bundle s d < left bundle s c
      go (Err r) q e = different cc
      go (Ok (End f)) q e = different cc
      go (Ok (Took u l k f)) q e =
          let p : f ≡ d = ok3_third e in
          next_moves s c d u l k (subst (λ f. next_of bundle s c ≡ Ok (Took u l k f)) p q)

  -- a token of a spot leads to a spot of the same text, with less of it left
  next_falls :
      (p q : Spot) (t : Token') (o : Place)
      → next_at bundle p.source p.cursor ≡ token t o q
      → left bundle q.source q.cursor < left bundle p.source p.cursor
  unfolding next_at on-Step on_result
  next_falls p q t o e = go (next_of bundle p.source p.cursor) refl e
    where
      go :
          (x : Result Step LexerError)
          → next_of bundle p.source p.cursor ≡ x
          → on_step x
          (λ e. broken (error_at p.source e))
          (λ d. end (spot p.source d))
          (λ t line character d. token (token_of bundle t) (place p.source.number line character) (spot p.source d))
          ≡ token t o q
          → left bundle q.source q.cursor < left bundle p.source p.cursor
      go (Err r) h e = different cc
      go (Ok (End f)) h e = different cc
      go (Ok (Took u l k f)) h e =
          let m : spot p.source f ≡ q = cc in
          subst (λ q. left bundle q.source q.cursor < left bundle p.source p.cursor) m
          (next_moves p.source p.cursor f u l k h)

  pub fueled : {T : Type 0} (st : Store T) → Fueled (input_of bundle st)
  fueled {T} st c d p h = go h
    where
      go : {c d : Spot} {p : List Token'} → Gives (input_of bundle st) c p d → length p < suc (left bundle c.source c.cursor)
      go here = omega arith
      go (◌▸◌ {c = c} {d = d} {o = o} {t = t} e h) =
          let l = next_falls c d t o e in
          let m = go h in
          omega arith
