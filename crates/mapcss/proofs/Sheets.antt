-- What the reader reads from a bundle is what the lexical grammar makes of its characters.
use Prim.Native.Nat.{ℕ}
use mathlib.Core.Path.{◌≡◌, refl, sym, ap, subst}
use mathlib.Core.Bool.{Bool}
use mathlib.Core.List.{List, [], ◌∷◌}
use mathlib.Core.Option.{none, some}
use lib.Ieee.{Float}
use Rattle.base.specs.Bytes.{Bytes}
use Rattle.base.specs.Choice.{different}
use Rattle.base.specs.declared.Range.{Range}
use Rattle.base.specs.declared.refusal.Refusal.{Refusal}
use Rattle.bundle.specs.Bundle.{find_of}
use Rattle.cursor.specs.Cursor.{start}
use Rattle.cursor.specs.declared.Cursor.{Cursor}
use Rattle.token.specs.Elim.{on-Step, on_step}
use Rattle.token_kind.specs.declared.LexerError.{LexerError}
use Rattle.token.specs.Step.{step_of}
use Rattle.token.specs.declared.Step.{Step}
use Rattle.token.specs.declared.Step.TheVariants.{End, Took}
use Rattle.token_kind.specs.declared.Token.{Token}
use Rattle.lexical.specs.Lexical.{IsBlank}
use Rattle.lexical.specs.Lexed.{characters_at, Lexed}
use Rattle.lexical.proofs.Soundness.{sound, sound_end}
use Rattle.lexical.proofs.Completeness.{complete, complete_end}
use Rattle.sheet.specs.Digits.{is_whole}
use Rattle.grammar.specs.Accepted.{Reads}
use Rattle.grammar.specs.Grammar.{IsSheet, finish, a_rule, defined, dropped, imported}
use Rattle.grammar.specs.Input.{Next, broken, end, token}
use Rattle.grammar.specs.Reading.{Reading, Colors}
use Rattle.grammar.specs.Stream.{Gives, here, ◌▸◌, Whole, TextOf}
use Rattle.grammar.specs.Token.{Token as Token'}
use Rattle.input.specs.Source.{Spot, spot, source, next_at}
use Rattle.keep.specs.Source.{reading}
use Rattle.input.specs.Text.{placed, text_of, next_of, token_of, place, error_at}
use Rattle.input.specs.declared.Place.{Place}
use Rattle.input.specs.declared.Source.{Source}
use Rattle.parser.specs.Load.{first_text, sheet_at}
use Rattle.mapcss.specs.Sheets.{HasTokens, last, then, HasText, ReadsAs}
use Rattle.std.specs.Prelude.{Option, Some, None, Result, Ok, Err}
use Rattle.base.specs.Option.{on_option, on_option2, on_result}

-- a sheet, whichever way its imports are found
module _ {Text Text' : Bytes → List Token' → Type 0} (countable : Float → Bool) (f : (n : Bytes) (q : List Token') → Text n q → Text' n q) where
  sheet_alike : {d : ℕ} {Γ : Colors} {p : List Token'} {js : Reading} → IsSheet countable Text d Γ p js → IsSheet countable Text' d Γ p js
  sheet_alike finish = finish
  sheet_alike (a_rule r s) = a_rule r (sheet_alike s)
  sheet_alike (defined n c s) = defined n c (sheet_alike s)
  sheet_alike (dropped n t e s) = dropped n t e (sheet_alike s)
  sheet_alike (imported n t s k) = imported n (f n.bytes _ t) (sheet_alike s) (sheet_alike k)

module _ (bundle : Bytes) where
  -- what the reader sees of a step
  abbrev seen : Source → Result Step LexerError → Next Spot Place Refusal
  seen s x =
      on_step (on_step x Err (λ d. Ok (End d)) λ t line character d. Ok (Took (placed s.range.from t) line character d))
      (λ e. broken (error_at s e))
      (λ d. end (spot s d))
      λ t line character d. token (token_of bundle t) (place s.number line character) (spot s d)

  record Stepped (s : Source) (c : Cursor) (t : Token') (e : Spot) : Type 0 where
    pub token : Token
    pub line : ℕ
    pub character : ℕ
    pub behind : Cursor
    pub steps : step_of (text_of bundle s) c ≡ Ok (Took token line character behind)
    pub is : t ≡ token_of bundle (placed s.range.from token)
    pub at : e ≡ spot s behind

  next_steps : (s : Source) (c : Cursor) (t : Token') (o : Place) (e : Spot) → next_at bundle s c ≡ token t o e → Stepped s c t e
  unfolding next_at next_of on-Step on_result
  next_steps s c t o e q = go (step_of (text_of bundle s) c) refl q
    where
      go : (x : Result Step LexerError) → step_of (text_of bundle s) c ≡ x → seen s x ≡ token t o e → Stepped s c t e
      go (Err r) p q = different cc
      go (Ok (End f)) p q = different cc
      go (Ok (Took u l k f)) p q = record { token = u; line = l; character = k; behind = f; steps = p; is = cc; at = cc }

  next_ends : (s : Source) (c : Cursor) (f : Spot) → next_at bundle s c ≡ end f → (d : Cursor) × (step_of (text_of bundle s) c ≡ Ok (End d))
  unfolding next_at next_of on-Step on_result
  next_ends s c f q = go (step_of (text_of bundle s) c) refl q
    where
      go : (x : Result Step LexerError) → step_of (text_of bundle s) c ≡ x → seen s x ≡ end f → (d : Cursor) × (step_of (text_of bundle s) c ≡ Ok (End d))
      go (Err r) p q = different cc
      go (Ok (End d)) p q = (d, p)
      go (Ok (Took u l k d)) p q = different cc

  gives_tokens : {c e f : Spot} {p : List Token'} → Gives (reading bundle) c p e → next_at bundle e.source e.cursor ≡ end f → HasTokens bundle c.source c.cursor.at p
  gives_tokens {c} {f = f} here q =
      let x = next_ends c.source c.cursor f q in
      last (sound_end (text_of bundle c.source) c.cursor x.0 x.1)
  gives_tokens {c} {f = f} (◌▸◌ {d = d} {o = o} {t = t} {p = p} n g) q =
      let x = next_steps c.source c.cursor t o d n in
      let l = sound (text_of bundle c.source) c.cursor x.behind x.token x.line x.character x.steps in
      let r : HasTokens bundle c.source x.behind.at p =
      subst (λ (y : Spot). HasTokens bundle y.source y.cursor.at p) x.at (gives_tokens {f = f} g q) in
      subst (λ t. HasTokens bundle c.source c.cursor.at (t ∷ p)) (sym x.is) (then l r)

  tokens_whole : (s : Source) (c : Cursor) {at : ℕ} {p : List Token'} → c.at ≡ at → HasTokens bundle s at p → Whole (reading bundle) (spot s c) p
  unfolding next_at next_of on-Step on_result
  tokens_whole s c e (last b) =
      let x = complete_end (text_of bundle s) c (subst (λ at. IsBlank (characters_at (text_of bundle s) at) []) (sym e) b) in
      (spot s x.0, (spot s c, (here, ap (seen s) x.1)))
  tokens_whole s c e (then {to = to} {t = t} l r) =
      let x = complete (text_of bundle s) c t to (subst (λ at. Lexed (text_of bundle s) at t to) (sym e) l) in
      let d = x.1.1.0 in
      let w = tokens_whole s d x.1.1.1.1 r in
      (w.0, (w.1.0, (ap (seen s) x.1.1.1.0 ▸ w.1.1.0, w.1.1.1)))

  text_tokens : (n : Bytes) (q : List Token') → TextOf (reading bundle) n q → HasText bundle n q
  unfolding on_option
  text_tokens n q (c, (e, (f, (d, (g, h))))) = go (find_of bundle n) refl e
    where
      go : (x : Option (ℕ × Range)) → find_of bundle n ≡ x → on_option2 x none (λ k r. some (spot (source k r) start)) ≡ some c → HasText bundle n q
      go None m e = different cc
      go (Some (k, r)) m e =
          let z : c ≡ spot (source k r) start = cc in
          (k, (r, (m, subst (λ (y : Spot). HasTokens bundle y.source y.cursor.at q) z (gives_tokens {f = f} g h))))

  tokens_text : (n : Bytes) (q : List Token') → HasText bundle n q → TextOf (reading bundle) n q
  unfolding on_option
  tokens_text n q (k, (r, (m, h))) = (
    spot (source k r) start,
    (ap (λ x. on_option2 x none (λ k r. some (spot (source k r) start))) m, tokens_whole (source k r) start refl h),
  )

  pub reads_as : (js : Reading) → Reads (reading bundle) (sheet_at bundle) js → ReadsAs bundle js
  reads_as js (p, ((f, (e, (g, h))), s)) = (p, (gives_tokens {f = f} g h, sheet_alike is_whole text_tokens s))

  pub as_reads : (js : Reading) → ReadsAs bundle js → Reads (reading bundle) (sheet_at bundle) js
  as_reads js (p, (h, s)) = (p, (tokens_whole (source 0 (first_text bundle)) start refl h, sheet_alike is_whole tokens_text s))
