-- The names of tokens are ranges of the bundle, and their colours have three bytes.
use Prim.Native.Nat.{ℕ, ◌+◌, ◌-◌, ◌<◌, ◌≤◌}
use native.Mathlib.Omega.{arith}
use mathlib.Core.Path.{◌≡◌, refl, sym, subst}
use mathlib.Core.List.{[], ◌∷◌}
use lib.ListN.{length, drop, length-take, length-drop}
use Rattle.base.specs.Bytes.{Bytes, within}
use Rattle.base.specs.Choice.{different}
use Rattle.base.specs.declared.Range.{Range}
use Rattle.color.specs.declared.Color.{Color as Rgb}
use Rattle.cursor.specs.declared.Cursor.{Cursor}
use Rattle.token_laws.specs.Claims.{Between, Inside}
use Rattle.token.specs.Elim.{on-Step, on_step}
use Rattle.token_kind.specs.declared.LexerError.{LexerError}
use Rattle.std.specs.Prelude.{Result, Ok, Err}
use Rattle.base.specs.Option.{on_result}
use Rattle.token.specs.Step.{step_of}
use Rattle.token.specs.declared.Step.{Step}
use Rattle.token.specs.declared.Step.TheVariants.{End, Took}
use Rattle.token_kind.specs.declared.Token.{Token}
use Rattle.token_kind.specs.declared.Token.TheVariants.{Color}
use Rattle.token_laws.proofs.Consuming.{steps_consume}
use Rattle.token_laws.proofs.Shades.{colors_small}
use Rattle.grammar.specs.Alike.{NamesGenuine, ColorsSmall, TokensGenuine}
use Rattle.grammar.specs.Input.{broken, end, token, Store}
use Rattle.grammar.specs.Token.{Name as Name', Token as Token', import, identifier, string, color_ref, number, zoom_range, color, sign}
use Rattle.input.specs.Text.{Small, shifted, placed, text_of, next_of, token_of, name_in, range_of, place, error_at}
use Rattle.input.specs.Source.{Spot, spot, next_at, input_of}
use Rattle.input.specs.declared.Place.{Place}
use Rattle.input.specs.declared.Source.{Source}
use Rattle.input.proofs.TokenLaws.{sign_token_read, sign_token_placed, by_token}

-- a name in one place of the bundle, with the bytes that stand there
pub record Genuine (bundle : Bytes) (a : Name') : Type 0 where
  pub spelled : a.bytes ≡ within (range_of a) bundle
  pub single : a.ranges ≡ range_of a ∷ []
  pub ordered : (range_of a).from ≤ (range_of a).to
  pub ends : (range_of a).to ≤ length bundle

module _ (bundle : Bytes) where
  -- what a token holds
  abbrev pub Holds : Token' → Type 0
  Holds (import a) = Genuine bundle a
  Holds (identifier a) = Genuine bundle a
  Holds (string a) = Genuine bundle a
  Holds (color_ref a) = Genuine bundle a
  Holds (number x) = Unit {0}
  Holds (zoom_range x y) = Unit {0}
  Holds (color x) = Small x
  Holds (sign g) = Unit {0}

  name_in_lem : (from a b : ℕ) (r : Range) → Between a b r → from + b ≤ length bundle → Genuine bundle (name_in bundle (shifted from r))
  name_in_lem from a b r i h =
      let p = i.ordered in
      let q = i.ends in
      record { spelled = refl; single = refl; ordered = omega arith; ends = omega arith }

  token_holds :
      (from a b : ℕ) (u : Token)
      → Inside a b u
      → ((x : Rgb) → u ≡ Color x → Small x)
      → from + b ≤ length bundle
      → Holds (token_of bundle (placed from u))
  unfolding token_of
  token_holds from a b =
      by_token
      (λ u. Inside a b u → ((x : Rgb) → u ≡ Color x → Small x) → from + b ≤ length bundle → Holds (token_of bundle (placed from u)))
      (λ r i s h. name_in_lem from a b r i h) (λ r i s h. name_in_lem from a b r i h) (λ r i s h. name_in_lem from a b r i h)
      (λ x i s h. tt) (λ x y i s h. tt)
      (λ r i s h. name_in_lem from a b r i h) (λ x i s h. s x refl)
      (λ g i s h. subst (λ u. Holds (token_of bundle u)) (sign_token_placed from g) (subst Holds (sym (sign_token_read bundle g)) tt))

  -- a place of a text that is not empty is a place of the bundle
  in_bundle : (s : Source) (k : ℕ) → 0 < k → k ≤ length (text_of bundle s) → s.range.from + k ≤ length bundle
  unfolding text_of
  in_bundle s k h g =
      let a = s.range.from in
      let l = length-take (s.range.to - a) (drop a bundle) in
      let m = length-drop a bundle in
      omega (arith, l, m)

  pub next_holds :
      (s : Source) (c : Cursor) (q : Spot) (t : Token') (o : Place)
      → next_at bundle s c ≡ token t o q
      → Holds t
  unfolding next_at next_of on-Step on_result
  next_holds s c q t o e = go (step_of (text_of bundle s) c) refl e
    where
      go :
          (x : Result Step LexerError)
          → step_of (text_of bundle s) c ≡ x
          → on_step (on_step x Err (λ d. Ok (End d)) (λ t line character d. Ok (Took (placed s.range.from t) line character d)))
          (λ e. broken (error_at s e))
          (λ d. end (spot s d))
          (λ t line character d. token (token_of bundle t) (place s.number line character) (spot s d))
          ≡ token t o q
          → Holds t
      go (Err r) h e = different cc
      go (Ok (End f)) h e = different cc
      go (Ok (Took u l k f)) h e =
          let p : token_of bundle (placed s.range.from u) ≡ t = cc in
          let w = steps_consume (text_of bundle s) c f u l k h in
          let y = w.moves in
          subst Holds p
          (token_holds s.range.from w.place f.at u w.inside
          (λ x q. colors_small (text_of bundle s) c f x l k (subst (λ u. step_of (text_of bundle s) c ≡ Ok (Took u l k f)) q h))
          (in_bundle s f.at (omega arith) w.in_text))

  module _ {T : Type 0} (st : Store T) where
    pub names_genuine : NamesGenuine (Genuine bundle) Small (input_of bundle st)
    names_genuine c d o n e = next_holds c.source c.cursor d (color_ref n) o e

    pub input_small : ColorsSmall (Genuine bundle) Small (input_of bundle st)
    input_small c d o x e = next_holds c.source c.cursor d (color x) o e

    pub tokens_genuine : TokensGenuine (Genuine bundle) Small (input_of bundle st)
    tokens_genuine = (names_genuine, input_small)
