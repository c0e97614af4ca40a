-- The small readers answer as the grammar's reader goes on, whatever the tables are; and each takes a byte at least.
use Prim.Native.Nat.{◌<◌}
use native.Mathlib.Omega.{arith}
use mathlib.Core.Path.{◌≡◌, refl, ap, subst, ◌∙◌}
use mathlib.Core.Bool.{Bool, true, false, cond}
use lib.Ieee.{Float}
use Rattle.base.specs.Bytes.{Bytes}
use Rattle.base.specs.Choice.{different}
use Rattle.base.specs.declared.Range.{Range}
use Rattle.base.specs.declared.refusal.Refusal.{Refusal}
use Rattle.cursor.specs.declared.Cursor.{Cursor}
use Rattle.token.specs.Elim.{on-Step, on_step}
use Rattle.token_kind.specs.declared.LexerError.{LexerError}
use Rattle.token.specs.declared.Step.{Step}
use Rattle.token.specs.declared.Step.TheVariants.{End, Took}
use Rattle.token_kind.specs.declared.Token.{Token}
use Rattle.grammar.specs.Token.{Name, joined, Sign, Token as Token', identifier, number, colon}
use Rattle.grammar.specs.View.{is_sign, on_identifier, on_number}
use Rattle.grammar.proofs.ViewLaws.{identifier_holds, number_holds}
use Rattle.grammar.specs.Input.{broken, end, token, Store, Answer, refused, on_next}
use Rattle.grammar.specs.Reader.{read_mandatory_token, unexpected_token, expect_simple_token, read_identifier, read_key}
use Rattle.table.specs.declared.Name.{Name as Key'}
use Rattle.table.specs.declared.Name.TheVariants.{Plain, Joined}
use Rattle.input.specs.Source.{Spot, spot, next_at, input_of}
use Rattle.input.specs.Text.{next_of, name_in, name_of, range_of, token_of, place, refusal_at, reached_at, error_at, left, mandatory_of, expect_of, word_of, figure_of, joined_of, key_of}
use Rattle.input.specs.declared.Place.{Place}
use Rattle.input.specs.declared.Source.{Source}
use Rattle.input.proofs.Fuel.{mandatory_moves}
use Rattle.input.proofs.TokenLaws.{word_named}
use Rattle.std.specs.Prelude.{Result, Ok, Err}
use Rattle.base.specs.Option.{on_result, on_result2, on_result3, on_result4}
use Rattle.base.proofs.Options.{ok2_second, ok4_fourth}

module _ (bundle : Bytes) {T : Type 0} (st : Store T) {A : Type 0} (s : Source) where
  pub mandatory_is :
      (c : Cursor) (τ : T) (k : Token' → Place → Spot → Answer A Spot T Refusal)
      → read_mandatory_token (input_of bundle st) (spot s c) τ k
      ≡ on_result3 (mandatory_of bundle s c) (λ e. refused e τ) (λ t o d. k (token_of bundle t) o (spot s d))
  unfolding mandatory_of next_at on-Step on_next on_result
  mandatory_is c τ k = go (next_of bundle s c)
    where
      go :
          (x : Result Step LexerError)
          → on_next
          (on_step x
          (λ e. broken (error_at s e))
          (λ d. end (spot s d))
          (λ t line character d. token (token_of bundle t) (place s.number line character) (spot s d)))
          (λ r. refused r τ)
          (λ d. refused (refusal_at 4 1 (reached_at d.source d.cursor)) τ)
          k
          ≡ on_result3
          (on_step x
          (λ e. Err (error_at s e))
          (λ d. Err (refusal_at 4 1 (reached_at s d)))
          (λ t line character d. Ok (t, place s.number line character, d)))
          (λ e. refused e τ)
          (λ t o d. k (token_of bundle t) o (spot s d))
      go (Err e) = refl
      go (Ok (End d)) = refl
      go (Ok (Took t l n d)) = refl

  pub expect_is :
      (g : Sign) (c : Cursor) (τ : T) (k : Spot → Answer A Spot T Refusal)
      → expect_simple_token (input_of bundle st) g (spot s c) τ k
      ≡ on_result (expect_of bundle g s c) (λ e. refused e τ) (λ d. k (spot s d))
  unfolding expect_of on_result
  expect_is g c τ k = mandatory_is c τ _ ∙ go (mandatory_of bundle s c)
    where
      by_sign :
          (b : Bool) (o : Place) (d : Cursor)
          → cond b (k (spot s d)) (refused (refusal_at 4 4 o) τ)
          ≡ on_result (cond b (Ok d) (Err (refusal_at 4 4 o))) (λ e. refused e τ) (λ d. k (spot s d))
      by_sign true o d = refl
      by_sign false o d = refl

      go :
          (m : Result (Token × Place × Cursor) Refusal)
          → on_result3 m (λ e. refused e τ) (λ t o d. cond (is_sign g (token_of bundle t)) (k (spot s d)) (refused (refusal_at 4 4 o) τ))
          ≡ on_result
          (on_result3 m Err λ t o d. cond (is_sign g (token_of bundle t)) (Ok d) (Err (refusal_at 4 4 o)))
          (λ e. refused e τ)
          (λ d. k (spot s d))
      go (Err e) = refl
      go (Ok (t, o, d)) = by_sign (is_sign g (token_of bundle t)) o d

  pub word_is :
      (c : Cursor) (τ : T) (k : Name → Spot → Answer A Spot T Refusal)
      → read_identifier (input_of bundle st) (spot s c) τ k
      ≡ on_result2 (word_of bundle s c) (λ e. refused e τ) (λ a d. k (name_in bundle a) (spot s d))
  unfolding word_of on_result on_identifier
  word_is c τ k = mandatory_is c τ _ ∙ go (mandatory_of bundle s c)
    where
      by_token :
          (t : Token') (o : Place) (d : Cursor)
          → ((a : Name) → t ≡ identifier a → a ≡ name_in bundle (range_of a))
          → on_identifier t (λ a. k a (spot s d)) (refused (refusal_at 4 3 o) τ)
          ≡ on_result2
          (on_identifier t (λ a. Ok (range_of a, d)) (Err (refusal_at 4 3 o)))
          (λ e. refused e τ)
          (λ a d. k (name_in bundle a) (spot s d))
      by_token (identifier x) o d n = ap (λ a. k a (spot s d)) (n x refl)
      by_token t o d n = refl

      go :
          (m : Result (Token × Place × Cursor) Refusal)
          → on_result3 m (λ e. refused e τ) (λ t o d. on_identifier (token_of bundle t) (λ a. k a (spot s d)) (refused (refusal_at 4 3 o) τ))
          ≡ on_result2
          (on_result3 m Err λ t o d. on_identifier (token_of bundle t) (λ a. Ok (range_of a, d)) (Err (refusal_at 4 3 o)))
          (λ e. refused e τ)
          (λ a d. k (name_in bundle a) (spot s d))
      go (Err e) = refl
      go (Ok (t, o, d)) = by_token (token_of bundle t) o d (word_named bundle t)

  pub figure_is :
      (c : Cursor) (τ : T) (k : Float → Spot → Answer A Spot T Refusal)
      → read_mandatory_token (input_of bundle st) (spot s c) τ (λ t o d. on_number t (λ x. k x d) (unexpected_token (input_of bundle st) o τ))
      ≡ on_result2 (figure_of bundle s c) (λ e. refused e τ) (λ x d. k x (spot s d))
  unfolding figure_of on_result on_number
  figure_is c τ k = mandatory_is c τ _ ∙ go (mandatory_of bundle s c)
    where
      by_token :
          (t : Token') (o : Place) (d : Cursor)
          → on_number t (λ x. k x (spot s d)) (refused (refusal_at 4 3 o) τ)
          ≡ on_result2 (on_number t (λ x. Ok (x, d)) (Err (refusal_at 4 3 o))) (λ e. refused e τ) (λ x d. k x (spot s d))
      by_token (number x) o d = refl
      by_token t o d = refl

      go :
          (m : Result (Token × Place × Cursor) Refusal)
          → on_result3 m (λ e. refused e τ) (λ t o d. on_number (token_of bundle t) (λ x. k x (spot s d)) (refused (refusal_at 4 3 o) τ))
          ≡ on_result2
          (on_result3 m Err λ t o d. on_number (token_of bundle t) (λ x. Ok (x, d)) (Err (refusal_at 4 3 o)))
          (λ e. refused e τ)
          (λ x d. k x (spot s d))
      go (Err e) = refl
      go (Ok (t, o, d)) = by_token (token_of bundle t) o d

  module _ (a : Range) (τ : T) (k : Name → T → Token' → Place → Spot → Answer A Spot T Refusal) where
    joined_is :
        (c : Cursor)
        → read_identifier (input_of bundle st) (spot s c) τ
        (λ b e. read_mandatory_token (input_of bundle st) e τ λ t o f. k (joined (name_in bundle a) b) τ t o f)
        ≡ on_result4 (joined_of bundle s a c) (λ e. refused e τ) (λ key t o d. k (name_of bundle key) τ (token_of bundle t) o (spot s d))
    unfolding joined_of on_result
    joined_is c = word_is c τ _ ∙ go (word_of bundle s c)
      where
        behind :
            (b : Range) (m : Result (Token × Place × Cursor) Refusal)
            → on_result3 m (λ e. refused e τ) (λ t o d. k (name_of bundle (Joined a b)) τ (token_of bundle t) o (spot s d))
            ≡ on_result4
            (on_result3 m Err λ t o f. Ok (Joined a b, t, o, f))
            (λ e. refused e τ)
            (λ key t o d. k (name_of bundle key) τ (token_of bundle t) o (spot s d))
        behind b (Err e) = refl
        behind b (Ok (t, o, d)) = refl

        go :
            (w : Result (Range × Cursor) Refusal)
            → on_result2 w (λ e. refused e τ)
            (λ b d. read_mandatory_token (input_of bundle st) (spot s d) τ λ t o f. k (name_of bundle (Joined a b)) τ t o f)
            ≡ on_result4
            (on_result2 w Err λ b d. on_result3 (mandatory_of bundle s d) Err λ t o f. Ok (Joined a b, t, o, f))
            (λ e. refused e τ)
            (λ key t o d. k (name_of bundle key) τ (token_of bundle t) o (spot s d))
        go (Err e) = refl
        go (Ok (b, d)) = mandatory_is d τ _ ∙ behind b (mandatory_of bundle s d)

    pub key_is :
        (c : Cursor)
        → read_key (input_of bundle st) (name_in bundle a) (spot s c) τ k
        ≡ on_result4 (key_of bundle s a c) (λ e. refused e τ) (λ key t o d. k (name_of bundle key) τ (token_of bundle t) o (spot s d))
    unfolding key_of on_result
    key_is c = mandatory_is c τ _ ∙ go (mandatory_of bundle s c)
      where
        by_sign :
            (b : Bool) (t : Token) (o : Place) (d : Cursor)
            → cond b
            (read_identifier (input_of bundle st) (spot s d) τ
            (λ b e. read_mandatory_token (input_of bundle st) e τ λ t o f. k (joined (name_in bundle a) b) τ t o f))
            (k (name_in bundle a) τ (token_of bundle t) o (spot s d))
            ≡ on_result4
            (cond b (joined_of bundle s a d) (Ok (Plain a, t, o, d)))
            (λ e. refused e τ)
            (λ key t o d. k (name_of bundle key) τ (token_of bundle t) o (spot s d))
        by_sign true t o d = joined_is d
        by_sign false t o d = refl

        go :
            (m : Result (Token × Place × Cursor) Refusal)
            → on_result3 m (λ e. refused e τ)
            (λ t o d. cond (is_sign colon (token_of bundle t))
            (read_identifier (input_of bundle st) (spot s d) τ
            (λ b e. read_mandatory_token (input_of bundle st) e τ λ t o f. k (joined (name_in bundle a) b) τ t o f))
            (k (name_in bundle a) τ (token_of bundle t) o (spot s d)))
            ≡ on_result4
            (on_result3 m Err λ t o d. cond (is_sign colon (token_of bundle t)) (joined_of bundle s a d) (Ok (Plain a, t, o, d)))
            (λ e. refused e τ)
            (λ key t o d. k (name_of bundle key) τ (token_of bundle t) o (spot s d))
        go (Err e) = refl
        go (Ok (t, o, d)) = by_sign (is_sign colon (token_of bundle t)) t o d

-- ---- each takes a byte at least

module _ (bundle : Bytes) (s : Source) where
  pub expect_moves : (g : Sign) (c d : Cursor) → expect_of bundle g s c ≡ Ok d → left bundle s d < left bundle s c
  unfolding expect_of on_result
  expect_moves g c d e = go (mandatory_of bundle s c) refl e
    where
      by_sign :
          (b : Bool) (t : Token) (o : Place) (f : Cursor)
          → mandatory_of bundle s c ≡ Ok (t, o, f)
          → cond b (Ok f) (Err (refusal_at 4 4 o)) ≡ Ok d
          → left bundle s d < left bundle s c
      by_sign true t o f q e = let p : f ≡ d = cc in mandatory_moves bundle s c d t o (subst (λ f. mandatory_of bundle s c ≡ Ok (t, o, f)) p q)
      by_sign false t o f q e = different cc

      go :
          (m : Result (Token × Place × Cursor) Refusal)
          → mandatory_of bundle s c ≡ m
          → on_result3 m Err (λ t o d. cond (is_sign g (token_of bundle t)) (Ok d) (Err (refusal_at 4 4 o))) ≡ Ok d
          → left bundle s d < left bundle s c
      go (Err x) q e = different cc
      go (Ok (t, o, f)) q e = by_sign (is_sign g (token_of bundle t)) t o f q e

  pub word_moves : (c d : Cursor) (a : Range) → word_of bundle s c ≡ Ok (a, d) → left bundle s d < left bundle s c
  unfolding word_of on_result
  word_moves c d a e = go (mandatory_of bundle s c) refl e
    where
      go :
          (m : Result (Token × Place × Cursor) Refusal)
          → mandatory_of bundle s c ≡ m
          → ◌≡◌ {A = Result (Range × Cursor) Refusal}
          (on_result3 m Err λ t o d. on_identifier (token_of bundle t) (λ a. Ok (range_of a, d)) (Err (refusal_at 4 3 o)))
          (Ok (a, d))
          → left bundle s d < left bundle s c
      go (Err x) q e = different cc
      go (Ok (t, o, f)) q e =
          identifier_holds (λ (w : Result (Range × Cursor) Refusal). w ≡ Ok (a, d) → left bundle s d < left bundle s c) (token_of bundle t) (λ a. Ok (range_of a, f)) (Err (refusal_at 4 3 o))
          (λ x i e. let p : f ≡ d = ok2_second e in mandatory_moves bundle s c d t o (subst (λ f. mandatory_of bundle s c ≡ Ok (t, o, f)) p q))
          (λ e. different cc)
          e

  pub figure_moves : (c d : Cursor) (x : Float) → figure_of bundle s c ≡ Ok (x, d) → left bundle s d < left bundle s c
  unfolding figure_of on_result
  figure_moves c d y e = go (mandatory_of bundle s c) refl e
    where
      go :
          (m : Result (Token × Place × Cursor) Refusal)
          → mandatory_of bundle s c ≡ m
          → ◌≡◌ {A = Result (Float × Cursor) Refusal}
          (on_result3 m Err λ t o d. on_number (token_of bundle t) (λ x. Ok (x, d)) (Err (refusal_at 4 3 o)))
          (Ok (y, d))
          → left bundle s d < left bundle s c
      go (Err x) q e = different cc
      go (Ok (t, o, f)) q e =
          number_holds (λ (w : Result (Float × Cursor) Refusal). w ≡ Ok (y, d) → left bundle s d < left bundle s c) (token_of bundle t) (λ x. Ok (x, f)) (Err (refusal_at 4 3 o))
          (λ x i e. let p : f ≡ d = ok2_second e in mandatory_moves bundle s c d t o (subst (λ f. mandatory_of bundle s c ≡ Ok (t, o, f)) p q))
          (λ e. different cc)
          e

  pub key_moves :
      (a : Range) (c d : Cursor) (key : Key') (t : Token) (o : Place)
      → key_of bundle s a c ≡ Ok (key, t, o, d)
      → left bundle s d < left bundle s c
  unfolding key_of joined_of on_result
  key_moves a c d key t o e = go (mandatory_of bundle s c) refl e
    where
      second :
          (m : Result (Token × Place × Cursor) Refusal) (b : Range) (f : Cursor)
          → mandatory_of bundle s f ≡ m
          → left bundle s f < left bundle s c
          → ◌≡◌ {A = Result (Key' × Token × Place × Cursor) Refusal} (on_result3 m Err λ t o f. Ok (Joined a b, t, o, f)) (Ok (key, t, o, d))
          → left bundle s d < left bundle s c
      second (Err x) b f q h e = different cc
      second (Ok (u, p, g)) b f q h e =
          let r : g ≡ d = ok4_fourth e in
          let l = mandatory_moves bundle s f d u p (subst (λ g. mandatory_of bundle s f ≡ Ok (u, p, g)) r q) in
          omega arith

      word :
          (w : Result (Range × Cursor) Refusal) (f : Cursor)
          → word_of bundle s f ≡ w
          → left bundle s f < left bundle s c
          → ◌≡◌ {A = Result (Key' × Token × Place × Cursor) Refusal}
          (on_result2 w Err λ b d. on_result3 (mandatory_of bundle s d) Err λ t o f. Ok (Joined a b, t, o, f))
          (Ok (key, t, o, d))
          → left bundle s d < left bundle s c
      word (Err x) f q h e = different cc
      word (Ok (b, g)) f q h e = let l = word_moves f g b q in second (mandatory_of bundle s g) b g refl (omega arith) e

      by_sign :
          (x : Bool) (u : Token) (p : Place) (f : Cursor)
          → mandatory_of bundle s c ≡ Ok (u, p, f)
          → cond x (joined_of bundle s a f) (Ok (Plain a, u, p, f)) ≡ Ok (key, t, o, d)
          → left bundle s d < left bundle s c
      by_sign true u p f q e = word (word_of bundle s f) f refl (mandatory_moves bundle s c f u p q) e
      by_sign false u p f q e =
          let r : f ≡ d = ok4_fourth e in
          mandatory_moves bundle s c d u p (subst (λ f. mandatory_of bundle s c ≡ Ok (u, p, f)) r q)

      go :
          (m : Result (Token × Place × Cursor) Refusal)
          → mandatory_of bundle s c ≡ m
          → on_result3 m Err (λ t o d. cond (is_sign colon (token_of bundle t)) (joined_of bundle s a d) (Ok (Plain a, t, o, d))) ≡ Ok (key, t, o, d)
          → left bundle s d < left bundle s c
      go (Err x) q e = different cc
      go (Ok (u, p, f)) q e = by_sign (is_sign colon (token_of bundle u)) u p f q e
