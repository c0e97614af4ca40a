-- The reader's answer, followed down its cases: what each small reader and each put answers decides the way. Q is what is to be
-- known of the answer.
use Prim.Native.Nat.{ℕ, ◌<◌, ◌≤◌}
use native.Mathlib.Omega.{arith}
use mathlib.Core.Path.{◌≡◌, sym, ap, subst, ◌∙◌}
use mathlib.Core.Bool.{Bool, true, false, cond}
use mathlib.Core.Option.{Option, none, some}
use lib.Ieee.{Float}
use Rattle.base.specs.Bytes.{Bytes}
use Rattle.base.specs.declared.Range.{Range}
use Rattle.base.specs.declared.refusal.Refusal.{Refusal}
use Rattle.cursor.specs.declared.Cursor.{Cursor}
use Rattle.token_kind.specs.declared.Token.{Token}
use Rattle.grammar.specs.Token.{Name, Sign, Token as Token'}
use Rattle.grammar.specs.View.{on_number}
use Rattle.grammar.specs.Input.{number_entry, Answer, refused, on_option, keep}
use Rattle.grammar.specs.Reader.{read_mandatory_token, unexpected_token, expect_simple_token, read_identifier}
use Rattle.keep.specs.Lent.{Lent, number_kept, put_entry, lent_store}
use Rattle.keep.proofs.KeepLaws.{is_full, is_put}
use Rattle.keep.specs.Source.{reading}
use Rattle.input.specs.Source.{Spot, spot}
use Rattle.input.specs.Text.{name_in, token_of, left, mandatory_of, expect_of, word_of, figure_of, refusal_at, reached_at}
use Rattle.input.specs.declared.Place.{Place}
use Rattle.input.specs.declared.Source.{Source}
use Rattle.input.proofs.Fuel.{mandatory_moves}
use Rattle.input.proofs.Readers.{mandatory_is, expect_is, word_is, figure_is, expect_moves, word_moves, figure_moves}
use Rattle.keep.specs.Answers.{Reads, refuses, done}
use Rattle.std.specs.Prelude.{Some, None, Result, Ok, Err}
use Rattle.base.specs.Option.{on_result, on_result2, on_result3}

-- ---- an option that is known

module _ {A B : Type 0} (Q : B → Type 0) where
  pub option_none : (x : Option A) (f : B) (k : A → B) → x ≡ none → Q f → Q (on_option x f k)
  unfolding on_option
  option_none x f k e q = subst (λ x. Q (on_option x f k)) (sym e) q

  pub option_some : (x : Option A) (f : B) (k : A → B) {y : A} → x ≡ some y → Q (k y) → Q (on_option x f k)
  unfolding on_option
  option_some x f k e q = subst (λ x. Q (on_option x f k)) (sym e) q

-- ---- the small readers

module _ {A : Type 0} (Q : Answer A Spot Lent Refusal → Type 0) (bundle : Bytes) (s : Source) where
  pub no_token :
      (c : Cursor) (τ : Lent) (k : Token' → Place → Spot → Answer A Spot Lent Refusal) {e : Refusal}
      → mandatory_of bundle s c ≡ Err e
      → Q (refused e τ)
      → Q (read_mandatory_token (reading bundle) (spot s c) τ k)
  unfolding on_result
  no_token c τ k h q =
      subst Q (sym (mandatory_is bundle (lent_store bundle) s c τ k ∙ ap (λ m. on_result3 m (λ e. refused e τ) (λ t o d. k (token_of bundle t) o (spot s d))) h)) q

  pub got :
      (c : Cursor) (τ : Lent) (k : Token' → Place → Spot → Answer A Spot Lent Refusal) {t : Token} {o : Place} {d : Cursor}
      → mandatory_of bundle s c ≡ Ok (t, o, d)
      → (left bundle s d < left bundle s c → Q (k (token_of bundle t) o (spot s d)))
      → Q (read_mandatory_token (reading bundle) (spot s c) τ k)
  unfolding on_result
  got c τ k {t} {o} {d} h q =
      subst Q (sym (mandatory_is bundle (lent_store bundle) s c τ k ∙ ap (λ m. on_result3 m (λ e. refused e τ) (λ t o d. k (token_of bundle t) o (spot s d))) h))
      (q (mandatory_moves bundle s c d t o h))

  -- a token that is known
  pub got_as :
      (c : Cursor) (τ : Lent) (k : Token' → Place → Spot → Answer A Spot Lent Refusal) {t v : Token} {o : Place} {d : Cursor}
      → mandatory_of bundle s c ≡ Ok (t, o, d)
      → t ≡ v
      → (left bundle s d < left bundle s c → Q (k (token_of bundle v) o (spot s d)))
      → Q (read_mandatory_token (reading bundle) (spot s c) τ k)
  got_as c τ k {o = o} {d = d} h e q = got c τ k (h ∙ ap (λ t. Ok (t, o, d)) e) q

  pub another :
      (g : Sign) (c : Cursor) (τ : Lent) (k : Spot → Answer A Spot Lent Refusal) {e : Refusal}
      → expect_of bundle g s c ≡ Err e
      → Q (refused e τ)
      → Q (expect_simple_token (reading bundle) g (spot s c) τ k)
  unfolding on_result
  another g c τ k h q =
      subst Q (sym (expect_is bundle (lent_store bundle) s g c τ k ∙ ap (λ m. on_result m (λ e. refused e τ) (λ d. k (spot s d))) h)) q

  pub beyond :
      (g : Sign) (c : Cursor) (τ : Lent) (k : Spot → Answer A Spot Lent Refusal) {d : Cursor}
      → expect_of bundle g s c ≡ Ok d
      → (left bundle s d < left bundle s c → Q (k (spot s d)))
      → Q (expect_simple_token (reading bundle) g (spot s c) τ k)
  unfolding on_result
  beyond g c τ k {d} h q =
      subst Q (sym (expect_is bundle (lent_store bundle) s g c τ k ∙ ap (λ m. on_result m (λ e. refused e τ) (λ d. k (spot s d))) h))
      (q (expect_moves bundle s g c d h))

  pub no_word :
      (c : Cursor) (τ : Lent) (k : Name → Spot → Answer A Spot Lent Refusal) {e : Refusal}
      → word_of bundle s c ≡ Err e
      → Q (refused e τ)
      → Q (read_identifier (reading bundle) (spot s c) τ k)
  unfolding on_result
  no_word c τ k h q =
      subst Q (sym (word_is bundle (lent_store bundle) s c τ k ∙ ap (λ m. on_result2 m (λ e. refused e τ) (λ a d. k (name_in bundle a) (spot s d))) h)) q

  pub a_word :
      (c : Cursor) (τ : Lent) (k : Name → Spot → Answer A Spot Lent Refusal) {a : Range} {d : Cursor}
      → word_of bundle s c ≡ Ok (a, d)
      → (left bundle s d < left bundle s c → Q (k (name_in bundle a) (spot s d)))
      → Q (read_identifier (reading bundle) (spot s c) τ k)
  unfolding on_result
  a_word c τ k {a} {d} h q =
      subst Q (sym (word_is bundle (lent_store bundle) s c τ k ∙ ap (λ m. on_result2 m (λ e. refused e τ) (λ a d. k (name_in bundle a) (spot s d))) h))
      (q (word_moves bundle s c d a h))

  pub no_figure :
      (c : Cursor) (τ : Lent) (k : Float → Spot → Answer A Spot Lent Refusal) {e : Refusal}
      → figure_of bundle s c ≡ Err e
      → Q (refused e τ)
      → Q (read_mandatory_token (reading bundle) (spot s c) τ (λ t o d. on_number t (λ x. k x d) (unexpected_token (reading bundle) o τ)))
  unfolding on_result
  no_figure c τ k h q =
      subst Q (sym (figure_is bundle (lent_store bundle) s c τ k ∙ ap (λ m. on_result2 m (λ e. refused e τ) (λ x d. k x (spot s d))) h)) q

  pub a_figure :
      (c : Cursor) (τ : Lent) (k : Float → Spot → Answer A Spot Lent Refusal) {x : Float} {d : Cursor}
      → figure_of bundle s c ≡ Ok (x, d)
      → (left bundle s d < left bundle s c → Q (k x (spot s d)))
      → Q (read_mandatory_token (reading bundle) (spot s c) τ (λ t o d. on_number t (λ x. k x d) (unexpected_token (reading bundle) o τ)))
  unfolding on_result
  a_figure c τ k {x} {d} h q =
      subst Q (sym (figure_is bundle (lent_store bundle) s c τ k ∙ ap (λ m. on_result2 m (λ e. refused e τ) (λ x d. k x (spot s d))) h))
      (q (figure_moves bundle s c d x h))

  -- ---- storing

  pub no_room_number :
      (x : Float) (c : Cursor) (τ : Lent) (k : Lent → Answer A Spot Lent Refusal) {τ' : Lent}
      → number_kept τ x ≡ (None, τ')
      → Q (refused (refusal_at 20 5 (reached_at s c)) τ)
      → Q (keep (reading bundle) (number_entry x) (spot s c) τ k)
  unfolding put_entry number_kept
  no_room_number x c τ k e q = option_none Q _ _ k (is_full _ _ _ e) q

  pub room_number :
      (x : Float) (c : Cursor) (τ : Lent) (k : Lent → Answer A Spot Lent Refusal) {y : Unit} {τ' : Lent}
      → number_kept τ x ≡ (Some y, τ')
      → Q (k τ')
      → Q (keep (reading bundle) (number_entry x) (spot s c) τ k)
  unfolding put_entry number_kept
  room_number x c τ k e q = option_some Q _ _ k (is_put _ _ _ e) q

-- ---- choices

module _ {B : Type 0} (Q : B → Type 0) where
  pub yes_way : (b : Bool) (f g : B) → b ≡ true → Q f → Q (cond b f g)
  yes_way b f g e q = subst (λ b. Q (cond b f g)) (sym e) q

  pub no_way : (b : Bool) (f g : B) → b ≡ false → Q g → Q (cond b f g)
  no_way b f g e q = subst (λ b. Q (cond b f g)) (sym e) q

-- ---- what a call has read

-- a bound may be larger
pub widen :
    {A : Type 0} {bundle : Bytes} {s : Source} {b b' : ℕ} {then : Lent} {r : Result Cursor Refusal} {a : Answer A Spot Lent Refusal}
    → b ≤ b'
    → Reads bundle s b then r a
    → Reads bundle s b' then r a
widen h (refuses e) = refuses e
widen h (done d l) = done d (omega arith)
