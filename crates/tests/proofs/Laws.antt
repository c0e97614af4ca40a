-- The reader's answer on a key and on a test that is stored, followed down its cases. Q is what is to be known of the answer.
use Prim.Native.Nat.{ℕ, ◌<◌}
use mathlib.Core.Path.{◌≡◌, refl, sym, ap, subst, ◌∙◌}
use mathlib.Core.List.{List}
use Rattle.base.specs.Bytes.{Bytes}
use Rattle.base.specs.declared.Range.{Range}
use Rattle.base.specs.declared.refusal.Refusal.{Refusal}
use Rattle.cursor.specs.declared.Cursor.{Cursor}
use Rattle.token_kind.specs.declared.Token.{Token}
use Rattle.table.specs.declared.Name.{Name as Key'}
use Rattle.table.specs.declared.Name.TheVariants.{Plain, Joined}
use Rattle.grammar.specs.Token.{Name, Token as Token'}
use Rattle.grammar.specs.Reading.{Test}
use Rattle.grammar.specs.Input.{test_entry, Answer, refused, keep}
use Rattle.grammar.specs.Reader.{read_key}
use Rattle.keep.specs.Lent.{Lent, name_shown, test_row, test_kept, put_entry, lent_store}
use Rattle.keep.proofs.KeepLaws.{is_full, is_put}
use Rattle.keep.specs.Source.{reading}
use Rattle.input.specs.Source.{Spot, spot}
use Rattle.input.specs.Text.{name_in, name_of, token_of, left, key_of, refusal_at, reached_at}
use Rattle.input.specs.declared.Place.{Place}
use Rattle.input.specs.declared.Source.{Source}
use Rattle.input.proofs.Readers.{key_is, key_moves}
use Rattle.keep.proofs.Laws.{option_none, option_some}
use Rattle.std.specs.Prelude.{Some, None, Ok, Err}
use Rattle.base.specs.Option.{on_result, on_result4}

module _ {A : Type 0} (Q : Answer A Spot Lent Refusal → Type 0) (bundle : Bytes) (s : Source) where
  pub no_key :
      (a : Range) (c : Cursor) (τ : Lent) (k : Name → Lent → Token' → Place → Spot → Answer A Spot Lent Refusal) {e : Refusal}
      → key_of bundle s a c ≡ Err e
      → Q (refused e τ)
      → Q (read_key (reading bundle) (name_in bundle a) (spot s c) τ k)
  unfolding on_result
  no_key a c τ k h q =
      subst Q (sym (key_is bundle (lent_store bundle) s a τ k c ∙ ap (λ m. on_result4 m (λ e. refused e τ) (λ key t o d. k (name_of bundle key) τ (token_of bundle t) o (spot s d))) h)) q

  pub a_key :
      (a : Range) (c : Cursor) (τ : Lent) (k : Name → Lent → Token' → Place → Spot → Answer A Spot Lent Refusal) {key : Key'} {t : Token} {o : Place} {d : Cursor}
      → key_of bundle s a c ≡ Ok (key, t, o, d)
      → (left bundle s d < left bundle s c → Q (k (name_of bundle key) τ (token_of bundle t) o (spot s d)))
      → Q (read_key (reading bundle) (name_in bundle a) (spot s c) τ k)
  unfolding on_result
  a_key a c τ k {key} {t} {o} {d} h q =
      subst Q (sym (key_is bundle (lent_store bundle) s a τ k c ∙ ap (λ m. on_result4 m (λ e. refused e τ) (λ key t o d. k (name_of bundle key) τ (token_of bundle t) o (spot s d))) h))
      (q (key_moves bundle s a c d key t o h))

  -- ---- storing

  pub no_room_test :
      (x : Test) (row : List ℕ) (c : Cursor) (τ : Lent) (k : Lent → Answer A Spot Lent Refusal) {τ' : Lent}
      → test_row x τ.tally.number ≡ row
      → test_kept τ row ≡ (None, τ')
      → Q (refused (refusal_at 20 3 (reached_at s c)) τ)
      → Q (keep (reading bundle) (test_entry x) (spot s c) τ k)
  unfolding put_entry test_kept
  no_room_test x row c τ k r e q = option_none Q _ _ k (is_full _ _ _ (ap (test_kept τ) r ∙ e)) q

  pub room_test :
      (x : Test) (row : List ℕ) (c : Cursor) (τ : Lent) (k : Lent → Answer A Spot Lent Refusal) {y : Unit} {τ' : Lent}
      → test_row x τ.tally.number ≡ row
      → test_kept τ row ≡ (Some y, τ')
      → Q (k τ')
      → Q (keep (reading bundle) (test_entry x) (spot s c) τ k)
  unfolding put_entry test_kept
  room_test x row c τ k r e q = option_some Q _ _ k (is_put _ _ _ (ap (test_kept τ) r ∙ e)) q

pub name_shown_lem : (bundle : Bytes) (key : Key') → name_shown (name_of bundle key) ≡ key
name_shown_lem bundle (Plain a) = refl
name_shown_lem bundle (Joined a b) = refl
