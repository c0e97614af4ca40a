-- The words of a test, by its kind; and a token that is no operator.
use Prim.Native.Nat.{ℕ}
use mathlib.Core.Path.{◌≡◌, refl, ap, subst, sym}
use mathlib.Core.Bool.{not}
use mathlib.Core.List.{List}
use mathlib.Core.Option.{Option}
use lib.Dec.{T}
use lib.Ieee.{Float}
use mir.Val.{has_key}
use types.Run.{OneOf}
use denote.Enum.Declared.{tag_of}
use Rattle.base.specs.Bytes.{Bytes}
use Rattle.base.specs.declared.Range.{Range}
use Rattle.sheet.specs.Sheet.{UnaryTest, TextTest, NumericTest}
use Rattle.entries.specs.Words.{test_words}
use Rattle.table.specs.declared.Name.{Name}
use Rattle.token_kind.specs.contracts.Token.{the_type}
use Rattle.token_kind.specs.declared.Token.{Token}
use Rattle.base.specs.declared.refusal.Refusal.{Refusal}
use Rattle.grammar.specs.Token.{Name as Name', equal_sign, not_equal_sign, less_sign, greater_sign, less_or_equal_sign, greater_or_equal_sign}
use Rattle.grammar.specs.Reading.{Test, unary, text, numeric, plain, digits}
use Rattle.grammar.specs.Input.{Answer, on_option}
use Rattle.grammar.specs.Reader.{to_binary_string_test_type, to_binary_numeric_test_type, plain_test, bang_test}
use Rattle.input.proofs.TokenLaws.{others, not_sign}
use Rattle.keep.specs.Lent.{Lent, unary_kind, word_kind, digits_kind, numeric_kind, test_row}
use Rattle.keep.specs.Source.{reading}
use Rattle.input.specs.Source.{Spot}
use Rattle.input.specs.declared.Place.{Place}
use Rattle.input.specs.Text.{name_in, name_of, token_of}
use Rattle.tests.proofs.Laws.{name_shown_lem}
use Rattle.keep.proofs.Laws.{no_way}

pub unary_row : (bundle : Bytes) (o : UnaryTest) (key : Name) (p : ℕ) → test_row (unary o (name_of bundle key)) p ≡ test_words (unary_kind o) key 0 0
unary_row bundle o key p = ap (λ k. test_words (unary_kind o) k 0 0) (name_shown_lem bundle key)

pub word_row_lem :
    (bundle : Bytes) (op : TextTest) (key : Name) (b : Range) (p : ℕ) {kind : ℕ}
    → word_kind op ≡ kind
    → test_row (text op (name_of bundle key) (plain (name_in bundle b))) p ≡ test_words kind key b.from b.to
word_row_lem bundle op key b p e = rw (e, name_shown_lem bundle key) refl

pub digits_row :
    (bundle : Bytes) (op : TextTest) (key : Name) (x : Float) {kind : ℕ}
    → digits_kind op ≡ kind
    → (p : ℕ)
    → test_row (text op (name_of bundle key) (digits x)) p ≡ test_words kind key p 0
digits_row bundle op key x e p = rw (e, name_shown_lem bundle key) refl

pub numeric_row :
    (bundle : Bytes) (op : NumericTest) (key : Name) (x : Float) {kind : ℕ}
    → numeric_kind op ≡ kind
    → (p : ℕ)
    → test_row (numeric op (name_of bundle key) x) p ≡ test_words kind key p 0
numeric_row bundle op key x e p = rw (e, name_shown_lem bundle key) refl

-- a token that is none of the six operators
pub no_operator :
    {B : Type 0} (bundle : Bytes) (taken : List ℕ) (t : Token)
    → OneOf (others taken) (tag_of the_type t)
    → (Q : B → Type 0) (f : TextTest → B) (g : NumericTest → B) (h : B)
    → T (not (has_key (others taken) 13))
    → T (not (has_key (others taken) 14))
    → T (not (has_key (others taken) 15))
    → T (not (has_key (others taken) 16))
    → T (not (has_key (others taken) 17))
    → T (not (has_key (others taken) 18))
    → Q h
    → Q (on_option (to_binary_string_test_type (token_of bundle t)) (on_option (to_binary_numeric_test_type (token_of bundle t)) h g) f)
unfolding to_binary_string_test_type to_binary_numeric_test_type on_option
no_operator bundle taken t k Q f g h a b c d e i q =
    no_way (λ (o : Option TextTest). Q (on_option o (on_option (to_binary_numeric_test_type (token_of bundle t)) h g) f)) _ _ _ (not_sign bundle taken t k equal_sign a)
    (no_way (λ (o : Option TextTest). Q (on_option o (on_option (to_binary_numeric_test_type (token_of bundle t)) h g) f)) _ _ _ (not_sign bundle taken t k not_equal_sign b)
    (no_way (λ (o : Option NumericTest). Q (on_option o h g)) _ _ _ (not_sign bundle taken t k less_sign c)
    (no_way (λ (o : Option NumericTest). Q (on_option o h g)) _ _ _ (not_sign bundle taken t k less_or_equal_sign e)
    (no_way (λ (o : Option NumericTest). Q (on_option o h g)) _ _ _ (not_sign bundle taken t k greater_sign d)
    (no_way (λ (o : Option NumericTest). Q (on_option o h g)) _ _ _ (not_sign bundle taken t k greater_or_equal_sign i) q)))))

-- a token handed over that is known
module _ (Q : Answer Test Spot Lent Refusal → Type 0) (bundle : Bytes) (a : Name') (τ : Lent) (o : Place) (d : Spot) {t v : Token} where
  pub plain_as :
      t ≡ v
      → Q (plain_test (reading bundle) a τ (token_of bundle v) o d)
      → Q (plain_test (reading bundle) a τ (token_of bundle t) o d)
  plain_as e q = subst (λ t. Q (plain_test (reading bundle) a τ (token_of bundle t) o d)) (sym e) q

  pub bang_as :
      t ≡ v
      → Q (bang_test (reading bundle) a τ (token_of bundle v) o d)
      → Q (bang_test (reading bundle) a τ (token_of bundle t) o d)
  bang_as e q = subst (λ t. Q (bang_test (reading bundle) a τ (token_of bundle t) o d)) (sym e) q
