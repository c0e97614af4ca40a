-- What the arms of a match on a token say of the grammar's token.
use Prim.Native.Nat.{ℕ, zero, suc, ◌-◌}
use mathlib.Core.Path.{◌≡◌, refl, sym, ap, subst, ◌∙◌}
use mathlib.Core.Bool.{Bool, true, false, not, cond}
use mathlib.Core.List.{List, [], ◌∷◌}
use mathlib.Core.Option.{Option as Option'}
use lib.Dec.{T}
use lib.ListN.{get_or}
use lib.Ieee.{Float}
use types.Run.{OneOf, hit, miss}
use mir.Val.{has_key}
use denote.Enum.Declared.{tag_of}
use borrow.Enum.Compared.{by_apart, by_Bare}
use borrow.Author.Rules.{rules}
use Rattle.base.specs.Bytes.{Bytes}
use Rattle.base.specs.Choice.{by-test, clash, different}
use Rattle.base.specs.declared.Range.{Range}
use Rattle.base.specs.declared.refusal.Refusal.{Refusal}
use Rattle.color.specs.declared.Color.{Color as Shade}
use Rattle.token_kind.specs.contracts.Token.{enum, the_type}
use Rattle.token_kind.specs.declared.Token.{Token}
use Rattle.token_kind.specs.declared.Token.TheVariants.{
  Import,
  Identifier,
  Text,
  Number,
  ZoomRange,
  ColorRef,
  Color,
  LeftParen,
  RightParen,
  LeftBracket,
  RightBracket,
  LeftBrace,
  RightBrace,
  Equal,
  NotEqual,
  Less,
  Greater,
  LessOrEqual,
  GreaterOrEqual,
  RegexMatch,
  Bang,
  QuestionMark,
  Colon,
  DoubleColon,
  SemiColon,
  Comma,
}
use Rattle.grammar.specs.Token.{Name, Sign, Sign-discrete, Token as Token', import, identifier, string, color_ref, number, zoom_range, color, sign, left_paren, right_paren, left_bracket, right_bracket, left_brace, right_brace, equal_sign, not_equal_sign, less_sign, greater_sign, less_or_equal_sign, greater_or_equal_sign, regex_match, bang, question_mark, colon, double_colon, semi_colon, comma}
use Rattle.grammar.specs.View.{decided, is_sign, on_import, on_identifier, on_string, on_color_ref, on_number, on_zoom_range, on_color}
use Rattle.grammar.proofs.ViewLaws.{sign_is, import_holds, identifier_holds, string_holds, color_ref_holds, number_holds, zoom_range_holds, color_holds}
use Rattle.cursor.specs.declared.Cursor.{Cursor}
use Rattle.input.specs.Text.{placed, name_in, range_of, token_of, same_token, mandatory_of, expected_of, expect_of, refusal_at}
use Rattle.input.specs.declared.Place.{Place}
use Rattle.input.specs.declared.Source.{Source}
use Rattle.std.specs.Prelude.{Result, Ok, Err, Option}
use Rattle.base.specs.Option.{on_result, on_three, on_result3, result_ok}

abbrev pub sign_tag : Sign → ℕ
sign_tag left_paren = 7
sign_tag right_paren = 8
sign_tag left_bracket = 9
sign_tag right_bracket = 10
sign_tag left_brace = 11
sign_tag right_brace = 12
sign_tag equal_sign = 13
sign_tag not_equal_sign = 14
sign_tag less_sign = 15
sign_tag greater_sign = 16
sign_tag less_or_equal_sign = 17
sign_tag greater_or_equal_sign = 18
sign_tag regex_match = 19
sign_tag bang = 20
sign_tag question_mark = 21
sign_tag colon = 22
sign_tag double_colon = 23
sign_tag semi_colon = 24
sign_tag comma = 25

abbrev pub tag_of' : Token' → ℕ
tag_of' (import a) = 0
tag_of' (identifier a) = 1
tag_of' (string a) = 2
tag_of' (number x) = 3
tag_of' (zoom_range a b) = 4
tag_of' (color_ref a) = 5
tag_of' (color c) = 6
tag_of' (sign g) = sign_tag g

-- the token of a sign
abbrev pub sign_token : Sign → Token
sign_token left_paren = LeftParen
sign_token right_paren = RightParen
sign_token left_bracket = LeftBracket
sign_token right_bracket = RightBracket
sign_token left_brace = LeftBrace
sign_token right_brace = RightBrace
sign_token equal_sign = Equal
sign_token not_equal_sign = NotEqual
sign_token less_sign = Less
sign_token greater_sign = Greater
sign_token less_or_equal_sign = LessOrEqual
sign_token greater_or_equal_sign = GreaterOrEqual
sign_token regex_match = RegexMatch
sign_token bang = Bang
sign_token question_mark = QuestionMark
sign_token colon = Colon
sign_token double_colon = DoubleColon
sign_token semi_colon = SemiColon
sign_token comma = Comma

sign_token_tag : (g : Sign) → tag_of the_type (sign_token g) ≡ sign_tag g
sign_token_tag left_paren = refl
sign_token_tag g = refl

pub sign_token_read : (bundle : Bytes) (g : Sign) → token_of bundle (sign_token g) ≡ sign g
unfolding token_of
sign_token_read bundle left_paren = refl
sign_token_read bundle g = refl

pub sign_token_placed : (from : ℕ) (g : Sign) → sign_token g ≡ placed from (sign_token g)
sign_token_placed from left_paren = refl
sign_token_placed from g = refl

-- what holds of the tokens with contents and of all signs holds of every token
module _ (P : Token → Type 0) (import-case : (r : Range) → P (Import r)) (identifier-case : (r : Range) → P (Identifier r)) (text-case : (r : Range) → P (Text r)) (number-case : (x : Float) → P (Number x)) (zoom-case : (a b : Option ℕ) → P (ZoomRange a b)) (ref-case : (r : Range) → P (ColorRef r)) (color-case : (c : Shade) → P (Color c)) (sign-case : (g : Sign) → P (sign_token g)) where
  pub by_token : (t : Token) → P t
  by_token (Import r) = import-case r
  by_token (Identifier r) = identifier-case r
  by_token (Text r) = text-case r
  by_token (Number x) = number-case x
  by_token (ZoomRange a b) = zoom-case a b
  by_token (ColorRef r) = ref-case r
  by_token (Color c) = color-case c
  by_token LeftParen = sign-case left_paren
  by_token RightParen = sign-case right_paren
  by_token LeftBracket = sign-case left_bracket
  by_token RightBracket = sign-case right_bracket
  by_token LeftBrace = sign-case left_brace
  by_token RightBrace = sign-case right_brace
  by_token Equal = sign-case equal_sign
  by_token NotEqual = sign-case not_equal_sign
  by_token Less = sign-case less_sign
  by_token Greater = sign-case greater_sign
  by_token LessOrEqual = sign-case less_or_equal_sign
  by_token GreaterOrEqual = sign-case greater_or_equal_sign
  by_token RegexMatch = sign-case regex_match
  by_token Bang = sign-case bang
  by_token QuestionMark = sign-case question_mark
  by_token Colon = sign-case colon
  by_token DoubleColon = sign-case double_colon
  by_token SemiColon = sign-case semi_colon
  by_token Comma = sign-case comma

-- the grammar's token has the tag of the tokenizer's
pub same_tag : (bundle : Bytes) (t : Token) → tag_of the_type t ≡ tag_of' (token_of bundle t)
unfolding token_of
same_tag bundle =
    by_token (λ t. tag_of the_type t ≡ tag_of' (token_of bundle t)) (λ r. refl) (λ r. refl) (λ r. refl) (λ x. refl) (λ a b. refl) (λ r. refl) (λ c. refl)
    (λ g. sign_token_tag g ∙ ap tag_of' (sym (sign_token_read bundle g)))

-- a word stands in one place of the bundle
pub word_named : (bundle : Bytes) (t : Token) (a : Name) → token_of bundle t ≡ identifier a → a ≡ name_in bundle (range_of a)
unfolding token_of
word_named bundle =
    by_token (λ t. (a : Name) → token_of bundle t ≡ identifier a → a ≡ name_in bundle (range_of a))
    (λ r a e. different cc)
    (λ r a e. let z : name_in bundle r ≡ a = cc in subst (λ a. a ≡ name_in bundle (range_of a)) z refl)
    (λ r a e. different cc) (λ x a e. different cc) (λ x y a e. different cc) (λ r a e. different cc) (λ c a e. different cc)
    (λ g a e. let z = sym (sign_token_read bundle g) ∙ e in different cc)

-- the tags that are none of these
abbrev pub others : List ℕ → List ℕ
others taken = from 26 0
  where
    from : ℕ → ℕ → List ℕ
    from zero k = []
    from (suc n) k = cond (has_key taken k) (from n (suc k)) (k ∷ from n (suc k))

-- a token without a range is the same anywhere
pub placed_other : (from : ℕ) (t : Token) → OneOf (others (0 ∷ 1 ∷ 2 ∷ 5 ∷ [])) (tag_of the_type t) → t ≡ placed from t
placed_other from =
    by_token (λ t. OneOf (others (0 ∷ 1 ∷ 2 ∷ 5 ∷ [])) (tag_of the_type t) → t ≡ placed from t)
    (λ r h. absurd (miss (others (0 ∷ 1 ∷ 2 ∷ 5 ∷ [])) 0 tt h))
    (λ r h. absurd (miss (others (0 ∷ 1 ∷ 2 ∷ 5 ∷ [])) 1 tt h))
    (λ r h. absurd (miss (others (0 ∷ 1 ∷ 2 ∷ 5 ∷ [])) 2 tt h))
    (λ x h. refl) (λ a b h. refl)
    (λ r h. absurd (miss (others (0 ∷ 1 ∷ 2 ∷ 5 ∷ [])) 5 tt h))
    (λ c h. refl)
    (λ g h. sign_token_placed from g)

-- a token of the last arm, where arms with these tags stand before it
module _ (bundle : Bytes) (taken : List ℕ) (t : Token) (h : OneOf (others taken) (tag_of the_type t)) where
  other_tag : (k : ℕ) → T (not (has_key (others taken) k)) → tag_of' (token_of bundle t) ≡ k → ⊥
  other_tag k n e = miss (others taken) k n (subst (OneOf (others taken)) (same_tag bundle t ∙ e) h)

  pub not_sign : (g : Sign) → T (not (has_key (others taken) (sign_tag g))) → is_sign g (token_of bundle t) ≡ false
  not_sign g n =
      by-test (is_sign g (token_of bundle t))
      (λ y. absurd (other_tag (sign_tag g) n (ap tag_of' (sign_is g (token_of bundle t) y))))
      (λ e. e)

  module _ {B : Type 0} (Q : B → Type 0) where
    pub not_identifier : (f : Name → B) (g : B) → T (not (has_key (others taken) 1)) → Q g → Q (on_identifier (token_of bundle t) f g)
    not_identifier f g n q = identifier_holds Q (token_of bundle t) f g (λ x e. absurd (other_tag 1 n (ap tag_of' e))) q

    pub not_number_lem : (f : Float → B) (g : B) → T (not (has_key (others taken) 3)) → Q g → Q (on_number (token_of bundle t) f g)
    not_number_lem f g n q = number_holds Q (token_of bundle t) f g (λ x e. absurd (other_tag 3 n (ap tag_of' e))) q

    pub not_string : (f : Name → B) (g : B) → T (not (has_key (others taken) 2)) → Q g → Q (on_string (token_of bundle t) f g)
    not_string f g n q = string_holds Q (token_of bundle t) f g (λ x e. absurd (other_tag 2 n (ap tag_of' e))) q

    pub not_import : (f : Name → B) (g : B) → T (not (has_key (others taken) 0)) → Q g → Q (on_import (token_of bundle t) f g)
    not_import f g n q = import_holds Q (token_of bundle t) f g (λ x e. absurd (other_tag 0 n (ap tag_of' e))) q

    pub not_color_ref : (f : Name → B) (g : B) → T (not (has_key (others taken) 5)) → Q g → Q (on_color_ref (token_of bundle t) f g)
    not_color_ref f g n q = color_ref_holds Q (token_of bundle t) f g (λ x e. absurd (other_tag 5 n (ap tag_of' e))) q

    pub not_zoom_range : (f : Option' ℕ → Option' ℕ → B) (g : B) → T (not (has_key (others taken) 4)) → Q g → Q (on_zoom_range (token_of bundle t) f g)
    not_zoom_range f g n q = zoom_range_holds Q (token_of bundle t) f g (λ x y e. absurd (other_tag 4 n (ap tag_of' e))) q

    pub not_color : (f : Shade → B) (g : B) → T (not (has_key (others taken) 6)) → Q g → Q (on_color (token_of bundle t) f g)
    not_color f g n q = color_holds Q (token_of bundle t) f g (λ x e. absurd (other_tag 6 n (ap tag_of' e))) q

-- a choice by a test that is known
module _ {A : Type 0} where
  pub cond_true : (b : Bool) (f g : A) {y : A} → b ≡ true → y ≡ f → y ≡ cond b f g
  cond_true b f g e h = h ∙ sym (ap (λ b. cond b f g) e)

  pub cond_false : (b : Bool) (f g : A) {y : A} → b ≡ false → y ≡ g → y ≡ cond b f g
  cond_false b f g e h = h ∙ sym (ap (λ b. cond b f g) e)

-- a token that is known
pub sign_known : (bundle : Bytes) (g : Sign) {t v : Token} → t ≡ v → is_sign g (token_of bundle v) ≡ true → is_sign g (token_of bundle t) ≡ true
sign_known bundle g e h = ap (λ t. is_sign g (token_of bundle t)) e ∙ h

pub got_known :
    {B : Type 0} (x : Result (Token × Place × Cursor) Refusal) (k0 : Refusal → B) (k1 : Token → Place → Cursor → B) {t v : Token} {o : Place} {d : Cursor} {y : B}
    → x ≡ Ok (t, o, d)
    → t ≡ v
    → y ≡ k1 v o d
    → y ≡ on_result3 x k0 k1
got_known x k0 k1 {o = o} {d = d} e f h = result_ok x k0 (on_three k1) (e ∙ ap (λ t. Ok (t, o, d)) f) h

-- ---- == with the token of a sign tells the sign

abbrev signs : List ℕ
signs = others (0 ∷ 1 ∷ 2 ∷ 3 ∷ 4 ∷ 5 ∷ 6 ∷ [])

is_key : (g : Sign) → T (has_key signs (sign_tag g))
is_key left_paren = tt
is_key g = tt

-- the sign of a tag
abbrev sign_of : ℕ → Sign
sign_of n =
    get_or
    (left_paren ∷ right_paren ∷ left_bracket ∷ right_bracket ∷ left_brace ∷ right_brace ∷ equal_sign ∷ not_equal_sign ∷ less_sign ∷ greater_sign
    ∷ less_or_equal_sign ∷ greater_or_equal_sign ∷ regex_match ∷ bang ∷ question_mark ∷ colon ∷ double_colon ∷ semi_colon ∷ [])
    (n - 7) comma

sign_back : (g : Sign) → sign_of (sign_tag g) ≡ g
sign_back left_paren = refl
sign_back g = refl

-- a token with the tag of a sign is the sign
sign_tagged : (g : Sign) (x : Token') → tag_of' x ≡ sign_tag g → is_sign g x ≡ true
unfolding is_sign
sign_tagged g (sign h) e = go (Sign-discrete h g)
  where
    go : (d : Dec (h ≡ g)) → decided d ≡ true
    go (yes p) = refl
    go (no n) = absurd (n (sym (sign_back h) ∙ ap sign_of e ∙ sign_back g))
sign_tagged g x e = absurd (subst (λ k. T (has_key signs k)) (sym e) (is_key g))

-- the derived == goes by the tags first, and the tokens of signs have no contents
pub sign_same : (bundle : Bytes) (g : Sign) (t : Token) → is_sign g (token_of bundle t) ≡ same_token t (sign_token g)
sign_same bundle g t =
    by-test (is_sign g (token_of bundle t))
    (λ y.
    let e = same_tag bundle t ∙ ap tag_of' (sign_is g (token_of bundle t) y) in
    let k = subst (OneOf signs) (sym e) (hit signs (sign_tag g) (is_key g)) in
    y ∙ by_Bare false false enum _ t (sign_token g) true signs (search rules) k (e ∙ sym (sign_token_tag g)))
    (λ n. n ∙ by_apart false false enum _ t (sign_token g) refl λ e. clash (sign_tagged g (token_of bundle t) (sym (same_tag bundle t) ∙ e ∙ sign_token_tag g)) n)

-- ---- a token that must come, by its sign

module _ (bundle : Bytes) (s : Source) (c : Cursor) where
  sign_expected : (g : Sign) → expected_of bundle (sign_token g) s c ≡ expect_of bundle g s c
  unfolding expected_of expect_of on_result
  sign_expected g = go (mandatory_of bundle s c)
    where
      go :
          (m : Result (Token × Place × Cursor) Refusal)
          → on_result3 m Err (λ t o d. cond (same_token t (sign_token g)) (Ok d) (Err (refusal_at 4 4 o)))
          ≡ on_result3 m Err (λ t o d. cond (is_sign g (token_of bundle t)) (Ok d) (Err (refusal_at 4 4 o)))
      go (Err e) = refl
      go (Ok (t, o, d)) = ap (λ b. cond b (Ok d) (Err (refusal_at 4 4 o))) (sym (sign_same bundle g t))

  pub bracket_expected : expected_of bundle RightBracket s c ≡ expect_of bundle right_bracket s c
  bracket_expected = sign_expected right_bracket

  pub colon_expected : expected_of bundle Colon s c ≡ expect_of bundle colon s c
  colon_expected = sign_expected colon

  pub semicolon_expected : expected_of bundle SemiColon s c ≡ expect_of bundle semi_colon s c
  semicolon_expected = sign_expected semi_colon
