-- A text of the bundle as the grammar's reader sees it: its tokens, with names as ranges of the bundle.
use Rattle.std.specs.Prelude.{ℕ, ◌+◌, ◌-◌, ◌<◌, Bool, cond, List, [], ◌∷◌, length, Float, Result, Ok, Err, Option, Some, None}
use Rattle.std.proofs.Math.Option.{Option as Option', none, some}
use Rattle.base.specs.Bytes.{Bytes, within}
use Rattle.base.specs.Refusal.{refusal}
use Rattle.base.specs.declared.Range.{Range}
use Rattle.base.specs.declared.refusal.Refusal.{Refusal}
use Rattle.color.specs.declared.Color.{Color as Rgb}
use Rattle.cursor.specs.declared.Cursor.{Cursor}
use Rattle.token_laws.specs.Claims.{Inside}
use Rattle.token.specs.Elim.{on_step}
use Rattle.token_kind.specs.declared.LexerError.{LexerError}
use Rattle.token.specs.Step.{step_of}
use Rattle.token.specs.declared.Step.{Step}
use Rattle.token.specs.declared.Step.TheVariants.{End, Took}
use Rattle.token_kind.specs.contracts.TokenPartialEq.TheImpl as token_eq
use Rattle.token_kind.specs.declared.Token.{Token}
use Rattle.token_kind.specs.declared.Token.TheVariants.{
  Import,
  Identifier,
  Text,
  Number,
  ZoomRange,
  ColorRef,
  Color,
  LeftParen,
  RightParen,
  LeftBracket,
  RightBracket,
  LeftBrace,
  RightBrace,
  Equal,
  NotEqual,
  Less,
  Greater,
  LessOrEqual,
  GreaterOrEqual,
  RegexMatch,
  Bang,
  QuestionMark,
  Colon,
  DoubleColon,
  SemiColon,
  Comma,
}
use Rattle.table.specs.declared.Name.{Name}
use Rattle.table.specs.declared.Name.TheVariants.{Plain, Joined}
use Rattle.grammar.specs.Token.{Name as Name', joined, Sign, Token as Token', import, identifier, string, color_ref, number, zoom_range, color, sign, left_paren, right_paren, left_bracket, right_bracket, left_brace, right_brace, equal_sign, not_equal_sign, less_sign, greater_sign, less_or_equal_sign, greater_or_equal_sign, regex_match, bang, question_mark, colon, double_colon, semi_colon, comma}
use Rattle.grammar.specs.View.{is_sign, on_identifier, on_number}
use Rattle.input.specs.declared.Source.{Source}
use Rattle.input.specs.declared.Place.{Place}
use Rattle.base.specs.Option.{on_result2, on_result3}

-- ---- tokens: the ranges of a text that begins at a place of the bundle become ranges of the bundle

abbrev pub shifted : ℕ → Range → Range
shifted from r = record { from = from + r.from; to = from + r.to }

abbrev pub placed : ℕ → Token → Token
placed from (Import r) = Import (shifted from r)
placed from (Identifier r) = Identifier (shifted from r)
placed from (Text r) = Text (shifted from r)
placed from (ColorRef r) = ColorRef (shifted from r)
placed from (Number x) = Number x
placed from (ZoomRange a b) = ZoomRange a b
placed from (Color c) = Color c
placed from LeftParen = LeftParen
placed from RightParen = RightParen
placed from LeftBracket = LeftBracket
placed from RightBracket = RightBracket
placed from LeftBrace = LeftBrace
placed from RightBrace = RightBrace
placed from Equal = Equal
placed from NotEqual = NotEqual
placed from Less = Less
placed from Greater = Greater
placed from LessOrEqual = LessOrEqual
placed from GreaterOrEqual = GreaterOrEqual
placed from RegexMatch = RegexMatch
placed from Bang = Bang
placed from QuestionMark = QuestionMark
placed from Colon = Colon
placed from DoubleColon = DoubleColon
placed from SemiColon = SemiColon
placed from Comma = Comma

-- a placed token's range ends below 2^64
abbrev pub Fits : ℕ → Token → Type 0
Fits from t = (a : ℕ) × ((b : ℕ) × (Inside a b t × (from + b < 0x1_0000_0000_0000_0000)))

unfoldable pub text_of : Bytes → Source → Bytes
text_of bundle s = within s.range bundle

-- the next token of a text, its ranges as places of the bundle
unfoldable pub next_of : Bytes → Source → Cursor → Result Step LexerError
next_of bundle s c =
    on_step (step_of (text_of bundle s) c) Err (λ d. Ok (End d)) λ t line character d.
    Ok (Took (placed s.range.from t) line character d)

-- ---- as the grammar has them

abbrev pub name_in : Bytes → Range → Name'
name_in bundle r = record { bytes = within r bundle; ranges = r ∷ [] }

abbrev pub name_of : Bytes → Name → Name'
name_of bundle (Plain a) = name_in bundle a
name_of bundle (Joined a b) = joined (name_in bundle a) (name_in bundle b)

-- the range of a name that stands in one place
abbrev pub range_of : Name' → Range
range_of a = first_of a.ranges
  where
    first_of : List Range → Range
    first_of [] = record { from = 0; to = 0 }
    first_of (r ∷ rs) = r

abbrev pub level_of : Option ℕ → Option' ℕ
level_of None = none
level_of (Some n) = some n

unfoldable pub token_of : Bytes → Token → Token'
token_of bundle (Import r) = import (name_in bundle r)
token_of bundle (Identifier r) = identifier (name_in bundle r)
token_of bundle (Text r) = string (name_in bundle r)
token_of bundle (ColorRef r) = color_ref (name_in bundle r)
token_of bundle (Number x) = number x
token_of bundle (ZoomRange a b) = zoom_range (level_of a) (level_of b)
token_of bundle (Color c) = color c
token_of bundle LeftParen = sign left_paren
token_of bundle RightParen = sign right_paren
token_of bundle LeftBracket = sign left_bracket
token_of bundle RightBracket = sign right_bracket
token_of bundle LeftBrace = sign left_brace
token_of bundle RightBrace = sign right_brace
token_of bundle Equal = sign equal_sign
token_of bundle NotEqual = sign not_equal_sign
token_of bundle Less = sign less_sign
token_of bundle Greater = sign greater_sign
token_of bundle LessOrEqual = sign less_or_equal_sign
token_of bundle GreaterOrEqual = sign greater_or_equal_sign
token_of bundle RegexMatch = sign regex_match
token_of bundle Bang = sign bang
token_of bundle QuestionMark = sign question_mark
token_of bundle Colon = sign colon
token_of bundle DoubleColon = sign double_colon
token_of bundle SemiColon = sign semi_colon
token_of bundle Comma = sign comma

-- a colour of three bytes
abbrev pub Small : Rgb → Type 0
Small x = (x.r < 256) × ((x.g < 256) × (x.b < 256))

-- ---- places and refusals

abbrev pub place : ℕ → ℕ → ℕ → Place
place text line character = record { text = text; line = line; character = character }

-- the place reached
abbrev pub reached_at : Source → Cursor → Place
reached_at s c = place s.number c.line c.character

abbrev pub refusal_at : ℕ → ℕ → Place → Refusal
refusal_at n reason o = refusal n reason o.text o.line o.character

-- a refusal of an error of the tokenizer
abbrev pub error_at : Source → LexerError → Refusal
error_at s e = refusal 3 e.reason s.number e.line e.character

-- how many bytes of a text are left
unfoldable pub left : Bytes → Source → Cursor → ℕ
left bundle s c = length (text_of bundle s) - c.at

-- ---- the small readers

unfoldable pub mandatory_of : Bytes → Source → Cursor → Result (Token × Place × Cursor) Refusal
mandatory_of bundle s c =
    on_step (next_of bundle s c) (λ e. Err (error_at s e))
    (λ d. Err (refusal_at 4 1 (reached_at s d)))
    λ t line character d. Ok (t, place s.number line character, d)

-- as == has it
abbrev pub same_token : Token → Token → Bool
same_token = (token_eq.ghosts).eq

module _ (bundle : Bytes) where
  unfoldable pub expect_of : Sign → Source → Cursor → Result Cursor Refusal
  expect_of g s c =
      on_result3 (mandatory_of bundle s c) Err λ t o d.
      cond (is_sign g (token_of bundle t)) (Ok d) (Err (refusal_at 4 4 o))

  -- a token that must come: one of a sign u is the same by its sign (proofs/TokenLaws.antt)
  unfoldable pub expected_of : Token → Source → Cursor → Result Cursor Refusal
  expected_of u s c =
      on_result3 (mandatory_of bundle s c) Err λ t o d.
      cond (same_token t u) (Ok d) (Err (refusal_at 4 4 o))

  unfoldable pub word_of : Source → Cursor → Result (Range × Cursor) Refusal
  word_of s c =
      on_result3 (mandatory_of bundle s c) Err λ t o d.
      on_identifier (token_of bundle t) (λ a. Ok (range_of a, d)) (Err (refusal_at 4 3 o))

  unfoldable pub figure_of : Source → Cursor → Result (Float × Cursor) Refusal
  figure_of s c =
      on_result3 (mandatory_of bundle s c) Err λ t o d.
      on_number (token_of bundle t) (λ x. Ok (x, d)) (Err (refusal_at 4 3 o))

  -- behind the colon of a key
  unfoldable pub joined_of : Source → Range → Cursor → Result (Name × Token × Place × Cursor) Refusal
  joined_of s a c =
      on_result2 (word_of s c) Err λ b d.
      on_result3 (mandatory_of bundle s d) Err λ t o f.
      Ok (Joined a b, t, o, f)

  unfoldable pub key_of : Source → Range → Cursor → Result (Name × Token × Place × Cursor) Refusal
  key_of s a c =
      on_result3 (mandatory_of bundle s c) Err λ t o d.
      cond (is_sign colon (token_of bundle t)) (joined_of s a d) (Ok (Plain a, t, o, d))
