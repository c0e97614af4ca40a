-- The numbers that stand for a step: crates/capi_token/src/lib.rt has them as a table.
use Rattle.std.specs.Prelude.{ℕ, ◌≡◌, Bool, true, false, List, [], ◌∷◌, Float, set, Option, Some, None, Result, Ok, Err}
use Rattle.base.specs.Table.{zero_float, stored}
use Rattle.base.specs.declared.Range.{Range}
use Rattle.cursor.specs.Cursor.{cursor}
use Rattle.token.specs.declared.Step.{Step}
use Rattle.token.specs.declared.Step.TheVariants.{End, Took}
use Rattle.token_kind.specs.declared.LexerError.{LexerError}
use Rattle.token_kind.specs.declared.Token.{Token}
use Rattle.token_kind.specs.declared.Token.TheVariants.{
  Import,
  Identifier,
  Text,
  Number,
  ZoomRange,
  ColorRef,
  Color,
  LeftParen,
  RightParen,
  LeftBracket,
  RightBracket,
  LeftBrace,
  RightBrace,
  Equal,
  NotEqual,
  Less,
  Greater,
  LessOrEqual,
  GreaterOrEqual,
  RegexMatch,
  Bang,
  QuestionMark,
  Colon,
  DoubleColon,
  SemiColon,
  Comma,
}
use Rattle.capi_token.specs.declared.Payload.{Payload}
use Rattle.capi_token.specs.declared.Told.{Told}

-- a kind and its words, without a number
abbrev pub payload : ℕ → ℕ → ℕ → ℕ → ℕ → Payload
payload k a b c d = record { kind = k; words = a ∷ b ∷ c ∷ d ∷ []; number = zero_float }

abbrev pub numbered : ℕ → Float → Payload
numbered k x = record { kind = k; words = 0 ∷ 0 ∷ 0 ∷ 0 ∷ []; number = x }

abbrev pub ranged : ℕ → Range → Payload
ranged k r = payload k r.from r.to 0 0

abbrev pub plain : ℕ → Payload
plain k = payload k 0 0 0 0

abbrev pub flag : Bool → ℕ
flag true = 1
flag false = 0

abbrev pub present : Option ℕ → ℕ
present None = 0
present (Some z) = 1

abbrev pub height : Option ℕ → ℕ
height None = 0
height (Some z) = z

unfoldable pub told_token : Token → Payload
told_token (Import r) = ranged 2 r
told_token (Identifier r) = ranged 3 r
told_token (Text r) = ranged 4 r
told_token (Number x) = numbered 5 x
told_token (ZoomRange min max) = payload 6 (present min) (height min) (present max) (height max)
told_token (ColorRef r) = ranged 7 r
told_token (Color c) = payload 8 c.r c.g c.b 0
told_token LeftParen = plain 9
told_token RightParen = plain 10
told_token LeftBracket = plain 11
told_token RightBracket = plain 12
told_token LeftBrace = plain 13
told_token RightBrace = plain 14
told_token Equal = plain 15
told_token NotEqual = plain 16
told_token Less = plain 17
told_token Greater = plain 18
told_token LessOrEqual = plain 19
told_token GreaterOrEqual = plain 20
told_token RegexMatch = plain 21
told_token Bang = plain 22
told_token QuestionMark = plain 23
told_token Colon = plain 24
told_token DoubleColon = plain 25
told_token SemiColon = plain 26
told_token Comma = plain 27

unfoldable pub told_step : Result Step LexerError → Told
told_step (Err e) =
    record { end = cursor 0 0 0 false; line = 0; character = 0; payload = payload 1 e.reason e.line e.character 0 }
told_step (Ok (End c)) = record { end = c; line = 0; character = 0; payload = plain 0 }
told_step (Ok (Took t line character c)) = record { end = c; line = line; character = character; payload = told_token t }

-- the ten words in their order
abbrev pub words : Told → List ℕ
words t =
    t.end.at
    ∷ t.end.line
    ∷ t.end.character
    ∷ flag t.end.newline
    ∷ t.line
    ∷ t.character
    ∷ t.payload.words

-- what an export answers and leaves in its lent slices
pub record Answered (t : Told) (r : ℕ) (out out' : List ℕ) (number number' : List Float) : Type 0 where
  pub kind : r ≡ t.payload.kind
  pub stored_words : out' ≡ stored out 0 (words t)
  pub stored_number : number' ≡ set number 0 t.payload.number
