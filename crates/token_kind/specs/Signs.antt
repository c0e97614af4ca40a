-- Signs of two letters and of one: tables, searched in order.
use Rattle.std.specs.Prelude.{ℕ, Bool, false, List, [], ◌∷◌, eqb, get_or, Option, Some, None, position}
use Rattle.base.specs.Bytes.{Bytes, ascii}
use Rattle.base.specs.Choice.{pick}
use Rattle.token_kind.specs.declared.Token.{Token}
use Rattle.token_kind.specs.declared.Token.TheVariants.{
  LeftParen,
  RightParen,
  LeftBracket,
  RightBracket,
  LeftBrace,
  RightBrace,
  Equal,
  NotEqual,
  Less,
  Greater,
  LessOrEqual,
  GreaterOrEqual,
  RegexMatch,
  Bang,
  QuestionMark,
  Colon,
  DoubleColon,
  SemiColon,
  Comma,
}

pub record Spelled : Type 0 where
  pub letters : Bytes
  pub token : Token

abbrev pub spelled : Bytes → Token → Spelled
spelled l t = record { letters = l; token = t }

abbrev pub two_letter : List Spelled
two_letter =
    spelled (ascii "!=") NotEqual
    ∷ spelled (ascii "<=") LessOrEqual
    ∷ spelled (ascii ">=") GreaterOrEqual
    ∷ spelled (ascii "=~") RegexMatch
    ∷ spelled (ascii "::") DoubleColon
    ∷ []

abbrev pub one_letter : List Spelled
one_letter =
    spelled (ascii "(") LeftParen
    ∷ spelled (ascii ")") RightParen
    ∷ spelled (ascii "[") LeftBracket
    ∷ spelled (ascii "]") RightBracket
    ∷ spelled (ascii "{") LeftBrace
    ∷ spelled (ascii "}") RightBrace
    ∷ spelled (ascii "=") Equal
    ∷ spelled (ascii "<") Less
    ∷ spelled (ascii ">") Greater
    ∷ spelled (ascii "!") Bang
    ∷ spelled (ascii "?") QuestionMark
    ∷ spelled (ascii ":") Colon
    ∷ spelled (ascii ";") SemiColon
    ∷ spelled (ascii ",") Comma
    ∷ []

-- whether two characters are a pair of bytes
unfoldable pub is_pair : ℕ → ℕ → Bytes → Bool
is_pair a b p = pick (eqb (get_or p 0 0) a) (eqb (get_or p 1 0) b) false

unfoldable pub first_pair : List Spelled → ℕ → ℕ → Option Token
first_pair [] a b = None
first_pair (e ∷ es) a b = pick (is_pair a b e.letters) (Some e.token) (first_pair es a b)

unfoldable pub get_two_char_simple_token : ℕ → ℕ → Option Token
get_two_char_simple_token a b = first_pair two_letter a b

unfoldable pub first_letter : List Spelled → ℕ → Option Token
first_letter [] k = None
first_letter (e ∷ es) k = pick (eqb k (get_or e.letters 0 0)) (Some e.token) (first_letter es k)

unfoldable pub get_one_char_simple_token : ℕ → Option Token
get_one_char_simple_token k = first_letter one_letter k

-- As the code goes about it: the place of the pair in a table of pairs alone, then the sign at that place.
abbrev pub pairs : List Bytes
pairs = ascii "!=" ∷ ascii "<=" ∷ ascii ">=" ∷ ascii "=~" ∷ ascii "::" ∷ []

unfoldable pub place_of_pair : ℕ → ℕ → Option ℕ
place_of_pair a b = position (is_pair a b) pairs

unfoldable pub sign_of_pair : ℕ → Option Token
sign_of_pair i =
    pick (eqb i 0) (Some NotEqual)
    (pick (eqb i 1) (Some LessOrEqual)
    (pick (eqb i 2) (Some GreaterOrEqual)
    (pick (eqb i 3) (Some RegexMatch)
    (pick (eqb i 4) (Some DoubleColon)
    None))))
