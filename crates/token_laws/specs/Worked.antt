-- Texts with their tokens: the marked cases of the paper, and its readings.
use Rattle.std.specs.Prelude.{ℕ, List, [], ◌∷◌, ◌≡◌, pos, Float, Some}
use Rattle.std.specs.Float.{binary64}
use Rattle.std.specs.Float.Ieee.{of_bits, of_int}
use Rattle.base.specs.Bytes.{Bytes, ascii}
use Rattle.color.specs.Named.{rgb}
use Rattle.token.specs.Read.{range}
use Rattle.token_laws.specs.Tokens.{Tokens, wrong, listed, token_at, tokens}
use Rattle.token_kind.specs.declared.Token.{Token}
use Rattle.token_kind.specs.declared.Token.TheVariants.{Identifier, Number, ZoomRange, Color}

pub record Worked : Type 0 where
  pub text : Bytes
  pub result : Tokens

abbrev worked : Bytes → Tokens → Worked
worked s r = record { text = s; result = r }

-- one token at the start of a line of so many characters, the end counted
abbrev one : Token → ℕ → Tokens
one t end = listed (token_at t 1 1 ∷ []) 1 end

abbrev two : Token → ℕ → Token → ℕ → ℕ → Tokens
two t m u n end = listed (token_at t 1 m ∷ token_at u 1 n ∷ []) 1 end

abbrev half : Float
half = of_bits binary64 0x3fe0_0000_0000_0000

abbrev whole : ℕ → Float
whole n = of_int binary64 (pos n)

-- errors are reason, line, character
abbrev pub cases : List Worked
cases =
    -- marked case 1
    worked (ascii "|z-") (wrong 11 1 3)
    -- marked case 2
    ∷ worked (ascii "-.5") (one (Identifier (range 0 3)) 4)
    -- marked case 3
    ∷ worked (ascii "+.5") (one (Number half) 4)
    -- marked case 4
    ∷ worked (ascii "5.") (wrong 8 1 2)
    -- marked case 5
    ∷ worked (ascii "#12345") (wrong 9 1 6)
    ∷ worked (ascii "#fff") (one (Color (rgb 255 255 255)) 5)
    -- a second level counts only after a hyphen
    ∷ worked (ascii "|z123") (one (ZoomRange (Some 12) (Some 12)) 6)
    -- a comment begins only where a token may
    ∷ worked (ascii "way//c") (one (Identifier (range 0 6)) 7)
    -- levels have at most two digits
    ∷ worked (ascii "|z1234") (one (ZoomRange (Some 12) (Some 12)) 7)
    ∷ worked (ascii "|z12345") (two (ZoomRange (Some 12) (Some 12)) 1 (Number (whole 5)) 7 8)
    ∷ worked (ascii "|z12-345") (two (ZoomRange (Some 12) (Some 34)) 1 (Number (whole 5)) 8 9)
    -- ten times and plus the digit are two roundings
    ∷ worked (ascii "9007199254740993") (one (Number (whole 9007199254740992)) 17)
    -- a line comment reads the end, and then the next token does
    ∷ worked (ascii "way //c") (one (Identifier (range 0 3)) 9)
    ∷ worked (ascii "way /*c*/") (one (Identifier (range 0 3)) 10)
    -- the other reasons, each at its place
    ∷ worked (ascii "-") (wrong 1 1 1)
    ∷ worked (ascii "/") (wrong 2 1 1)
    ∷ worked (ascii "@") (wrong 3 1 2)
    -- between @import and its string a comment is no blank
    ∷ worked (ascii "@import/**/") (wrong 4 1 8)
    ∷ worked (34 ∷ ascii "ab") (wrong 5 1 4)
    ∷ worked (ascii "+") (wrong 6 1 2)
    ∷ worked (ascii "+a") (wrong 7 1 2)
    ∷ worked (ascii "|") (wrong 10 1 2)
    ∷ worked (ascii "/*") (wrong 12 1 3)
    ∷ []

-- each text of a table has the tokens that stand beside it
pub data All : List Worked → Type 0 where
  none : All []
  next : {w : Worked} {ws : List Worked} → tokens w.text ≡ w.result → All ws → All (w ∷ ws)
