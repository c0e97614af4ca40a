-- The twelve marked cases of the paper, in one table: what the tokens of a text are, what a load answers and leaves, how many layers an
-- open way gets.
use Rattle.std.specs.Prelude.{ℕ, ◌≡◌, List, [], ◌∷◌, Ok}
use Rattle.std.specs.Float.{binary64}
use Rattle.std.specs.Float.Ieee.{of_bits}
use Rattle.base.specs.Bytes.{Bytes, ascii}
use Rattle.base.specs.Table.{zero_float}
use Rattle.color.specs.Named.{rgb}
use Rattle.token.specs.Read.{range}
use Rattle.token_kind.specs.declared.Token.{Token}
use Rattle.token_kind.specs.declared.Token.TheVariants.{Identifier, Number, Color}
use Rattle.token_laws.specs.Tokens.{Tokens, listed, token_at, tokens}
use Rattle.parser.specs.Load.{held, zeros}
use Rattle.marked.specs.Cases.{Case, Holds, small, refuses, counts, eval_sheet}
use Rattle.marked.specs.Meetings.{Meeting, meeting, Gets, tagged}

pub data Mark : Type 0 where
  lexes : Bytes → Tokens → Mark
  loads : Case → Mark
  gets : Meeting → Mark

unfoldable pub True : Mark → Type 0
True (lexes text result) = tokens text ≡ result
True (loads c) = Holds c
True (gets m) = Gets m

-- one token at the start of a line of so many characters, the end counted
abbrev pub one : Token → ℕ → Tokens
one t end = listed (token_at t 1 1 ∷ []) 1 end

abbrev pub marks : List Mark
marks =
    -- 1: number and reason, line and character
    loads (refuses (ascii "|z-") 3 11 1 3)
    -- 2
    ∷ lexes (ascii "-.5") (one (Identifier (range 0 3)) 4)
    -- 3: the bits of 0.5
    ∷ lexes (ascii "+.5") (one (Number (of_bits binary64 0x3fe0_0000_0000_0000)) 4)
    -- 4
    ∷ loads (refuses (ascii "5.") 3 8 1 2)
    -- 5
    ∷ loads (refuses (ascii "#12345") 3 9 1 6)
    ∷ lexes (ascii "#fff") (one (Color (rgb 255 255 255)) 5)
    -- 6
    ∷ loads (refuses (ascii "way") 4 1 1 4)
    -- 7
    ∷ loads (refuses (ascii "@a: red; way{color:@a;}") 4 5 1 21)
    -- 8
    ∷ gets (meeting (ascii "way[!x?]{}") 13 [] 1)
    ∷ gets (meeting (ascii "way[!x?]{}") 13 (tagged (ascii "x") (ascii "no")) 1)
    ∷ gets (meeting (ascii "way[!x?]{}") 13 (tagged (ascii "x") (ascii "1")) 0)
    -- 9: the property is a width delta, and its number is 0
    ∷ loads
    (record {
      sheet = eval_sheet;
      answer = Ok (counts 1 1 0 1 1 0);
      tables =
          held (1 ∷ 0 ∷ 1 ∷ 0 ∷ 1 ∷ 0 ∷ 0 ∷ 0 ∷ []) (5 ∷ 0 ∷ 0 ∷ 0 ∷ 0 ∷ 0 ∷ 0 ∷ 0 ∷ []) (0 ∷ 0 ∷ 0 ∷ 0 ∷ 0 ∷ 0 ∷ 0 ∷ 0 ∷ [])
          (6 ∷ 8 ∷ 20 ∷ 0 ∷ 0 ∷ 0 ∷ 0 ∷ 0 ∷ []) (zero_float ∷ []) (0 ∷ 0 ∷ 0 ∷ 0 ∷ 0 ∷ 0 ∷ 0 ∷ 0 ∷ []);
    })
    -- 10
    ∷ gets (meeting (ascii "way[ele>=500]{}") 13 (tagged (ascii "ele") (ascii "5e2")) 1)
    ∷ gets (meeting (ascii "way[ele>=500]{}") 13 (tagged (ascii "ele") (ascii "499")) 0)
    -- 11
    ∷ gets (meeting (ascii "way|z13-{}") 13 [] 1)
    ∷ gets (meeting (ascii "way|z13-{}") 12 [] 0)
    -- 12
    ∷ loads (record { sheet = []; answer = Ok (counts 0 0 0 0 0 0); tables = zeros small })
    ∷ []

-- the lone statement: every row is true
pub data AllTrue : List Mark → Type 0 where
  none : AllTrue []
  next : {m : Mark} {ms : List Mark} → True m → AllTrue ms → AllTrue (m ∷ ms)
