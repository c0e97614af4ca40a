-- What holds of every step: what it consumes, and what its lines and characters mean.
use Rattle.std.specs.Prelude.{ℕ, ◌<◌, ◌≤◌, ◌≡◌, length, Result, Ok, Err}
use Rattle.base.specs.Bytes.{Bytes}
use Rattle.base.specs.declared.Range.{Range}
use Rattle.color.specs.declared.Color.{Color as Rgb}
use Rattle.cursor.specs.Cursor.{start}
use Rattle.cursor.specs.Blank.{next_significant_char}
use Rattle.cursor.specs.Position.{Position}
use Rattle.cursor.specs.declared.Cursor.{Cursor}
use Rattle.cursor.specs.declared.Significant.TheVariants.{Found}
use Rattle.token.specs.Step.{step_of}
use Rattle.token_kind.specs.declared.LexerError.{LexerError}
use Rattle.token.specs.declared.Step.{Step}
use Rattle.token.specs.declared.Step.TheVariants.{End, Took}
use Rattle.token_kind.specs.declared.Token.{Token}
use Rattle.token_kind.specs.declared.Token.TheVariants.{Import, Identifier, Text, ColorRef, Color}

-- a range of the text between two places
pub record Between (from to : ℕ) (r : Range) : Type 0 where
  pub begins : from ≤ r.from
  pub ordered : r.from ≤ r.to
  pub ends : r.to ≤ to

-- the range of a token, if it has one, lies between two places
abbrev pub Inside : ℕ → ℕ → Token → Type 0
Inside from to (Import r) = Between from to r
Inside from to (Identifier r) = Between from to r
Inside from to (Text r) = Between from to r
Inside from to (ColorRef r) = Between from to r
Inside from to t = Unit {0}

-- A step that takes a token consumes at least a byte and ends within the text. The token's own place is that of its first
-- character, the first behind blanks and comments; its range lies between that place and the one behind the token.
pub record Consumed (s : Bytes) (c : Cursor) (t : Token) (d : Cursor) : Type 0 where
  pub place : ℕ
  pub code : ℕ
  pub first : Cursor
  pub found : next_significant_char s c ≡ Ok (Found place code first)
  pub behind : c.at ≤ place
  pub moves : place < d.at
  pub in_text : d.at ≤ length s
  pub inside : Inside place d.at t

abbrev pub StepsConsume : Type 0
StepsConsume =
    (s : Bytes) (c d : Cursor) (t : Token) (line character : ℕ)
    → step_of s c ≡ Ok (Took t line character d)
    → Consumed s c t d

-- the components of a colour token are bytes
abbrev pub ColorsSmall : Type 0
ColorsSmall =
    (s : Bytes) (c d : Cursor) (x : Rgb) (line character : ℕ)
    → step_of s c ≡ Ok (Took (Color x) line character d)
    → (x.r < 256) × ((x.g < 256) × (x.b < 256))

-- the cursors of a text: the first, and each that a step hands back with a token
pub data Stepped (s : Bytes) : Cursor → Type 0 where
  first : Stepped s start
  then : {c d : Cursor} {t : Token} {line character : ℕ} → Stepped s c → step_of s c ≡ Ok (Took t line character d) → Stepped s d

-- the line and character of a place: the end was read so often at most, and at least so often
pub record Place (s : Bytes) (least most : ℕ) (from to line character : ℕ) : Type 0 where
  pub at : ℕ
  pub behind : from ≤ at
  pub before : at ≤ to
  pub times : ℕ
  pub not_few : least ≤ times
  pub not_many : times ≤ most
  pub position : Position s times at line character

-- the first character behind blanks and comments, with its line and character
pub record First (s : Bytes) (c : Cursor) (line character : ℕ) : Type 0 where
  pub place : ℕ
  pub code : ℕ
  pub first : Cursor
  pub found : next_significant_char s c ≡ Ok (Found place code first)
  pub position : Position s 0 first.at line character

-- What the lines and characters of a step from a cursor of the text say: a token's are those of its first character, the
-- place behind it has those of its last one; an error's are those of a character from the cursor on, or of the end, read
-- once; at the end it is read once, and before that once more by a line comment that runs into it.
abbrev pub Told : Bytes → Cursor → Result Step LexerError → Type 0
Told s c (Ok (Took t line character d)) =
    First s c line character × Position s 0 d.at d.line d.character
Told s c (Err e) = Place s 0 1 c.at (length s) e.line e.character
Told s c (Ok (End d)) = Place s 1 2 c.at (length s) d.line d.character

abbrev pub PositionsTell : Type 0
PositionsTell = (s : Bytes) (c : Cursor) → length s < 0x8000_0000_0000_0000 → Stepped s c → Told s c (step_of s c)
