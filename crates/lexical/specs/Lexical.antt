-- The lexical grammar: which characters are which token. A relation names the characters that follow where a token takes as many
-- as it can.
use Rattle.std.specs.Prelude.{ℕ, ◌+◌, ◌*◌, ◌≡◌, Bool, true, false, List, [], ◌∷◌, ◌++◌, eqb, ltb, Float, Option, Some, None}
use Rattle.base.specs.Bytes.{ascii, same}
use Rattle.base.specs.Choice.{pick}
use Rattle.base.specs.declared.Range.{Range}
use Rattle.space.specs.Space.{is_white_space}
use Rattle.color.specs.Named.{rgb}
use Rattle.cursor.specs.Class.{can_be_in_at_directive, can_start_identifier, can_continue_identifier, digit_value, to_digit}
use Rattle.cursor.specs.Number.{dotted, digit_added, value}
use Rattle.cursor.specs.declared.number.Sum.{Sum}
use Rattle.token_number.specs.Number.{first_digit}
use Rattle.token_kind.specs.Signs.{get_two_char_simple_token, get_one_char_simple_token}
use Rattle.token_kind.specs.declared.Token.{Token}
use Rattle.token_kind.specs.declared.Token.TheVariants.{Import, Identifier, Text, Number, ZoomRange, ColorRef, Color}
use Rattle.base.specs.Option.{on_option}

abbrev pub Chars : Type 0
Chars = List ℕ

-- ---- classes of characters

abbrev pub is_digit : ℕ → Bool
is_digit k = ltb (digit_value k) 10

abbrev pub is_hex_digit : ℕ → Bool
is_hex_digit k = ltb (digit_value k) 16

abbrev pub is_dot : ℕ → Bool
is_dot k = eqb k 46

abbrev pub is_hyphen : ℕ → Bool
is_hyphen k = eqb k 45

abbrev pub is_quote : ℕ → Bool
is_quote k = eqb k 34

abbrev pub is_newline : ℕ → Bool
is_newline k = eqb k 10

-- a blank or this bracket
abbrev pub is_gap : ℕ → ℕ → Bool
is_gap bracket k = pick (is_white_space k) true (eqb k bracket)

-- whether a character makes a sign of two letters with the one before it
abbrev pub pairs_with : ℕ → ℕ → Bool
pairs_with a k = on_option (get_two_char_simple_token a k) false λ t. true

-- whether characters begin with one of a class
abbrev pub begins : (ℕ → Bool) → Chars → Bool
begins p [] = false
begins p (k ∷ ks) = p k

-- any number of characters, each in the class or each outside it
pub data Run (p : ℕ → Bool) (b : Bool) : Chars → Type 0 where
  none : Run p b []
  one : {k : ℕ} {ks : Chars} → p k ≡ b → Run p b ks → Run p b (k ∷ ks)

-- ---- what stands before a token

-- block = { any character } "*/", to the first "*/"
pub data IsBlock : Chars → Type 0 where
  close : IsBlock (42 ∷ 47 ∷ [])
  star : {k : ℕ} {ks : Chars} → eqb k 47 ≡ false → IsBlock (k ∷ ks) → IsBlock (42 ∷ k ∷ ks)
  inner : {k : ℕ} {ks : Chars} → eqb k 42 ≡ false → IsBlock ks → IsBlock (k ∷ ks)

-- blanks = { white space | "//" { any character but newline } newline | "/*" block } [ "//" { any character but newline } end of text ]
pub data IsBlank : Chars → Chars → Type 0 where
  nothing : {rest : Chars} → IsBlank [] rest
  space : {k : ℕ} {ks rest : Chars} → is_white_space k ≡ true → IsBlank ks rest → IsBlank (k ∷ ks) rest
  line : {xs ks rest : Chars} → Run is_newline false xs → IsBlank ks rest → IsBlank (47 ∷ 47 ∷ xs ++ (10 ∷ ks)) rest
  last_line : {xs : Chars} → Run is_newline false xs → IsBlank (47 ∷ 47 ∷ xs) []
  block : {xs ks rest : Chars} → IsBlock xs → IsBlank ks rest → IsBlank (47 ∷ 42 ∷ xs ++ ks) rest

-- ---- numbers

-- unsigned = digit { digit } [ "." digit { digit } ] | "." digit { digit }
pub data IsUnsigned : Chars → Chars → Type 0 where
  whole :
      {k : ℕ} {ks rest : Chars}
      → Run is_digit true (k ∷ ks)
      → begins is_digit rest ≡ false
      → begins is_dot rest ≡ false
      → IsUnsigned (k ∷ ks) rest
  mixed :
      {k j : ℕ} {ks js rest : Chars}
      → Run is_digit true (k ∷ ks)
      → Run is_digit true (j ∷ js)
      → begins is_digit rest ≡ false
      → IsUnsigned (k ∷ ks ++ (46 ∷ j ∷ js)) rest
  fraction :
      {j : ℕ} {js rest : Chars}
      → Run is_digit true (j ∷ js)
      → begins is_digit rest ≡ false
      → IsUnsigned (46 ∷ j ∷ js) rest

-- the digits and the dot of a number, one after another
abbrev pub begun : ℕ → Sum
begun k = on_option (to_digit k 10) (first_digit 0 true) λ v. first_digit v false

abbrev pub added : Sum → ℕ → Sum
added x k = on_option (to_digit k 10) (dotted x) λ v. digit_added x v

unfoldable pub added_all : Sum → Chars → Sum
added_all x [] = x
added_all x (k ∷ ks) = added_all (added x k) ks

abbrev pub number_of : Bool → Chars → Float
number_of minus [] = value (first_digit 0 false) minus
number_of minus (k ∷ ks) = value (added_all (begun k) ks) minus

-- ---- zoom ranges

-- level = digit [ digit ]
pub data IsLevel : Chars → Chars → ℕ → Type 0 where
  one_digit : {a : ℕ} {rest : Chars} → is_digit a ≡ true → begins is_digit rest ≡ false → IsLevel (a ∷ []) rest (digit_value a)
  two_digits :
      {a b : ℕ} {rest : Chars}
      → is_digit a ≡ true
      → is_digit b ≡ true
      → IsLevel (a ∷ b ∷ []) rest (10 * digit_value a + digit_value b)

-- zooms = level | level level | level "-" | "-" level | level "-" level      (without a hyphen a second level says nothing)
pub data IsZooms : Chars → Chars → Option ℕ → Option ℕ → Type 0 where
  exactly :
      {a rest : Chars} {m : ℕ}
      → IsLevel a rest m
      → begins is_digit rest ≡ false
      → begins is_hyphen rest ≡ false
      → IsZooms a rest (Some m) (Some m)
  unsaid : {a b rest : Chars} {m n : ℕ} → IsLevel a (b ++ rest) m → IsLevel b rest n → IsZooms (a ++ b) rest (Some m) (Some m)
  up_from :
      {a rest : Chars} {m : ℕ}
      → IsLevel a (45 ∷ rest) m
      → begins is_digit rest ≡ false
      → IsZooms (a ++ (45 ∷ [])) rest (Some m) None
  up_to : {b rest : Chars} {n : ℕ} → IsLevel b rest n → IsZooms (45 ∷ b) rest None (Some n)
  between :
      {a b rest : Chars} {m n : ℕ}
      → IsLevel a (45 ∷ b ++ rest) m
      → IsLevel b rest n
      → IsZooms (a ++ (45 ∷ b)) rest (Some m) (Some n)

-- ---- tokens

-- gap = [ blank | bracket ]
pub data IsGap (bracket : ℕ) : Chars → Chars → Type 0 where
  no_gap : {rest : Chars} → begins (is_gap bracket) rest ≡ false → IsGap bracket [] rest
  a_gap : {k : ℕ} {rest : Chars} → is_gap bracket k ≡ true → IsGap bracket (k ∷ []) rest

-- IsToken before name after rest word: before rest, these characters are a token; name are those of its name, if it has one, and
-- word is the token once the place of the name is known.
pub data IsToken : Chars → Chars → Chars → Chars → (Range → Token) → Type 0 where
  -- the table of signs of two letters, token_kind/specs/Signs.antt
  pair : {a b : ℕ} {rest : Chars} {t : Token} → get_two_char_simple_token a b ≡ Some t → IsToken (a ∷ b ∷ []) [] [] rest λ r. t
  -- the table of signs of one letter; a sign of two goes before
  sign :
      {a : ℕ} {rest : Chars} {t : Token}
      → get_one_char_simple_token a ≡ Some t
      → begins (pairs_with a) rest ≡ false
      → IsToken (a ∷ []) [] [] rest λ r. t
  -- "*"
  star : {rest : Chars} → IsToken [] (42 ∷ []) [] rest λ r. Identifier r
  -- identifier = start { continuation }
  name :
      {k : ℕ} {ks rest : Chars}
      → can_start_identifier k ≡ true
      → Run can_continue_identifier true ks
      → begins can_continue_identifier rest ≡ false
      → IsToken [] (k ∷ ks) [] rest λ r. Identifier r
  -- | "-" continuation but no digit { continuation }
  hyphen_name :
      {k : ℕ} {ks rest : Chars}
      → can_continue_identifier k ≡ true
      → is_digit k ≡ false
      → Run can_continue_identifier true ks
      → begins can_continue_identifier rest ≡ false
      → IsToken [] (45 ∷ k ∷ ks) [] rest λ r. Identifier r
  -- string = quote { any character but a quote } quote
  string : {ks rest : Chars} → Run is_quote false ks → IsToken (34 ∷ []) ks (34 ∷ []) rest λ r. Text r
  -- number = [ "+" ] unsigned | "-" unsigned that begins with a digit
  number : {ks rest : Chars} → IsUnsigned ks rest → IsToken ks [] [] rest λ r. Number (number_of false ks)
  plus : {ks rest : Chars} → IsUnsigned ks rest → IsToken (43 ∷ ks) [] [] rest λ r. Number (number_of false ks)
  minus :
      {k : ℕ} {ks rest : Chars}
      → is_digit k ≡ true
      → IsUnsigned (k ∷ ks) rest
      → IsToken (45 ∷ k ∷ ks) [] [] rest λ r. Number (number_of true (k ∷ ks))
  -- zoom range = "|z" zooms
  zoom_range :
      {ks rest : Chars} {min max : Option ℕ}
      → IsZooms ks rest min max
      → IsToken (124 ∷ 122 ∷ ks) [] [] rest λ r. ZoomRange min max
  -- color = "#" and six hexadecimal digits, or three
  six_digits :
      {a b c d e f : ℕ} {rest : Chars}
      → Run is_hex_digit true (a ∷ b ∷ c ∷ d ∷ e ∷ f ∷ [])
      → begins is_hex_digit rest ≡ false
      → IsToken (35 ∷ a ∷ b ∷ c ∷ d ∷ e ∷ f ∷ []) [] [] rest λ r.
      Color (rgb (16 * digit_value a + digit_value b) (16 * digit_value c + digit_value d) (16 * digit_value e + digit_value f))
  three_digits :
      {a b c : ℕ} {rest : Chars}
      → Run is_hex_digit true (a ∷ b ∷ c ∷ [])
      → begins is_hex_digit rest ≡ false
      → IsToken (35 ∷ a ∷ b ∷ c ∷ []) [] [] rest λ r. Color (rgb (17 * digit_value a) (17 * digit_value b) (17 * digit_value c))
  -- reference = "@" word, but not import
  reference :
      {k : ℕ} {ks rest : Chars}
      → Run can_be_in_at_directive true (k ∷ ks)
      → begins can_be_in_at_directive rest ≡ false
      → same (k ∷ ks) (ascii "import") ≡ false
      → IsToken (64 ∷ []) (k ∷ ks) [] rest λ r. ColorRef r
  -- import = "@import" [ blank | "(" ] string [ blank | ")" ]
  import :
      {before ks after rest : Chars}
      → IsGap 40 before (34 ∷ [])
      → Run is_quote false ks
      → IsGap 41 after rest
      → IsToken (64 ∷ ascii "import" ++ (before ++ (34 ∷ []))) ks (34 ∷ after) rest λ r. Import r
