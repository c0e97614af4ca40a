-- UTF-8 as Unicode defines it: table 3-7, "Well-Formed UTF-8 Byte Sequences", and table 3-6, "UTF-8 Bit Distribution".
use Rattle.std.specs.Prelude.{ℕ, zero, suc, ◌+◌, ◌*◌, ◌%◌, Bool, true, false, ◌&&◌, ◌≡◌, List, [], ◌∷◌, ◌++◌, length, get_or, drop, leb}
use Rattle.base.specs.Bytes.{Bytes}
use Rattle.base.specs.Choice.{pick}
use Rattle.base.specs.Turns.{Turn, more, done, turns}
use Rattle.scalar.specs.Scalar.{is_scalar, encode_of}
use Rattle.utf8.specs.Elim.{on-Char}
use Rattle.utf8.specs.declared.Char.{Char}
use Rattle.utf8.specs.declared.Char.TheVariants.{Bad, End, Code}

-- the bytes low to high
pub record Span : Type 0 where
  pub low : ℕ
  pub high : ℕ

abbrev pub span : ℕ → ℕ → Span
span l h = record { low = l; high = h }

-- any byte 10xxxxxx
abbrev pub tail : Span
tail = span 0x80 0xBF

-- table 3-7: a row has a range for each byte of a character
abbrev pub well_formed : List (List Span)
well_formed =
    (span 0x00 0x7F ∷ [])
    ∷ (span 0xC2 0xDF ∷ tail ∷ [])
    ∷ (span 0xE0 0xE0 ∷ span 0xA0 0xBF ∷ tail ∷ [])
    ∷ (span 0xE1 0xEC ∷ tail ∷ tail ∷ [])
    ∷ (span 0xED 0xED ∷ span 0x80 0x9F ∷ tail ∷ [])
    ∷ (span 0xEE 0xEF ∷ tail ∷ tail ∷ [])
    ∷ (span 0xF0 0xF0 ∷ span 0x90 0xBF ∷ tail ∷ tail ∷ [])
    ∷ (span 0xF1 0xF3 ∷ tail ∷ tail ∷ tail ∷ [])
    ∷ (span 0xF4 0xF4 ∷ span 0x80 0x8F ∷ tail ∷ tail ∷ [])
    ∷ []

-- whether bytes begin with bytes in a row's ranges
unfoldable pub fits : List Span → Bytes → Bool
fits [] s = true
fits (r ∷ rs) [] = false
fits (r ∷ rs) (b ∷ s) = (leb r.low b && leb b r.high) && fits rs s

-- table 3-6: the bits of a character of so many bytes, the first byte's first
unfoldable pub gathered : ℕ → Bytes → ℕ
gathered zero s = 0
gathered (suc zero) s = get_or s 0 0
gathered (suc (suc zero)) s = get_or s 0 0 % 32 * 64 + get_or s 1 0 % 64
gathered (suc (suc (suc zero))) s = get_or s 0 0 % 16 * 4096 + get_or s 1 0 % 64 * 64 + get_or s 2 0 % 64
gathered (suc (suc (suc (suc n)))) s =
    get_or s 0 0 % 8 * 262144 + get_or s 1 0 % 64 * 4096 + get_or s 2 0 % 64 * 64 + get_or s 3 0 % 64

-- the character that bytes begin with, by the first row that they fit
unfoldable pub by_row : List (List Span) → Bytes → Char
by_row [] s = Bad
by_row (r ∷ rs) s = pick (fits r s) (Code (gathered (length r) s) (length r)) (by_row rs s)

unfoldable pub char_of : Bytes → Char
char_of [] = End
char_of (b ∷ s) = by_row well_formed (b ∷ s)

-- the same of four bytes; a byte that is not there counts as 0, which is in no range but the first row's
unfoldable pub decode_of : ℕ → ℕ → ℕ → ℕ → Char
decode_of a b c d = by_row well_formed (a ∷ b ∷ c ∷ d ∷ [])

-- the character at a place
unfoldable pub char_at : Bytes → ℕ → Char
char_at s at = char_of (drop at s)

-- bytes are UTF-8 if they are characters to the end
abbrev pub utf8_turn : Bytes → ℕ → Turn ℕ Bool
utf8_turn s at = on-Char (char_at s at) (done false) (done true) λ k w. more (at + w)

unfoldable pub is_utf8 : Bytes → Bool
is_utf8 s = turns (utf8_turn s) false (suc (length s)) 0

-- the bytes of characters, one after another
unfoldable pub spelled : List ℕ → Bytes
spelled [] = []
spelled (k ∷ ks) = encode_of k ++ spelled ks

pub data AllScalar : List ℕ → Type 0 where
  none : AllScalar []
  next : {k : ℕ} {ks : List ℕ} → is_scalar k ≡ true → AllScalar ks → AllScalar (k ∷ ks)
