-- Unicode's scalar values, and their bytes by table 3-6, "UTF-8 Bit Distribution".
use Rattle.std.specs.Prelude.{ℕ, ◌+◌, ◌/◌, ◌%◌, Bool, ◌&&◌, ◌||◌, [], ◌∷◌, length, ltb, leb, Option, Some, None}
use Rattle.base.specs.Bytes.{Bytes}
use Rattle.base.specs.Choice.{pick}
use Rattle.base.specs.Table.{padded}
use Rattle.scalar.specs.declared.Encoding.{Encoding}

-- Unicode scalar values: all code points but the surrogates
unfoldable pub is_scalar : ℕ → Bool
is_scalar k = ltb k 0xD800 || (leb 0xE000 k && ltb k 0x110000)

-- table 3-6: the bytes of a character, by its bits
unfoldable pub encode_of : ℕ → Bytes
encode_of k =
    pick (ltb k 0x80) (k ∷ [])
    (pick (ltb k 0x800) ((0xC0 + k / 64) ∷ (0x80 + k % 64) ∷ [])
    (pick (ltb k 0x10000) ((0xE0 + k / 4096) ∷ (0x80 + k / 64 % 64) ∷ (0x80 + k % 64) ∷ [])
    ((0xF0 + k / 262144) ∷ (0x80 + k / 4096 % 64) ∷ (0x80 + k / 64 % 64) ∷ (0x80 + k % 64) ∷ [])))

-- the bytes in the first places of four
unfoldable pub scalar_encoding : ℕ → Encoding
scalar_encoding k = record { bytes = padded 0 4 (encode_of k); width = length (encode_of k) }

-- a number that is no character has none
unfoldable pub encoding_of : ℕ → Option Encoding
encoding_of k = pick (is_scalar k) (Some (scalar_encoding k)) None
