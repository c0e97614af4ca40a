-- Lines and characters of a text, from its characters alone: what the numbers of a cursor mean.
use Rattle.std.specs.Prelude.{ℕ, zero, suc, ◌+◌, ◌≡◌, List, [], ◌∷◌, eqb}
use Rattle.base.specs.Bytes.{Bytes}
use Rattle.base.specs.Choice.{pick}
use Rattle.utf8.specs.Utf8.{char_at}
use Rattle.utf8.specs.declared.Char.TheVariants.{Code}

-- the characters of a text up to a place, the last one first
pub data Text (s : Bytes) : List ℕ → ℕ → Type 0 where
  empty : Text s [] 0
  next : {ks : List ℕ} {at k w : ℕ} → Text s ks at → char_at s at ≡ Code k w → Text s (k ∷ ks) (at + w)

unfoldable pub newlines : List ℕ → ℕ
newlines [] = 0
newlines (k ∷ ks) = pick (eqb k 10) (suc (newlines ks)) (newlines ks)

-- how many characters stand behind the last newline
unfoldable pub since : List ℕ → ℕ
since [] = 0
since (k ∷ ks) = pick (eqb k 10) 0 (suc (since ks))

-- The line and character of the last character read, one line more than the newlines before it: a newline belongs to
-- the line that it ends. Each reading of the end counts as a character behind the text.
abbrev pub line_of : ℕ → List ℕ → ℕ
line_of zero [] = 1
line_of zero (k ∷ ks) = suc (newlines ks)
line_of (suc n) ks = suc (newlines ks)

abbrev pub character_of : ℕ → List ℕ → ℕ
character_of zero [] = 0
character_of zero (k ∷ ks) = suc (since ks)
character_of (suc n) ks = since ks + suc n

-- a place with its line and character, the end read so often
pub record Position (s : Bytes) (ends at line character : ℕ) : Type 0 where
  pub read : List ℕ
  pub text : Text s read at
  pub on_line : line ≡ line_of ends read
  pub on_character : character ≡ character_of ends read
