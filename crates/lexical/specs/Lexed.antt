-- The tokens that stand in the bytes of a text by the lexical grammar, and what a step of the tokenizer has to do with them.
use Rattle.std.specs.Prelude.{ℕ, zero, suc, ◌+◌, ◌≡◌, [], ◌∷◌, ◌++◌, length, Ok}
use Rattle.base.specs.Bytes.{Bytes}
use Rattle.base.specs.declared.Range.{Range}
use Rattle.utf8.specs.Elim.{on-Char}
use Rattle.utf8.specs.Utf8.{char_at}
use Rattle.utf8.specs.declared.Char.TheVariants.{Code}
use Rattle.cursor.specs.declared.Cursor.{Cursor}
use Rattle.token.specs.Read.{range}
use Rattle.token.specs.Step.{step_of}
use Rattle.token.specs.declared.Step.TheVariants.{End, Took}
use Rattle.token_kind.specs.declared.Token.{Token}
use Rattle.lexical.specs.Lexical.{Chars, IsBlank, IsToken}

-- the characters of a text from a place on; bytes that are no character count as the end
unfoldable pub characters_from : ℕ → Bytes → ℕ → Chars
characters_from zero s at = []
characters_from (suc n) s at = on-Char (char_at s at) [] [] λ k w. k ∷ characters_from n s (at + w)

unfoldable pub characters_at : Bytes → ℕ → Chars
characters_at s at = characters_from (suc (length s)) s at

-- these characters stand in the text from one place to another
pub data Reads (s : Bytes) : ℕ → Chars → ℕ → Type 0 where
  nothing : {at : ℕ} → Reads s at [] at
  next : {at k w to : ℕ} {ks : Chars} → char_at s at ≡ Code k w → Reads s (at + w) ks to → Reads s at (k ∷ ks) to

-- From a place on stand blanks, then a token up to another place. Its own place is `place`, that of its name is from `from` to `end`.
pub record Lexed (s : Bytes) (at : ℕ) (t : Token) (to : ℕ) : Type 0 where
  pub blanks : Chars
  pub before : Chars
  pub name : Chars
  pub after : Chars
  pub word : Range → Token
  pub place : ℕ
  pub from : ℕ
  pub end : ℕ
  pub is_blank : IsBlank blanks (before ++ (name ++ (after ++ characters_at s to)))
  pub is_token : IsToken before name after (characters_at s to) word
  pub skipped : Reads s at blanks place
  pub opened : Reads s place before from
  pub named : Reads s from name end
  pub closed : Reads s end after to
  pub is : t ≡ word (range from end)

-- Exactly those tokens are read ..
abbrev pub Sound : Type 0
Sound =
    (s : Bytes) (c d : Cursor) (t : Token) (line character : ℕ)
    → step_of s c ≡ Ok (Took t line character d)
    → Lexed s c.at t d.at

abbrev pub Complete : Type 0
Complete =
    (s : Bytes) (c : Cursor) (t : Token) (to : ℕ)
    → Lexed s c.at t to
    → (line : ℕ) × ((character : ℕ) × ((d : Cursor) × ((step_of s c ≡ Ok (Took t line character d)) × (d.at ≡ to))))

-- .. so at each place there is one at most ..
abbrev pub OneToken : Type 0
OneToken =
    (s : Bytes) (at : ℕ) (t u : Token) (to to' : ℕ)
    → Lexed s at t to
    → Lexed s at u to'
    → (t ≡ u) × (to ≡ to')

-- .. and the end exactly where only blanks are left.
abbrev pub SoundEnd : Type 0
SoundEnd = (s : Bytes) (c d : Cursor) → step_of s c ≡ Ok (End d) → IsBlank (characters_at s c.at) []

abbrev pub CompleteEnd : Type 0
CompleteEnd = (s : Bytes) (c : Cursor) → IsBlank (characters_at s c.at) [] → (d : Cursor) × (step_of s c ≡ Ok (End d))
