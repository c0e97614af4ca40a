-- All tokens of a text with their lines and characters, or the error.
use Rattle.std.specs.Prelude.{ℕ, zero, suc, List, [], ◌∷◌, length}
use Rattle.base.specs.Bytes.{Bytes}
use Rattle.cursor.specs.Cursor.{start}
use Rattle.cursor.specs.declared.Cursor.{Cursor}
use Rattle.token.specs.Elim.{on_step}
use Rattle.token.specs.Step.{step_of}
use Rattle.token_kind.specs.declared.Token.{Token}

-- a token, and the line and character that it begins at
pub record TokenAt : Type 0 where
  pub token : Token
  pub line : ℕ
  pub character : ℕ

abbrev pub token_at : Token → ℕ → ℕ → TokenAt
token_at t l c = record { token = t; line = l; character = c }

pub data Tokens : Type 0 where
  -- reason, line, character
  wrong : ℕ → ℕ → ℕ → Tokens
  -- and the line and character reached at the end
  listed : List TokenAt → ℕ → ℕ → Tokens

abbrev pub put : TokenAt → Tokens → Tokens
put t (wrong r l c) = wrong r l c
put t (listed ts l c) = listed (t ∷ ts) l c

-- step by step, so many at most
unfoldable pub tokens_from : ℕ → Bytes → Cursor → Tokens
tokens_from zero s c = listed [] c.line c.character
tokens_from (suc n) s c =
    on_step (step_of s c) (λ e. wrong e.reason e.line e.character) (λ d. listed [] d.line d.character) λ t line character d.
    put (token_at t line character) (tokens_from n s d)

-- a text has no more tokens than bytes
unfoldable pub tokens : Bytes → Tokens
tokens s = tokens_from (suc (length s)) s start
