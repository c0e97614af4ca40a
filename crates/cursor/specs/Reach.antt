-- The places that reading reaches: character by character, and how often it then read the end.
use Rattle.std.specs.Prelude.{ℕ, suc, ◌≤◌, ◌≡◌, Ok, Err}
use Rattle.base.specs.Bytes.{Bytes}
use Rattle.cursor.specs.Cursor.{next_char}
use Rattle.cursor.specs.declared.Cursor.{Cursor}

pub data Reach (s : Bytes) (c : Cursor) : ℕ → Cursor → Type 0 where
  here : Reach s c 0 c
  on : {d e : Cursor} {k : ℕ} → Reach s c 0 d → next_char s d ≡ Ok (k, e) → Reach s c 0 e
  over : {d e : Cursor} {n : ℕ} → Reach s c n d → next_char s d ≡ Err e → Reach s c (suc n) e

-- a place behind so many readings of the end at most
pub record Within (most : ℕ) (s : Bytes) (c d : Cursor) : Type 0 where
  pub ends : ℕ
  pub few : ends ≤ most
  pub reach : Reach s c ends d

-- the end, read once or twice
pub record AtEnd (s : Bytes) (c d : Cursor) : Type 0 where
  pub ends : ℕ
  pub few : ends ≤ 1
  pub reach : Reach s c (suc ends) d

-- the character that a token begins with: its place was reached, and it was read there
pub record Begun (s : Bytes) (c : Cursor) (at k : ℕ) (d : Cursor) : Type 0 where
  pub place : Cursor
  pub reach : Reach s c 0 place
  pub is : at ≡ place.at
  pub char : next_char s place ≡ Ok (k, d)
