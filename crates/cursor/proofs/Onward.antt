-- Where the next character comes from, and that it moves the place on.
use Prim.Native.Nat.{ℕ, ◌+◌, ◌-◌, ◌<◌, ◌≤◌, ◌^◌}
use native.Mathlib.Omega.{arith}
use mathlib.Core.Path.{◌≡◌, refl, sym, ◌∙◌, ap, subst}
use mathlib.Core.Bool.{false}
use Rattle.std.specs.Prelude.{Result, Ok, Err}
use mir.Syntax.{w64}
use mir.Val.{Fits}
use lib.Dec.{eqb}
use lib.ListN.{length, get_or}
use lib.Seq.{drop-cons}
use Rattle.base.specs.Bytes.{Bytes}
use Rattle.base.specs.Choice.{pick, different}
use Rattle.utf8.specs.Elim.{on-Char}
use Rattle.utf8.specs.Utf8.{char_at, char_of, by_row, gathered, fits}
use Rattle.utf8.specs.declared.Char.{Char}
use Rattle.utf8.specs.declared.Char.TheVariants.{Bad, End, Code}
use Rattle.utf8.proofs.Rows.{char_within, one_fits}
use Rattle.cursor.specs.Cursor.{passed, next_char}
use Rattle.cursor.specs.declared.Cursor.{Cursor}

-- a byte below 128 is a character
pub char_ascii : (s : Bytes) (at : ℕ) → at < length s → get_or s at 0 ≤ 0x7F → Code (get_or s at 0) 1 ≡ char_at s at
unfolding char_at char_of by_row gathered pick fits
char_ascii s at h l = rw (drop-cons s at 0 h) (simp (one_fits (get_or s at 0) l))

pub char_fits : (s : Bytes) (at k w : ℕ) (r : Char) → length s < 2 ^ 64 → r ≡ char_at s at → r ≡ Code k w → Fits w64 (at + w)
char_fits s at k w r h e m = let l = char_within s at k w (sym e ∙ m) in record { fits = omega arith }

-- the character that was read, its width, and the place behind it
pub record Read (s : Bytes) (c : Cursor) (k : ℕ) (d : Cursor) : Type 0 where
  pub width : ℕ
  pub char : char_at s c.at ≡ Code k width
  pub behind : d ≡ passed c (c.at + width) (eqb k 10)

abbrev Seen : Bytes → Cursor → Result (ℕ × Cursor) Cursor → Type 0
Seen s c (Err d) = Unit {0}
Seen s c (Ok (k, d)) = Read s c k d

pub read : (s : Bytes) (c d : Cursor) (k : ℕ) → next_char s c ≡ Ok (k, d) → Read s c k d
unfolding next_char on-Char
read s c d k e = subst (Seen s c) e (go (char_at s c.at) refl)
  where
    go : (r : Char) → char_at s c.at ≡ r → Seen s c (on-Char r (Err (passed c c.at false)) (Err (passed c c.at false)) λ k w. Ok (k, passed c (c.at + w) (eqb k 10)))
    go Bad q = tt
    go End q = tt
    go (Code k w) q = record { width = w; char = q; behind = refl }

-- the end: no character stands there, and the place stays
pub record Behind (s : Bytes) (c d : Cursor) : Type 0 where
  pub quiet : (k w : ℕ) → char_at s c.at ≡ Code k w → ⊥
  pub behind : d ≡ passed c c.at false

abbrev Missed : Bytes → Cursor → Result (ℕ × Cursor) Cursor → Type 0
Missed s c (Err d) = Behind s c d
Missed s c (Ok (k, d)) = Unit {0}

pub missed : (s : Bytes) (c d : Cursor) → next_char s c ≡ Err d → Behind s c d
unfolding next_char on-Char
missed s c d e = subst (Missed s c) e (go (char_at s c.at) refl)
  where
    go : (r : Char) → char_at s c.at ≡ r → Missed s c (on-Char r (Err (passed c c.at false)) (Err (passed c c.at false)) λ k w. Ok (k, passed c (c.at + w) (eqb k 10)))
    go Bad q = record { quiet = λ k w m. different cc; behind = refl }
    go End q = record { quiet = λ k w m. different cc; behind = refl }
    go (Code k w) q = tt

pub read_within : (s : Bytes) (c d : Cursor) (k : ℕ) → Read s c k d → (c.at < d.at) × (d.at ≤ length s)
unfolding passed
read_within s c d k r =
    let l = char_within s c.at k r.width r.char in
    let e : d.at ≡ c.at + r.width = ap (λ (x : Cursor). x.at) r.behind in
    (omega arith, omega arith)

module _ (s : Bytes) (c d : Cursor) (k : ℕ) (r : Result (ℕ × Cursor) Cursor) (e : r ≡ next_char s c) (m : r ≡ Ok (k, d)) where
  pub next_within : (c.at < d.at) × (d.at ≤ length s)
  next_within = read_within s c d k (read s c d k (sym e ∙ m))

  pub next_on : length s - d.at < length s - c.at
  next_on = let h = next_within in omega arith
