-- The rows of the table of well-formed sequences, as the code goes through them, and the character that a row gives.
use Prim.Native.Nat.{ℕ, suc, ◌+◌, ◌<◌, ◌≤◌}
use native.Mathlib.Omega.{arith}
use mathlib.Core.Path.{◌≡◌, refl, sym, ◌∙◌, ap}
use mathlib.Core.Bool.{true, false, ◌&&◌}
use mathlib.Core.List.{List, [], ◌∷◌}
use lib.Dec.{leb, leb-zero}
use lib.ListN.{length, get_or, drop, length-drop}
use lib.Seq.{drop-cons, get_or-drop}
use borrow.Author.Tests.{le-leb, lt-leb, leb-true}
use Rattle.std.specs.List.{AllByRecursion}
use Rattle.std.proofs.Common.{rules}
use Rattle.base.specs.Bytes.{Bytes}
use Rattle.base.specs.Choice.{pick, by-test, clash, and_left, and_right}
use Rattle.utf8.specs.Utf8.{Span, span, fits, gathered, by_row, well_formed, char_of, char_at, decode_of}
use Rattle.utf8.specs.declared.Char.{Char}
use Rattle.utf8.specs.declared.Char.TheVariants.{Code}

-- the row of one byte
pub one_fits : (a : ℕ) → a ≤ 0x7F → fits (span 0 0x7F ∷ []) (a ∷ []) ≡ true
unfolding fits
one_fits a h = simp (leb-zero, le-leb _ _ h)

pub one_not : (a : ℕ) → 0x7F < a → fits (span 0 0x7F ∷ []) (a ∷ []) ≡ false
unfolding fits
one_not a h = simp (leb-zero, lt-leb _ _ h)

-- a byte past the end counts as 0
pub row_decoded : (a : ℕ) (l : Bytes) → decode_of a (get_or l 0 0) (get_or l 1 0) (get_or l 2 0) ≡ by_row well_formed (a ∷ l)
unfolding decode_of by_row fits gathered
row_decoded a [] = refl
row_decoded a (b ∷ []) = refl
row_decoded a (b ∷ c ∷ []) = refl
row_decoded a (b ∷ c ∷ d ∷ l) = refl

pub char_in :
    (s : Bytes) (at : ℕ) (b c d : ℕ) (r : Char)
    → at < length s
    → b ≡ get_or s (at + 1) 0
    → c ≡ get_or s (at + 2) 0
    → d ≡ get_or s (at + 3) 0
    → r ≡ decode_of (get_or s at 0) b c d
    → r ≡ char_at s at
unfolding char_at char_of
char_in s at b c d r h p q u e =
    let l = drop (suc at) s in
    let p' : b ≡ get_or l 0 0 = p ∙ ap (λ (i : ℕ). get_or s i 0) (omega arith) ∙ sym (get_or-drop (suc at) s 0 0) in
    let q' : c ≡ get_or l 1 0 = q ∙ ap (λ (i : ℕ). get_or s i 0) (omega arith) ∙ sym (get_or-drop (suc at) s 1 0) in
    let u' : d ≡ get_or l 2 0 = u ∙ ap (λ (i : ℕ). get_or s i 0) (omega arith) ∙ sym (get_or-drop (suc at) s 2 0) in
    rw (drop-cons s at 0 h) (e ∙ rw (p', q', u') (row_decoded (get_or s at 0) l))

-- a character is of a row of the table: its bytes fit the row, which gives its width and its bits; P is known of each row
pub record OfRow (P : List Span → Type 0) (s : Bytes) (k w : ℕ) : Type 0 where
  pub row : List Span
  pub known : P row
  pub fitting : fits row s ≡ true
  pub width : w ≡ length row
  pub bits : k ≡ gathered (length row) s

module _ (P : List Span → Type 0) where
  of_row : (rows : List (List Span)) → AllByRecursion P rows → (s : Bytes) (k w : ℕ) → by_row rows s ≡ Code k w → OfRow P s k w
  unfolding by_row pick
  of_row [] p s k w e = absurd (cc)
  of_row (r ∷ rs) p s k w e =
      by-test (fits r s)
      (λ t.
      let q : Code (gathered (length r) s) (length r) ≡ Code k w = rw t at e in
      record { row = r; known = p.0; fitting = t; width = cc; bits = cc })
      (λ t. of_row rs p.1 s k w (rw t at e))

  pub char_row : AllByRecursion P well_formed → (s : Bytes) (k w : ℕ) → char_of s ≡ Code k w → OfRow P s k w
  unfolding char_of
  char_row p [] k w e = absurd (cc)
  char_row p (b ∷ s) k w e = of_row well_formed p (b ∷ s) k w e

-- bytes that fit a row: the first is in the first range, the others fit the other ranges
pub record Fitting (r : Span) (rs : List Span) (s : Bytes) : Type 0 where
  pub first : ℕ
  pub others : Bytes
  pub is : s ≡ first ∷ others
  pub low : r.low ≤ first
  pub high : first ≤ r.high
  pub rest : fits rs others ≡ true

pub fitting : (r : Span) (rs : List Span) (s : Bytes) → fits (r ∷ rs) s ≡ true → Fitting r rs s
unfolding fits
fitting r rs [] e = clash e refl
fitting r rs (b ∷ s) e =
    let p = and_left (leb r.low b && leb b r.high) (fits rs s) e in
    record {
      first = b;
      others = s;
      is = refl;
      low = leb-true _ _ (and_left (leb r.low b) (leb b r.high) p);
      high = leb-true _ _ (and_right (leb r.low b) (leb b r.high) p);
      rest = and_right (leb r.low b && leb b r.high) (fits rs s) e;
    }

fits_length : (rs : List Span) (s : Bytes) → fits rs s ≡ true → length rs ≤ length s
unfolding fits
fits_length [] s e = omega arith
fits_length (r ∷ rs) [] e = clash e refl
fits_length (r ∷ rs) (b ∷ s) e =
    let h = fits_length rs s (and_right (leb r.low b && leb b r.high) (fits rs s) e) in omega arith

-- each row of the table has one to four ranges
abbrev OneToFour : List Span → Type 0
OneToFour r = (1 ≤ length r) × (length r ≤ 4)

row_widths : AllByRecursion OneToFour well_formed
row_widths = search rules

-- a character has one to four bytes, and they lie within the text
pub char_within : (s : Bytes) (at k w : ℕ) → char_at s at ≡ Code k w → (1 ≤ w) × (w ≤ 4) × (at + w ≤ length s)
unfolding char_at
char_within s at k w e =
    let o = char_row OneToFour row_widths (drop at s) k w e in
    let h = o.known in
    let l = fits_length o.row (drop at s) o.fitting in
    let d = length-drop at s in
    let q = o.width in
    (omega arith, omega arith, omega arith)
