-- Decoding and encoding are inverse: every scalar value is read back from its bytes, and what is read is encoded by just those bytes.
use Prim.Native.Nat.{ℕ, ◌+◌, ◌-◌, ◌*◌, ◌/◌, ◌%◌, ◌<◌, ◌≤◌}
use native.Mathlib.Omega.{arith}
use mathlib.Core.Path.{◌≡◌, refl, sym, ◌∙◌, ap}
use mathlib.Core.Bool.{true, ◌&&◌}
use mathlib.Core.Logic.{◌⊎◌, inl, inr}
use mathlib.Core.List.{List, [], ◌∷◌, ◌++◌}
use lib.Dec.{leb, ltb}
use lib.ListN.{length, take, drop}
use borrow.Author.Tests.{lt-ltb, le-ltb, le-leb, lt-leb, ltb-true, ltb-false, leb-true}
use Rattle.std.specs.List.{AllByRecursion}
use Rattle.base.specs.Bytes.{Bytes}
use Rattle.base.specs.Choice.{pick, by-test, and_left, and_right}
use Rattle.scalar.specs.Scalar.{is_scalar, encode_of}
use Rattle.utf8.specs.Utf8.{Span, span, tail, fits, gathered, by_row, well_formed, char_of}
use Rattle.utf8.specs.declared.Char.TheVariants.{Code}
use Rattle.utf8.proofs.Rows.{char_row, fitting}

-- the encodings of each width
module _ (k : ℕ) where
  one_byte : k < 0x80 → encode_of k ≡ k ∷ []
  unfolding encode_of pick
  one_byte h = simp (lt-ltb _ _ h)

  two_bytes : 0x80 ≤ k → k < 0x800 → encode_of k ≡ (0xC0 + k / 64) ∷ (0x80 + k % 64) ∷ []
  unfolding encode_of pick
  two_bytes g h = simp (le-ltb _ _ g, lt-ltb _ _ h)

  three_bytes : 0x800 ≤ k → k < 0x10000 → encode_of k ≡ (0xE0 + k / 4096) ∷ (0x80 + k / 64 % 64) ∷ (0x80 + k % 64) ∷ []
  unfolding encode_of pick
  three_bytes g h = let l : 0x80 ≤ k = omega arith in simp (le-ltb _ _ l, le-ltb _ _ g, lt-ltb _ _ h)

  four_bytes :
      0x10000 ≤ k
      → encode_of k ≡ (0xF0 + k / 262144) ∷ (0x80 + k / 4096 % 64) ∷ (0x80 + k / 64 % 64) ∷ (0x80 + k % 64) ∷ []
  unfolding encode_of pick
  four_bytes g =
      let l : 0x80 ≤ k = omega arith in
      let m : 0x800 ≤ k = omega arith in
      simp (le-ltb _ _ l, le-ltb _ _ m, le-ltb _ _ g)

-- going down the rows
pass : (r : Span) (rs : List Span) (rows : List (List Span)) (b : ℕ) (s : Bytes) → (b < r.low) ⊎ (r.high < b)
    → by_row ((r ∷ rs) ∷ rows) (b ∷ s) ≡ by_row rows (b ∷ s)
unfolding by_row fits pick
pass r rs rows b s (inl h) = simp (lt-leb _ _ h)
pass r rs rows b s (inr h) =
    by-test (leb r.low b) (λ e. simp (e, lt-leb _ _ h)) (λ e. simp e)

hit : (r : List Span) (rows : List (List Span)) (s : Bytes) → fits r s ≡ true → by_row (r ∷ rows) s ≡ Code (gathered (length r) s) (length r)
unfolding by_row pick
hit r rows s h = simp h

fit : (r : Span) (rs : List Span) (b : ℕ) (s : Bytes) → r.low ≤ b → b ≤ r.high → fits rs s ≡ true → fits (r ∷ rs) (b ∷ s) ≡ true
unfolding fits
fit r rs b s h g t = simp (le-leb _ _ h, le-leb _ _ g, t)

fit_end : (s : Bytes) → fits [] s ≡ true
unfolding fits
fit_end s = refl

-- the bits of a byte in the middle, and a number by its digits to the base 64
middle : (x : ℕ) → x < 64 → (0x80 + x) % 64 ≡ x
middle x h = omega arith

digits_2 : (k : ℕ) → k ≡ k / 64 * 64 + k % 64
digits_2 k = omega arith

digits_3 : (k : ℕ) → k / 64 ≡ k / 4096 * 64 + k / 64 % 64
digits_3 k = omega arith

digits_4 : (k : ℕ) → k / 4096 ≡ k / 262144 * 64 + k / 4096 % 64
digits_4 k = omega arith

rest_64 : (x : ℕ) → x % 64 < 64
rest_64 x = omega arith

bits_4 :
    (k : ℕ)
    → k < 0x110000
    → (0xF0 + k / 262144) % 8 * 262144 + (0x80 + k / 4096 % 64) % 64 * 4096 + (0x80 + k / 64 % 64) % 64 * 64 + (0x80 + k % 64) % 64 ≡ k
bits_4 k h =
    let a : (0xF0 + k / 262144) % 8 ≡ k / 262144 = omega arith in
    rw (a, middle (k / 4096 % 64) (rest_64 (k / 4096)), middle (k / 64 % 64) (rest_64 (k / 64)), middle (k % 64) (rest_64 k))
    (whole (k / 262144) (k / 4096) (k / 4096 % 64) (k / 64) (k / 64 % 64) (k % 64) (digits_4 k) (digits_3 k) (digits_2 k))
  where
    whole : (p m q n r t : ℕ) → m ≡ p * 64 + q → n ≡ m * 64 + r → k ≡ n * 64 + t → p * 262144 + q * 4096 + r * 64 + t ≡ k
    whole p m q n r t x y z = omega arith

-- a character's bytes at the start of a text, by the rows of the table
module _ (k : ℕ) (s : Bytes) where
  back_1 : k < 0x80 → char_of (encode_of k ++ s) ≡ Code k (length (encode_of k))
  unfolding char_of gathered
  back_1 h =
      rw (one_byte k h)
      (hit _ _ _ (fit (span 0x00 0x7F) [] k s (omega arith) (omega arith) (fit_end s)))

  back_2 : 0x80 ≤ k → k < 0x800 → char_of (encode_of k ++ s) ≡ Code k (length (encode_of k))
  unfolding char_of gathered
  back_2 g h =
      let a = 0xC0 + k / 64 in
      let b = 0x80 + k % 64 in
      let bits : a % 32 * 64 + b % 64 ≡ k = omega arith in
      rw (two_bytes k g h)
      (pass (span 0x00 0x7F) _ _ a (b ∷ s) (inr (omega arith))
      ∙ hit _ _ _
      (fit (span 0xC2 0xDF) _ a (b ∷ s) (omega arith) (omega arith)
      (fit tail _ b s (omega arith) (omega arith) (fit_end s)))
      ∙ ap (λ (x : ℕ). Code x 2) bits)

  module _ (g : 0x800 ≤ k) (h : k < 0x10000) where
    abbrev a₃ : ℕ
    a₃ = 0xE0 + k / 4096

    abbrev b₃ : ℕ
    b₃ = 0x80 + k / 64 % 64

    abbrev c₃ : ℕ
    c₃ = 0x80 + k % 64

    -- by the row of ranges p for the first byte and q for the second
    fit_3 : (p q : Span) → p.low ≤ a₃ → a₃ ≤ p.high → q.low ≤ b₃ → b₃ ≤ q.high
        → fits (p ∷ q ∷ tail ∷ []) (a₃ ∷ b₃ ∷ c₃ ∷ s) ≡ true
    fit_3 p q al ah bl bh =
        fit p _ a₃ (b₃ ∷ c₃ ∷ s) al ah (fit q _ b₃ (c₃ ∷ s) bl bh (fit tail _ c₃ s (omega arith) (omega arith) (fit_end s)))

    row_3 : by_row well_formed (a₃ ∷ b₃ ∷ c₃ ∷ s) ≡ Code (gathered 3 (a₃ ∷ b₃ ∷ c₃ ∷ s)) 3
        → char_of (encode_of k ++ s) ≡ Code k (length (encode_of k))
    unfolding char_of gathered
    row_3 e =
        let bits : a₃ % 16 * 4096 + b₃ % 64 * 64 + c₃ % 64 ≡ k = omega arith in
        rw (three_bytes k g h) (e ∙ ap (λ (x : ℕ). Code x 3) bits)

    skip_2 : by_row well_formed (a₃ ∷ b₃ ∷ c₃ ∷ s) ≡ by_row (drop 2 well_formed) (a₃ ∷ b₃ ∷ c₃ ∷ s)
    skip_2 =
        pass (span 0x00 0x7F) _ _ a₃ (b₃ ∷ c₃ ∷ s) (inr (omega arith))
        ∙ pass (span 0xC2 0xDF) _ _ a₃ (b₃ ∷ c₃ ∷ s) (inr (omega arith))

    skip_3 : 0x1000 ≤ k → by_row well_formed (a₃ ∷ b₃ ∷ c₃ ∷ s) ≡ by_row (drop 3 well_formed) (a₃ ∷ b₃ ∷ c₃ ∷ s)
    skip_3 l = skip_2 ∙ pass (span 0xE0 0xE0) _ _ a₃ (b₃ ∷ c₃ ∷ s) (inr (omega arith))

    skip_4 : 0xD000 ≤ k → by_row well_formed (a₃ ∷ b₃ ∷ c₃ ∷ s) ≡ by_row (drop 4 well_formed) (a₃ ∷ b₃ ∷ c₃ ∷ s)
    skip_4 l = skip_3 (omega arith) ∙ pass (span 0xE1 0xEC) _ _ a₃ (b₃ ∷ c₃ ∷ s) (inr (omega arith))

    skip_5 : 0xE000 ≤ k → by_row well_formed (a₃ ∷ b₃ ∷ c₃ ∷ s) ≡ by_row (drop 5 well_formed) (a₃ ∷ b₃ ∷ c₃ ∷ s)
    skip_5 l = skip_4 (omega arith) ∙ pass (span 0xED 0xED) _ _ a₃ (b₃ ∷ c₃ ∷ s) (inr (omega arith))

    back_3 : (k < 0xD800) ⊎ (0xE000 ≤ k) → char_of (encode_of k ++ s) ≡ Code k (length (encode_of k))
    back_3 (inr l) =
        row_3 (skip_5 l ∙ hit _ _ _ (fit_3 (span 0xEE 0xEF) tail (omega arith) (omega arith) (omega arith) (omega arith)))
    back_3 (inl l) =
        by-test (ltb k 0x1000)
        (λ e. let m = ltb-true k 0x1000 e in
        row_3 (skip_2 ∙ hit _ _ _ (fit_3 (span 0xE0 0xE0) (span 0xA0 0xBF) (omega arith) (omega arith) (omega arith) (omega arith))))
        (λ e. let m = ltb-false k 0x1000 e in
        by-test (ltb k 0xD000)
        (λ d. let n = ltb-true k 0xD000 d in
        row_3 (skip_3 m ∙ hit _ _ _ (fit_3 (span 0xE1 0xEC) tail (omega arith) (omega arith) (omega arith) (omega arith))))
        (λ d. let n = ltb-false k 0xD000 d in
        row_3 (skip_4 n ∙ hit _ _ _ (fit_3 (span 0xED 0xED) (span 0x80 0x9F) (omega arith) (omega arith) (omega arith) (omega arith)))))

  module _ (g : 0x10000 ≤ k) (h : k < 0x110000) where
    abbrev a₄ : ℕ
    a₄ = 0xF0 + k / 262144

    abbrev b₄ : ℕ
    b₄ = 0x80 + k / 4096 % 64

    abbrev r₄ : Bytes
    r₄ = b₄ ∷ (0x80 + k / 64 % 64) ∷ (0x80 + k % 64) ∷ s

    fit_4 : (p q : Span) → p.low ≤ a₄ → a₄ ≤ p.high → q.low ≤ b₄ → b₄ ≤ q.high
        → fits (p ∷ q ∷ tail ∷ tail ∷ []) (a₄ ∷ r₄) ≡ true
    fit_4 p q al ah bl bh =
        fit p _ a₄ _ al ah
        (fit q _ b₄ _ bl bh
        (fit tail _ _ _ (omega arith) (omega arith) (fit tail _ _ s (omega arith) (omega arith) (fit_end s))))

    row_4 : by_row well_formed (a₄ ∷ r₄) ≡ Code (gathered 4 (a₄ ∷ r₄)) 4
        → char_of (encode_of k ++ s) ≡ Code k (length (encode_of k))
    unfolding char_of gathered
    row_4 e =
        rw (four_bytes k g) (e ∙ ap (λ (x : ℕ). Code x 4) (bits_4 k h))

    skip_6 : by_row well_formed (a₄ ∷ r₄) ≡ by_row (drop 6 well_formed) (a₄ ∷ r₄)
    skip_6 =
        pass (span 0x00 0x7F) _ _ a₄ r₄ (inr (omega arith))
        ∙ pass (span 0xC2 0xDF) _ _ a₄ r₄ (inr (omega arith))
        ∙ pass (span 0xE0 0xE0) _ _ a₄ r₄ (inr (omega arith))
        ∙ pass (span 0xE1 0xEC) _ _ a₄ r₄ (inr (omega arith))
        ∙ pass (span 0xED 0xED) _ _ a₄ r₄ (inr (omega arith))
        ∙ pass (span 0xEE 0xEF) _ _ a₄ r₄ (inr (omega arith))

    back_4 : char_of (encode_of k ++ s) ≡ Code k (length (encode_of k))
    back_4 =
        by-test (ltb k 0x40000)
        (λ e. let m = ltb-true k 0x40000 e in
        row_4 (skip_6 ∙ hit _ _ _ (fit_4 (span 0xF0 0xF0) (span 0x90 0xBF) (omega arith) (omega arith) (omega arith) (omega arith))))
        (λ e. let m = ltb-false k 0x40000 e in
        let skip-7 = skip_6 ∙ pass (span 0xF0 0xF0) _ _ a₄ r₄ (inr (omega arith)) in
        by-test (ltb k 0x100000)
        (λ d. let n = ltb-true k 0x100000 d in
        row_4 (skip-7 ∙ hit _ _ _ (fit_4 (span 0xF1 0xF3) tail (omega arith) (omega arith) (omega arith) (omega arith))))
        (λ d. let n = ltb-false k 0x100000 d in
        row_4
        (skip-7
        ∙ pass (span 0xF1 0xF3) _ _ a₄ r₄ (inr (omega arith))
        ∙ hit _ _ _ (fit_4 (span 0xF4 0xF4) (span 0x80 0x8F) (omega arith) (omega arith) (omega arith) (omega arith)))))

-- a scalar value is below the surrogates, or above them and at most U+10FFFF
scalar_cases : (k : ℕ) → is_scalar k ≡ true → (k < 0xD800) ⊎ ((0xE000 ≤ k) × (k < 0x110000))
unfolding is_scalar
scalar_cases k e =
    by-test (ltb k 0xD800)
    (λ p. inl (ltb-true k 0xD800 p))
    (λ p.
    let q : (leb 0xE000 k && ltb k 0x110000) ≡ true = rw p at e in
    inr (leb-true 0xE000 k (and_left (leb 0xE000 k) (ltb k 0x110000) q), ltb-true k 0x110000 (and_right (leb 0xE000 k) (ltb k 0x110000) q)))

-- every scalar value is read back from its bytes, whatever follows them
pub decode_encode : (k : ℕ) (s : Bytes) → is_scalar k ≡ true → char_of (encode_of k ++ s) ≡ Code k (length (encode_of k))
decode_encode k s e = go (scalar_cases k e)
  where
    go : (k < 0xD800) ⊎ ((0xE000 ≤ k) × (k < 0x110000)) → char_of (encode_of k ++ s) ≡ Code k (length (encode_of k))
    go (inl h) =
        by-test (ltb k 0x80)
        (λ p. back_1 k s (ltb-true k 0x80 p))
        (λ p.
        by-test (ltb k 0x800)
        (λ q. back_2 k s (ltb-false k 0x80 p) (ltb-true k 0x800 q))
        (λ q. back_3 k s (ltb-false k 0x800 q) (omega arith) (inl h)))
    go (inr h) =
        by-test (ltb k 0x10000)
        (λ p. back_3 k s (omega arith) (ltb-true k 0x10000 p) (inr h.0))
        (λ p. back_4 k s (ltb-false k 0x10000 p) h.1)

infixr 3 ◌&◌
-- of the first row of a table, and of the others
◌&◌ : {A B : Type 0} → A → B → A × B
◌&◌ a b = (a, b)

-- and what is read is a scalar value, encoded by just the bytes read
pub record Encoded (s : Bytes) (k w : ℕ) : Type 0 where
  pub scalar : is_scalar k ≡ true
  pub bytes : take w s ≡ encode_of k
  pub width : w ≡ length (encode_of k)

scalar_low : (k : ℕ) → k < 0xD800 → is_scalar k ≡ true
unfolding is_scalar
scalar_low k h = simp (lt-ltb _ _ h)

scalar_high : (k : ℕ) → 0xE000 ≤ k → k < 0x110000 → is_scalar k ≡ true
unfolding is_scalar
scalar_high k g h = let l : 0xD800 ≤ k = omega arith in simp (le-ltb _ _ l, le-leb _ _ g, lt-ltb _ _ h)

encoded : (s t : Bytes) (k w : ℕ) (bs : Bytes) → s ≡ bs ++ t → w ≡ length bs → is_scalar k ≡ true → encode_of k ≡ bs → Encoded s k w
encoded s t k w bs e q p d =
    record {
      scalar = p;
      bytes = rw (e, q, lib.Seq.take-append_seam bs t) (sym d);
      width = rw d q;
    }

-- the four bytes of a number that was gathered from them
split_4 :
    (a b c d k : ℕ)
    → k ≡ a % 8 * 262144 + b % 64 * 4096 + c % 64 * 64 + d % 64
    → 0xF0 ≤ a
    → a ≤ 0xF7
    → 0x80 ≤ b
    → b ≤ 0xBF
    → 0x80 ≤ c
    → c ≤ 0xBF
    → 0x80 ≤ d
    → d ≤ 0xBF
    → (0xF0 + k / 262144 ≡ a) × (0x80 + k / 4096 % 64 ≡ b) × (0x80 + k / 64 % 64 ≡ c) × (0x80 + k % 64 ≡ d)
split_4 a b c d k v al ah bl bh cl ch dl dh =
    go (a - 0xF0) (b - 0x80) (c - 0x80) (d - 0x80) (omega arith) (omega arith) (omega arith) (omega arith)
    (v ∙ rw (lead, low b bl bh, low c cl ch, low d dl dh))
  where
    lead : a % 8 ≡ a - 0xF0
    lead = omega arith

    low : (x : ℕ) → 0x80 ≤ x → x ≤ 0xBF → x % 64 ≡ x - 0x80
    low x l h = omega arith

    go : (p q r t : ℕ) → a ≡ 0xF0 + p → (b ≡ 0x80 + q) × (q < 64) → (c ≡ 0x80 + r) × (r < 64) → (d ≡ 0x80 + t) × (t < 64)
        → k ≡ p * 262144 + q * 4096 + r * 64 + t
        → (0xF0 + k / 262144 ≡ a) × (0x80 + k / 4096 % 64 ≡ b) × (0x80 + k / 64 % 64 ≡ c) × (0x80 + k % 64 ≡ d)
    go p q r t e f g h u = (omega arith, omega arith, omega arith, omega arith)

module _ (s : Bytes) (k w : ℕ) where
  of_1 : (p : Span) → p.high ≤ 0x7F → fits (p ∷ []) s ≡ true → w ≡ 1 → k ≡ gathered 1 s → Encoded s k w
  unfolding gathered
  of_1 p l e q g =
      let f = fitting p [] s e in
      let a = f.first in
      let ah = f.high in
      let v : k ≡ a = g ∙ ap (gathered 1) f.is in
      encoded s f.others k w (a ∷ []) f.is q (scalar_low k (omega arith)) (one_byte k (omega arith) ∙ ap (λ (x : ℕ). x ∷ []) v)

  of_2 : (p : Span) → 0xC2 ≤ p.low → p.high ≤ 0xDF → fits (p ∷ tail ∷ []) s ≡ true → w ≡ 2 → k ≡ gathered 2 s → Encoded s k w
  unfolding gathered
  of_2 p l m e q g =
      let f = fitting p (tail ∷ []) s e in
      let f₂ = fitting tail [] f.others f.rest in
      let a = f.first in
      let b = f₂.first in
      let al = f.low in
      let ah = f.high in
      let bl = f₂.low in
      let bh = f₂.high in
      let is : s ≡ a ∷ b ∷ f₂.others = f.is ∙ ap (◌∷◌ a) f₂.is in
      let v : k ≡ a % 32 * 64 + b % 64 = g ∙ ap (gathered 2) is in
      let x : 0xC0 + k / 64 ≡ a = omega arith in
      let y : 0x80 + k % 64 ≡ b = omega arith in
      encoded s f₂.others k w (a ∷ b ∷ []) is q (scalar_low k (omega arith)) (two_bytes k (omega arith) (omega arith) ∙ rw (x, y))

  of_3 :
      (p q : Span)
      → 0xE0 ≤ p.low
      → p.high ≤ 0xEF
      → 0x80 ≤ q.low
      → q.high ≤ 0xBF
      →
      ((a b c : ℕ) → p.low ≤ a → a ≤ p.high → q.low ≤ b → b ≤ q.high → k ≡ a % 16 * 4096 + b % 64 * 64 + c % 64 →
      (0x800 ≤ k) × (is_scalar k ≡ true))
      → fits (p ∷ q ∷ tail ∷ []) s ≡ true
      → w ≡ 3
      → k ≡ gathered 3 s
      → Encoded s k w
  unfolding gathered
  of_3 p q pl ph ql qh ok e u g =
      let f = fitting p (q ∷ tail ∷ []) s e in
      let f₂ = fitting q (tail ∷ []) f.others f.rest in
      let f₃ = fitting tail [] f₂.others f₂.rest in
      let a = f.first in
      let b = f₂.first in
      let c = f₃.first in
      let al = f.low in
      let ah = f.high in
      let bl = f₂.low in
      let bh = f₂.high in
      let cl = f₃.low in
      let ch = f₃.high in
      let is : s ≡ a ∷ b ∷ c ∷ f₃.others = f.is ∙ ap (◌∷◌ a) (f₂.is ∙ ap (◌∷◌ b) f₃.is) in
      let v : k ≡ a % 16 * 4096 + b % 64 * 64 + c % 64 = g ∙ ap (gathered 3) is in
      let o = ok a b c al ah bl bh v in
      let x : 0xE0 + k / 4096 ≡ a = omega arith in
      let y : 0x80 + k / 64 % 64 ≡ b = omega arith in
      let z : 0x80 + k % 64 ≡ c = omega arith in
      encoded s f₃.others k w (a ∷ b ∷ c ∷ []) is u o.1 (three_bytes k o.0 (omega arith) ∙ rw (x, y, z))

  of_4 :
      (p q : Span)
      → 0xF0 ≤ p.low
      → p.high ≤ 0xF4
      → 0x80 ≤ q.low
      → q.high ≤ 0xBF
      →
      ((a b n : ℕ) → p.low ≤ a → a ≤ p.high → q.low ≤ b → b ≤ q.high → n < 4096 → k ≡ a % 8 * 262144 + b % 64 *
      4096 + n → (0x10000 ≤ k) × (k < 0x110000))
      → fits (p ∷ q ∷ tail ∷ tail ∷ []) s ≡ true
      → w ≡ 4
      → k ≡ gathered 4 s
      → Encoded s k w
  unfolding gathered
  of_4 p q pl ph ql qh ok e u g =
      let f = fitting p (q ∷ tail ∷ tail ∷ []) s e in
      let f₂ = fitting q (tail ∷ tail ∷ []) f.others f.rest in
      let f₃ = fitting tail (tail ∷ []) f₂.others f₂.rest in
      let f₄ = fitting tail [] f₃.others f₃.rest in
      let a = f.first in
      let b = f₂.first in
      let c = f₃.first in
      let d = f₄.first in
      let al = f.low in
      let ah = f.high in
      let bl = f₂.low in
      let bh = f₂.high in
      let cl = f₃.low in
      let ch = f₃.high in
      let dl = f₄.low in
      let dh = f₄.high in
      let is : s ≡ a ∷ b ∷ c ∷ d ∷ f₄.others = f.is ∙ ap (◌∷◌ a) (f₂.is ∙ ap (◌∷◌ b) (f₃.is ∙ ap (◌∷◌ c) f₄.is)) in
      let v : k ≡ a % 8 * 262144 + b % 64 * 4096 + c % 64 * 64 + d % 64 = g ∙ ap (gathered 4) is in
      let o = ok a b (c % 64 * 64 + d % 64) al ah bl bh (omega arith) (omega arith) in
      let y = split_4 a b c d k v (omega arith) (omega arith) (omega arith) (omega arith) cl ch dl dh in
      encoded s f₄.others k w (a ∷ b ∷ c ∷ d ∷ []) is u (scalar_high k (omega arith) o.1)
      (four_bytes k o.0 ∙ rw (y.0, y.1, y.2, y.3))

  -- what is known of each row of the table
  abbrev Encodes : List Span → Type 0
  Encodes row = fits row s ≡ true → w ≡ length row → k ≡ gathered (length row) s → Encoded s k w

  encoded_rows : AllByRecursion Encodes well_formed
  encoded_rows =
      of_1 (span 0x00 0x7F) (omega arith)
      & of_2 (span 0xC2 0xDF) (omega arith) (omega arith)
      & of_3 (span 0xE0 0xE0) (span 0xA0 0xBF) (omega arith) (omega arith) (omega arith) (omega arith) (λ a b c al ah bl bh v. (omega arith, scalar_low k (omega arith)))
      & of_3 (span 0xE1 0xEC) tail (omega arith) (omega arith) (omega arith) (omega arith) (λ a b c al ah bl bh v. (omega arith, scalar_low k (omega arith)))
      & of_3 (span 0xED 0xED) (span 0x80 0x9F) (omega arith) (omega arith) (omega arith) (omega arith) (λ a b c al ah bl bh v. (omega arith, scalar_low k (omega arith)))
      & of_3 (span 0xEE 0xEF) tail (omega arith) (omega arith) (omega arith) (omega arith) (λ a b c al ah bl bh v. (omega arith, scalar_high k (omega arith) (omega arith)))
      & of_4 (span 0xF0 0xF0) (span 0x90 0xBF) (omega arith) (omega arith) (omega arith) (omega arith) (λ a b n al ah bl bh h v. (omega arith, omega arith))
      & of_4 (span 0xF1 0xF3) tail (omega arith) (omega arith) (omega arith) (omega arith) (λ a b n al ah bl bh h v. (omega arith, omega arith))
      & of_4 (span 0xF4 0xF4) (span 0x80 0x8F) (omega arith) (omega arith) (omega arith) (omega arith) (λ a b n al ah bl bh h v. (omega arith, omega arith))
      & tt

pub encode_decode : (s : Bytes) (k w : ℕ) → char_of s ≡ Code k w → Encoded s k w
encode_decode s k w e = let o = char_row (Encodes s k w) (encoded_rows s k w) s k w e in o.known o.fitting o.width o.bits
