-- The colour that the code makes of its digits is that of the digits: #abcdef is ab, cd, ef, and #abc is aa, bb, cc.
use Prim.Native.Nat.{ℕ, ◌+◌, ◌*◌, ◌/◌, ◌%◌, ◌<◌}
use native.Mathlib.Omega.{arith}
use mathlib.Core.Path.{◌≡◌, refl, ◌∙◌}
use mathlib.Core.List.{List, [], ◌∷◌}
use Rattle.color.specs.Named.{rgb}
use Rattle.token_zoom.specs.Zoom.{hex_added, six_digits, three_digits}

-- the digits one after another
abbrev packed : List ℕ → ℕ → ℕ
packed [] v = v
packed (d ∷ ds) v = packed ds (hex_added v d)

-- up to six digits nothing is lost
added : (v d : ℕ) → v < 0x100_0000 → hex_added v d ≡ v * 16 + d
unfolding hex_added
added v d h = omega arith

module _ (a b c : ℕ) (p : a < 16) (q : b < 16) (r : c < 16) where
  three : packed (a ∷ b ∷ c ∷ []) 0 ≡ (a * 16 + b) * 16 + c
  three =
      let first : hex_added 0 a ≡ a = added 0 a (omega arith) ∙ omega arith in
      rw (first, added a b (omega arith), added (a * 16 + b) c (omega arith)) refl

  pub three_digits_lem : three_digits (packed (a ∷ b ∷ c ∷ []) 0) ≡ rgb (16 * a + a) (16 * b + b) (16 * c + c)
  unfolding three_digits
  three_digits_lem =
      let v = (a * 16 + b) * 16 + c in
      let x : v / 256 % 16 * 17 ≡ 16 * a + a = omega arith in
      let y : v / 16 % 16 * 17 ≡ 16 * b + b = omega arith in
      let z : v % 16 * 17 ≡ 16 * c + c = omega arith in
      rw (three, x, y, z) refl

  module _ (d e f : ℕ) (p' : d < 16) (q' : e < 16) (r' : f < 16) where
    six : packed (a ∷ b ∷ c ∷ d ∷ e ∷ f ∷ []) 0 ≡ ((((a * 16 + b) * 16 + c) * 16 + d) * 16 + e) * 16 + f
    six =
        rw (
          three,
          added ((a * 16 + b) * 16 + c) d (omega arith),
          added (((a * 16 + b) * 16 + c) * 16 + d) e (omega arith),
          added ((((a * 16 + b) * 16 + c) * 16 + d) * 16 + e) f (omega arith),
        )
        refl

    pub six_digits_lem : six_digits (packed (a ∷ b ∷ c ∷ d ∷ e ∷ f ∷ []) 0) ≡ rgb (16 * a + b) (16 * c + d) (16 * e + f)
    unfolding six_digits
    six_digits_lem =
        let v = ((((a * 16 + b) * 16 + c) * 16 + d) * 16 + e) * 16 + f in
        let x : v / 65536 % 256 ≡ 16 * a + b = omega arith in
        let y : v / 256 % 256 ≡ 16 * c + d = omega arith in
        let z : v % 256 ≡ 16 * e + f = omega arith in
        rw (six, x, y, z) refl
