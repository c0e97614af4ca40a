-- A digit that was read is below its radix, and stands before the place handed back.
use Prim.Native.Nat.{ℕ, ◌+◌, ◌-◌, ◌*◌, ◌<◌}
use native.Mathlib.Omega.{arith}
use mathlib.Core.Path.{◌≡◌, refl, sym, ◌∙◌, subst}
use lib.Dec.{ltb}
use lib.ListN.{length}
use mir.Syntax.{w8}
use mir.Val.{Fits}
use borrow.Author.Tests.{ltb-true}
use Rattle.base.proofs.Options.{split_option, split_result2}
use Rattle.base.specs.Bytes.{Bytes}
use Rattle.base.specs.Choice.{pick_split}
use Rattle.cursor.specs.Class.{digit_value, to_digit}
use Rattle.cursor.specs.Cursor.{next_char}
use Rattle.cursor.specs.declared.Cursor.{Cursor}
use Rattle.cursor.proofs.Onward.{next_on}
use Rattle.token_zoom.specs.Zoom.{read_digit}
use Rattle.std.specs.Prelude.{Option, Some, None, Ok}

abbrev Low : ℕ → Option ℕ → Type 0
Low radix None = Unit {0}
Low radix (Some v) = v < radix

low : (k radix : ℕ) → Low radix (to_digit k radix)
unfolding to_digit
low k radix = pick_split (Low radix) (ltb (digit_value k) radix) _ _ (λ t. ltb-true (digit_value k) radix t) (λ t. tt)

-- what a caller has of a digit
pub record DigitAt (s : Bytes) (radix : ℕ) (c : Cursor) (v : ℕ) (d : Cursor) : Type 0 where
  pub ch : ℕ
  pub char : next_char s c ≡ Ok (ch, d)
  pub below : v < radix

abbrev Known : Bytes → ℕ → Cursor → Option (ℕ × Cursor) → Type 0
Known s radix c None = Unit {0}
Known s radix c (Some (v, d)) = DigitAt s radix c v d

known : (s : Bytes) (radix : ℕ) (c : Cursor) → Known s radix c (read_digit s radix c)
unfolding read_digit
known s radix c =
    split_result2 (Known s radix c) (next_char s c) _ _ (λ d q. tt) λ k d q.
    split_option (Known s radix c) (to_digit k radix) _ _ (λ e. tt) λ v e.
    record { ch = k; char = q; below = subst (Low radix) e (low k radix) }

module _ (s : Bytes) (radix : ℕ) (c d : Cursor) (v : ℕ) (r : Option (ℕ × Cursor)) (e : r ≡ read_digit s radix c) (m : r ≡ Some (v, d)) where
  pub digit_at : DigitAt s radix c v d
  digit_at = subst (Known s radix c) (sym e ∙ m) (known s radix c)

  pub digit_on : length s - d.at < length s - c.at
  digit_on = next_on s c d digit_at.ch (Ok (digit_at.ch, d)) (sym digit_at.char) refl

module _ (s : Bytes) (c d : Cursor) (a : ℕ) (r : Option (ℕ × Cursor)) (e : r ≡ read_digit s 10 c) (m : r ≡ Some (a, d)) where
  pub tens_fit : Fits w8 (10 * a)
  tens_fit = let h = (digit_at s 10 c d a r e m).below in record { fits = omega arith }

  pub level_fits : (f : Cursor) (b : ℕ) (q : Option (ℕ × Cursor)) → q ≡ read_digit s 10 d → q ≡ Some (b, f) → Fits w8 (10 * a + b)
  level_fits f b q e' m' =
      let h = (digit_at s 10 c d a r e m).below in
      let h' = (digit_at s 10 d f b q e' m').below in
      record { fits = omega arith }
