-- Going through a text, character by character.
use Prim.Native.Nat.{ℕ, ◌+◌, ◌-◌, ◌^◌, ◌<◌, ◌≤◌}
use native.Mathlib.Omega.{arith}
use mathlib.Core.Path.{◌≡◌, refl, sym, ◌∙◌}
use mathlib.Core.Bool.{true, false}
use mir.Syntax.{w64}
use mir.Val.{Fits}
use lib.ListN.{length}
use Rattle.base.specs.Bytes.{Bytes}
use Rattle.base.proofs.Loops.{Going, going_start, going_more, going_done}
use Rattle.utf8.specs.Elim.{Char-Bad, Char-End, Char-Code}
use Rattle.utf8.specs.Utf8.{char_at, utf8_turn, is_utf8}
use Rattle.utf8.specs.declared.Char.{Char}
use Rattle.utf8.specs.declared.Char.TheVariants.{Bad, End, Code}
use Rattle.utf8.proofs.Rows.{char_within}

-- where the loop stands: what is left of the text says what the whole says
pub record At (s : Bytes) (at : ℕ) : Type 0 where
  pub in_text : at ≤ length s
  pub going : Going (utf8_turn s) false (length s - at) at (is_utf8 s)

pub at_start : (s : Bytes) → At s 0
unfolding is_utf8
at_start s = record { in_text = omega arith; going = going_start _ _ _ _ _ (omega arith) }

module _ (s : Bytes) (at : ℕ) (r : Char) (e : r ≡ char_at s at) where
  pub at_bad : At s at → r ≡ Bad → false ≡ is_utf8 s
  at_bad a m = going_done _ _ _ _ _ _ a.going (sym (Char-Bad _ _ _ _ (sym e ∙ m) refl))

  pub at_end : At s at → r ≡ End → true ≡ is_utf8 s
  at_end a m = going_done _ _ _ _ _ _ a.going (sym (Char-End _ _ _ _ (sym e ∙ m) refl))

  module _ (k w : ℕ) (m : r ≡ Code k w) where
    pub char_fits : length s < 2 ^ 64 → Fits w64 (at + w)
    char_fits h = let l = char_within s at k w (sym e ∙ m) in record { fits = omega arith }

    pub char_less : length s - (at + w) < length s - at
    char_less = let l = char_within s at k w (sym e ∙ m) in omega arith

    pub at_next : At s at → At s (at + w)
    at_next a =
        let l = char_within s at k w (sym e ∙ m) in
        record {
          in_text = l.2;
          going = going_more _ _ _ _ _ _ _ a.going (sym (Char-Code _ _ _ _ (sym e ∙ m) refl)) char_less;
        }
