-- Object types, and colors blocks token by token.
use Prim.Native.Nat.{ℕ, zero, suc, ◌≤◌}
use native.Mathlib.Omega.{arith}
use mathlib.Core.Path.{◌≡◌, refl}
use mathlib.Core.Bool.{true, false}
use Rattle.base.specs.Bytes.{Bytes}
use Rattle.base.specs.declared.refusal.Refusal.{Refusal}
use Rattle.cursor.specs.declared.Cursor.{Cursor}
use Rattle.token_kind.specs.declared.Token.{Token}
use Rattle.grammar.specs.Token.{right_brace}
use Rattle.grammar.specs.View.{is_sign}
use Rattle.grammar.specs.Reader.{skip_colors}
use Rattle.sheet.specs.Sheet.{ObjectType, all}
use Rattle.keep.specs.Lent.{type_number}
use Rattle.input.specs.Text.{token_of, left, mandatory_of}
use Rattle.input.specs.declared.Place.{Place}
use Rattle.input.specs.declared.Source.{Source}
use Rattle.table.specs.Kind.{object_number}
use Rattle.rules.specs.Kind.{kind_of, Skips, unskipped, skipped, SkipsFrom}
use Rattle.keep.proofs.Laws.{no_token, got, yes_way, no_way}
use Rattle.std.specs.Prelude.{Result, Ok, Err}

pub same_number : (y : ObjectType) → type_number y ≡ object_number (kind_of y)
same_number all = refl
same_number y = refl

-- ---- colors blocks

module _ (bundle : Bytes) (s : Source) (b : ℕ) where
  pub skip_none : (c : Cursor) {e : Refusal} → mandatory_of bundle s c ≡ Err e → SkipsFrom bundle s b c (Err e)
  unfolding skip_colors
  skip_none c h τ zero l = absurd (omega (arith, l))
  skip_none c {e} h τ (suc k) l = no_token (Skips bundle s b τ (Err e)) bundle s c τ _ h unskipped

  pub skip_last :
      (c : Cursor) {d : Cursor} {t : Token} {o : Place}
      → mandatory_of bundle s c ≡ Ok (t, o, d)
      → is_sign right_brace (token_of bundle t) ≡ true
      → left bundle s c ≤ b
      → SkipsFrom bundle s b c (Ok d)
  unfolding skip_colors
  skip_last c h n p τ zero l = absurd (omega (arith, l))
  skip_last c {d} h n p τ (suc k) l =
      got (Skips bundle s b τ (Ok d)) bundle s c τ _ h λ m. yes_way (Skips bundle s b τ (Ok d)) _ _ _ n (skipped d (omega (arith, m, p)))

  pub skip_more :
      (c : Cursor) {d : Cursor} {t : Token} {o : Place} (r : Result Cursor Refusal)
      → mandatory_of bundle s c ≡ Ok (t, o, d)
      → is_sign right_brace (token_of bundle t) ≡ false
      → SkipsFrom bundle s b d r
      → SkipsFrom bundle s b c r
  unfolding skip_colors
  skip_more c r h n q τ zero l = absurd (omega (arith, l))
  skip_more c r h n q τ (suc k) l =
      got (Skips bundle s b τ r) bundle s c τ _ h λ m. no_way (Skips bundle s b τ r) _ _ _ n (q τ k (omega (arith, m, l)))
