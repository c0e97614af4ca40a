-- The components of a colour token are bytes: only colours of three and of six digits are read as colours.
use Prim.Native.Nat.{ℕ, ◌<◌}
use native.Mathlib.Omega.{arith}
use mathlib.Core.Path.{◌≡◌, refl, subst}
use mathlib.Core.Bool.{Bool, true, false}
use lib.Dec.{eqb}
use Rattle.base.proofs.Options.{split_option, split_option2, split_result2}
use Rattle.base.specs.Bytes.{Bytes, ascii, same, within}
use Rattle.base.specs.Choice.{pick_split, different}
use Rattle.color.specs.declared.Color.{Color as Rgb}
use Rattle.cursor.specs.Blank.{next_significant_char}
use Rattle.cursor.specs.Class.{in_span, can_be_in_at_directive, can_start_identifier, can_continue_identifier, to_digit}
use Rattle.cursor.specs.Cursor.{next_char}
use Rattle.cursor.specs.declared.Cursor.{Cursor}
use Rattle.cursor.specs.declared.number.Digits.{Digits}
use Rattle.cursor.specs.Number.{read_digits}
use Rattle.cursor.proofs.Reaching.{split-Significant}
use Rattle.token_laws.specs.Claims.{ColorsSmall}
use Rattle.token_laws.proofs.Consuming.{Bare, two_bare, one_bare}
use Rattle.token_number.specs.Number.{is_bare_dot, finish_number, first_digit, read_unsigned, read_signed, read_number}
use Rattle.token.specs.Read.{
  range,
  read_identifier,
  read_quoted,
  read_string,
  skip_one,
  read_import,
  read_directive,
  at_directive_end,
  read_at_directive,
  read_after_minus,
  read_other,
  starts_number,
  read_long,
  read_single,
  read_pair,
  read_token,
}
use Rattle.token_kind.specs.Reason.{Reading}
use Rattle.token_kind.specs.Signs.{get_two_char_simple_token, get_one_char_simple_token}
use Rattle.token.specs.Step.{step_of}
use Rattle.token_zoom.specs.Zoom.{
  read_hex_digits,
  six_digits,
  three_digits,
  read_color,
  read_zoom_level,
  read_hyphen,
  ranged,
  zoom_range,
  read_levels,
  read_zoom_range,
}
use Rattle.token.specs.declared.Step.{Step}
use Rattle.token_kind.specs.declared.LexerError.{LexerError}
use Rattle.token.specs.declared.Step.TheVariants.{End, Took}
use Rattle.token_kind.specs.declared.Token.{Token}
use Rattle.token_kind.specs.declared.Token.TheVariants.{Color}
use Rattle.std.specs.Prelude.{Option, Some, None, is_none, ◌&&◌, Result, Ok, Err}

abbrev Small : Rgb → Type 0
Small x = (x.r < 256) × ((x.g < 256) × (x.b < 256))

-- a token that is no colour, or one with small components
abbrev Shade : Token → Type 0
Shade t = (x : Rgb) → t ≡ Color x → Small x

abbrev Shown : Reading → Type 0
Shown (Err e) = Unit {0}
Shown (Ok (t, d)) = Shade t

-- colours
six_small : (v : ℕ) → Small (six_digits v)
unfolding six_digits
six_small v = (omega arith, (omega arith, omega arith))

three_small : (v : ℕ) → Small (three_digits v)
unfolding three_digits
three_small v = (omega arith, (omega arith, omega arith))

shade : (y : Rgb) → Small y → Shade (Color y)
shade y h x e = let p : y ≡ x = cc in subst Small p h

shown_color : (s : Bytes) (c : Cursor) → Shown (read_color s c)
unfolding read_color
shown_color s c =
    let h = read_hex_digits s c in
    pick_split Shown (eqb h.count 6) _ _ (λ t. shade (six_digits h.value) (six_small h.value)) λ t.
    pick_split Shown (eqb h.count 3) _ _
    (λ u. shade (three_digits h.value) (three_small h.value))
    (λ u. tt)

-- all else is none
shown_identifier : (s : Bytes) (from : ℕ) (c : Cursor) → Shown (read_identifier s from c)
unfolding read_identifier
shown_identifier s from c x e = different cc

shown_string : (s : Bytes) (c : Cursor) → Shown (read_string s c)
unfolding read_string
shown_string s c = split_result2 Shown (read_quoted s c) _ _ (λ e q. tt) (λ r d q x e. different cc)

shown_import : (s : Bytes) (c : Cursor) → Shown (read_import s c)
unfolding read_import
shown_import s c =
    split_result2 Shown (next_char s c) _ _ (λ d q. tt) λ k d q.
    pick_split Shown (eqb k 34) _ _
    (λ t. split_result2 Shown (read_quoted s d) _ _ (λ e m. tt) (λ r e m x z. different cc))
    (λ t. tt)

shown_directive : (s : Bytes) (from : ℕ) (c : Cursor) → Shown (read_directive s from c)
unfolding read_directive
shown_directive s from c =
    pick_split Shown (same (within (range from c.at) s) (ascii "import")) _ _
    (λ t. shown_import s (skip_one s 40 c))
    (λ t x e. different cc)

shown_at : (s : Bytes) (c : Cursor) → Shown (read_at_directive s c)
unfolding read_at_directive
shown_at s c =
    split_result2 Shown (next_char s c) _ _ (λ d q. tt) λ k d q.
    pick_split Shown (can_be_in_at_directive k) _ _
    (λ t. shown_directive s c.at (at_directive_end s d))
    (λ t. tt)

shown_finished : (minus : Bool) (x : Digits) → Shown (finish_number minus x)
unfolding finish_number
shown_finished minus x =
    pick_split Shown (is_bare_dot x.sum) _ _ (λ t. tt) (λ t y e. different cc)

shown_unsigned : (s : Bytes) (minus : Bool) (ch : ℕ) (c : Cursor) → Shown (read_unsigned s minus ch c)
unfolding read_unsigned
shown_unsigned s minus ch c =
    split_option Shown (to_digit ch 10) _ _
    (λ m.
    pick_split Shown (eqb ch 46) _ _
    (λ t. shown_finished minus (read_digits s c (first_digit 0 true)))
    (λ t. tt))
    (λ v m. shown_finished minus (read_digits s c (first_digit v false)))

shown_signed : (s : Bytes) (minus : Bool) (c : Cursor) → Shown (read_signed s minus c)
unfolding read_signed
shown_signed s minus c =
    split_result2 Shown (next_char s c) _ _ (λ d q. tt) λ k d q. shown_unsigned s minus k d

shown_number : (s : Bytes) (ch : ℕ) (c : Cursor) → Shown (read_number s ch c)
unfolding read_number
shown_number s ch c =
    pick_split Shown (eqb ch 45) _ _ (λ t. shown_signed s true c) λ t.
    pick_split Shown (eqb ch 43) _ _ (λ u. shown_signed s false c) (λ u. shown_unsigned s false ch c)

shown_after_minus : (s : Bytes) (from : ℕ) (c : Cursor) → Shown (read_after_minus s from c)
unfolding read_after_minus
shown_after_minus s from c =
    split_result2 Shown (next_char s c) _ _ (λ d q. tt) λ k d q.
    pick_split Shown (in_span 48 57 k) _ _ (λ t. shown_number s 45 c) λ t.
    pick_split Shown (can_continue_identifier k) _ _ (λ u. shown_identifier s from c) (λ u. tt)

shown_ranged : (min : Option ℕ) (had : Bool) (max : Option ℕ) (d : Cursor) → Shown (ranged min had max d)
unfolding ranged
shown_ranged min had max d = pick_split Shown had _ _ (λ t x e. different cc) (λ t x e. different cc)

shown_levels : (s : Bytes) (c : Cursor) → Shown (read_levels s c)
unfolding read_levels zoom_range
shown_levels s c =
    let min = read_zoom_level s c in
    let h = read_hyphen s min.1 in
    let max = read_zoom_level s h.1 in
    pick_split Shown (is_none min.0 && is_none max.0) _ _ (λ t. tt) (λ t. shown_ranged min.0 h.0 max.0 max.1)

shown_zoom : (s : Bytes) (c : Cursor) → Shown (read_zoom_range s c)
unfolding read_zoom_range
shown_zoom s c =
    split_result2 Shown (next_char s c) _ _ (λ d q. tt) λ k d q.
    pick_split Shown (eqb k 122) _ _ (λ t. shown_levels s d) (λ t. tt)

shown_other : (s : Bytes) (from ch : ℕ) (c : Cursor) → Shown (read_other s from ch c)
unfolding read_other
shown_other s from ch c =
    pick_split Shown (eqb ch 45) _ _ (λ t. shown_after_minus s from c) λ t.
    pick_split Shown (eqb ch 124) _ _ (λ u. shown_zoom s c) λ u.
    pick_split Shown (eqb ch 35) _ _ (λ v. shown_color s c) (λ v. tt)

shown_long : (s : Bytes) (from ch : ℕ) (c : Cursor) → Shown (read_long s from ch c)
unfolding read_long
shown_long s from ch c =
    pick_split Shown (eqb ch 64) _ _ (λ t. shown_at s c) λ t.
    pick_split Shown (eqb ch 42) _ _ (λ u x e. different cc) λ u.
    pick_split Shown (can_start_identifier ch) _ _ (λ v. shown_identifier s from c) λ v.
    pick_split Shown (eqb ch 34) _ _ (λ w. shown_string s c) λ w.
    pick_split Shown (starts_number ch) _ _ (λ x. shown_number s ch c) (λ x. shown_other s from ch c)

shown_single : (s : Bytes) (from ch : ℕ) (c : Cursor) → Shown (read_single s from ch c)
unfolding read_single
shown_single s from ch c =
    split_option Shown (get_one_char_simple_token ch) _ _ (λ q. shown_long s from ch c) λ t q x e. absurd ((subst Bare q (one_bare ch)).1 x e)

abbrev ShownPair : Option (Token × Cursor) → Type 0
ShownPair None = Unit {0}
ShownPair (Some (t, d)) = Shade t

shown_pair : (s : Bytes) (ch : ℕ) (c : Cursor) → ShownPair (read_pair s ch c)
unfolding read_pair
shown_pair s ch c =
    split_result2 ShownPair (next_char s c) _ _ (λ d q. tt) λ k d q.
    split_option ShownPair (get_two_char_simple_token ch k) _ _ (λ m. tt) λ t m x e. absurd ((subst Bare m (two_bare ch k)).1 x e)

shown_token : (s : Bytes) (from ch : ℕ) (c : Cursor) → Shown (read_token s from ch c)
unfolding read_token
shown_token s from ch c =
    split_option2 Shown (read_pair s ch c) _ _
    (λ q. shown_single s from ch c)
    (λ t d q. subst ShownPair q (shown_pair s ch c))

abbrev ShownStep : Result Step LexerError → Type 0
ShownStep (Err e) = Unit {0}
ShownStep (Ok (End d)) = Unit {0}
ShownStep (Ok (Took t l k d)) = Shade t

shown_step : (s : Bytes) (c : Cursor) → ShownStep (step_of s c)
unfolding step_of
shown_step s c =
    split-Significant ShownStep (next_significant_char s c) _ _ _ (λ d q. tt) (λ d q. tt) λ at k d q.
    split_result2 ShownStep (read_token s at k d) _ _ (λ e m. tt) (λ t e m. subst Shown m (shown_token s at k d))

pub colors_small : ColorsSmall
colors_small s c d x line character q = subst ShownStep q (shown_step s c) x refl
