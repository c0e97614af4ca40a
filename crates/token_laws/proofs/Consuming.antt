-- Each token is read character by character: what a step consumes, and what its lines and characters mean.
use Prim.Native.Nat.{ℕ, suc, ◌-◌, ◌<◌, ◌≤◌}
use native.Mathlib.Omega.{arith}
use mathlib.Core.Path.{◌≡◌, refl, sym, subst}
use mathlib.Core.Bool.{Bool, true, false}
use lib.Dec.{eqb}
use lib.ListN.{length}
use Rattle.base.proofs.Options.{split_option, split_option2, split_result2}
use Rattle.base.specs.Bytes.{Bytes, ascii, same, within}
use Rattle.base.specs.Choice.{pick, pick_split, different}
use Rattle.base.specs.Turns.{Turn, more, done, turns}
use Rattle.base.specs.declared.Range.{Range}
use Rattle.base.proofs.Loops.{Kept, turns_keep}
use Rattle.space.specs.Space.{is_white_space}
use Rattle.color.specs.declared.Color.{Color as Rgb}
use Rattle.cursor.specs.Blank.{next_significant_char}
use Rattle.cursor.specs.Class.{in_span, can_be_in_at_directive, can_start_identifier, can_continue_identifier, to_digit}
use Rattle.cursor.specs.Cursor.{start, next_char}
use Rattle.cursor.specs.Number.{takes_dot, digits, digits_turn, read_digits}
use Rattle.cursor.specs.Reach.{Reach, here, on, over, Within, AtEnd, Begun}
use Rattle.cursor.specs.declared.Cursor.{Cursor}
use Rattle.cursor.specs.declared.Significant.TheVariants.{Found}
use Rattle.cursor.specs.declared.number.Digits.{Digits}
use Rattle.cursor.specs.declared.number.Sum.{Sum}
use Rattle.cursor.proofs.Onward.{read, read_within}
use Rattle.cursor.proofs.Positions.{positioned}
use Rattle.cursor.proofs.Reaching.{
  split-Significant,
  reach_on,
  reach_within,
  reach_more,
  within_more,
  reach_one,
  reach_end,
  within_0,
  within_1,
  Falls,
  turns_fall,
  SignificantReach,
  significant_reach,
}
use Rattle.token_laws.specs.Claims.{Between, Inside, StepsConsume, Stepped, first, then, Told, PositionsTell}
use Rattle.token_number.specs.Number.{is_bare_dot, finish_number, first_digit, read_unsigned, read_signed, read_number}
use Rattle.token.specs.Read.{range, identifier_end, read_identifier, quoted_turn, read_quoted, read_string, skip_one, read_import, read_directive, at_directive_end, read_at_directive, read_after_minus, read_other, starts_number, read_long, read_single, read_pair, read_token}
use Rattle.token_kind.specs.Reason.{Reading, after_minus, symbol, after_at, import_string, open_string, nothing_after_sign, no_number_after_sign, no_fraction, bad_color, z_wanted, empty_zoom_range, lexer_error}
use Rattle.token_kind.specs.Signs.{first_pair, get_two_char_simple_token, first_letter, get_one_char_simple_token}
use Rattle.token.specs.Step.{step_of}
use Rattle.token_zoom.specs.Zoom.{read_digit, hex, hex_turn, read_hex_digits, read_color, read_zoom_level, read_hyphen, ranged, zoom_range, read_levels, read_zoom_range}
use Rattle.token.specs.declared.Step.{Step}
use Rattle.token.specs.declared.Step.TheVariants.{End, Took}
use Rattle.token_kind.specs.declared.LexerError.{LexerError}
use Rattle.token_kind.specs.declared.Token.{Token}
use Rattle.token_kind.specs.declared.Token.TheVariants.{Color}
use Rattle.token_zoom.specs.declared.Hex.{Hex}
use Rattle.token_zoom.proofs.Digits.{digit_at}
use Rattle.std.specs.Prelude.{Option, Some, None, is_none, ◌&&◌, Result, Ok, Err}
use Rattle.base.specs.Option.{on_result2}

-- an error's place, where at most the end was read once
record Failing (s : Bytes) (c : Cursor) (line character : ℕ) : Type 0 where
  pub place : Cursor
  pub reach : Within 1 s c place
  pub on_line : line ≡ place.line
  pub on_character : character ≡ place.character

record Readied (s : Bytes) (c : Cursor) (from : ℕ) (t : Token) (d : Cursor) : Type 0 where
  pub reach : Reach s c 0 d
  pub inside : Inside from d.at t

-- what a reader answers, of a token that begins at a place
abbrev Reads : Bytes → Cursor → ℕ → Reading → Type 0
Reads s c from (Err e) = Failing s c e.line e.character
Reads s c from (Ok (t, d)) = Readied s c from t d

module _ {s : Bytes} {c : Cursor} (from : ℕ) where
  failed_0 : {d : Cursor} (r : ℕ) → Reach s c 0 d → Reads s c from (Err (lexer_error r d))
  unfolding lexer_error
  failed_0 {d} r h = record { place = d; reach = within_0 h; on_line = refl; on_character = refl }

  failed_1 : {d : Cursor} (r : ℕ) → Reach s c 1 d → Reads s c from (Err (lexer_error r d))
  unfolding lexer_error
  failed_1 {d} r h = record { place = d; reach = within_1 h; on_line = refl; on_character = refl }

-- a reader that goes on from a place that was reached
reads_more : {s : Bytes} {c d : Cursor} (from : ℕ) → Reach s c 0 d → (x : Reading) → Reads s d from x → Reads s c from x
reads_more from h (Err e) w =
    record { place = w.place; reach = within_more h w.reach; on_line = w.on_line; on_character = w.on_character }
reads_more from h (Ok (t, d)) w = record { reach = reach_more h w.reach; inside = w.inside }

-- signs have no range, and are no colours
abbrev pub Bare : Option Token → Type 0
Bare None = Unit {0}
Bare (Some t) = ((from to : ℕ) → Inside from to t) × ((x : Rgb) → t ≡ Color x → ⊥)

pub two_bare : (a b : ℕ) → Bare (get_two_char_simple_token a b)
unfolding get_two_char_simple_token first_pair
two_bare a b =
    pick_split Bare _ _ _ (λ t. (λ x y. tt, λ x e. different cc)) λ t.
    pick_split Bare _ _ _ (λ t. (λ x y. tt, λ x e. different cc)) λ t.
    pick_split Bare _ _ _ (λ t. (λ x y. tt, λ x e. different cc)) λ t.
    pick_split Bare _ _ _ (λ t. (λ x y. tt, λ x e. different cc)) λ t.
    pick_split Bare _ _ _ (λ t. (λ x y. tt, λ x e. different cc)) λ t. tt

pub one_bare : (k : ℕ) → Bare (get_one_char_simple_token k)
unfolding get_one_char_simple_token first_letter
one_bare k =
    pick_split Bare _ _ _ (λ t. (λ x y. tt, λ x e. different cc)) λ t.
    pick_split Bare _ _ _ (λ t. (λ x y. tt, λ x e. different cc)) λ t.
    pick_split Bare _ _ _ (λ t. (λ x y. tt, λ x e. different cc)) λ t.
    pick_split Bare _ _ _ (λ t. (λ x y. tt, λ x e. different cc)) λ t.
    pick_split Bare _ _ _ (λ t. (λ x y. tt, λ x e. different cc)) λ t.
    pick_split Bare _ _ _ (λ t. (λ x y. tt, λ x e. different cc)) λ t.
    pick_split Bare _ _ _ (λ t. (λ x y. tt, λ x e. different cc)) λ t.
    pick_split Bare _ _ _ (λ t. (λ x y. tt, λ x e. different cc)) λ t.
    pick_split Bare _ _ _ (λ t. (λ x y. tt, λ x e. different cc)) λ t.
    pick_split Bare _ _ _ (λ t. (λ x y. tt, λ x e. different cc)) λ t.
    pick_split Bare _ _ _ (λ t. (λ x y. tt, λ x e. different cc)) λ t.
    pick_split Bare _ _ _ (λ t. (λ x y. tt, λ x e. different cc)) λ t.
    pick_split Bare _ _ _ (λ t. (λ x y. tt, λ x e. different cc)) λ t.
    pick_split Bare _ _ _ (λ t. (λ x y. tt, λ x e. different cc)) λ t. tt

-- a loop that goes on while characters fit
module _ (s : Bytes) (c : Cursor) (f : ℕ → Bool) where
  abbrev word_turn : Cursor → Turn Cursor Cursor
  word_turn d = on_result2 (next_char s d) (λ e. done d) λ k e. pick (f k) (more e) (done d)

  word_turn_lem : (d : Cursor) → Reach s c 0 d → Kept (Reach s c 0) (Reach s c 0) (word_turn d)
  word_turn_lem d r =
      split_result2 (Kept (Reach s c 0) (Reach s c 0)) (next_char s d) _ _ (λ e q. r) λ k e q.
      pick_split (Kept (Reach s c 0) (Reach s c 0)) (f k) _ _ (λ t. on r q) (λ t. r)

  word_reach : (n : ℕ) → Reach s c 0 (turns word_turn c n c)
  word_reach n = turns_keep (Reach s c 0) (Reach s c 0) word_turn c here word_turn_lem n c here

identifier_reach : (s : Bytes) (c : Cursor) → Reach s c 0 (identifier_end s c)
unfolding identifier_end
identifier_reach s c = word_reach s c can_continue_identifier (suc (length s))

directive_reach : (s : Bytes) (c : Cursor) → Reach s c 0 (at_directive_end s c)
unfolding at_directive_end
directive_reach s c = word_reach s c can_be_in_at_directive (suc (length s))

reads_identifier : (s : Bytes) (from : ℕ) (c : Cursor) → from ≤ c.at → Reads s c from (read_identifier s from c)
unfolding read_identifier
reads_identifier s from c h =
    let r = identifier_reach s c in
    let l = reach_on r in
    record { reach = r; inside = record { begins = omega arith; ordered = omega arith; ends = omega arith } }

-- strings
record Between-quotes (s : Bytes) (c : Cursor) (r : Range) (d : Cursor) : Type 0 where
  pub reach : Reach s c 0 d
  pub inside : Between c.at d.at r

abbrev Quotation : Bytes → Cursor → Result (Range × Cursor) LexerError → Type 0
Quotation s c (Err e) = Failing s c e.line e.character
Quotation s c (Ok (r, d)) = Between-quotes s c r d

quoted_turn_lem :
    (s : Bytes) (c d : Cursor)
    → Reach s c 0 d
    → Falls (Reach s c 0) (Quotation s c) (λ x. length s - x.at) (length s - d.at) (quoted_turn s c.at d)
quoted_turn_lem s c d r =
    let P = Falls (Reach s c 0) (Quotation s c) (λ x. length s - x.at) (length s - d.at) in
    split_result2 P (next_char s d) _ _ (λ e q. failed_1 c.at open_string (over r q)) λ k e q.
    let l = reach_on r in
    let h = read_within s d e k (read s d e k q) in
    pick_split P (eqb k 34) _ _
    (λ t. record { reach = on r q; inside = record { begins = omega arith; ordered = omega arith; ends = omega arith } })
    (λ t. (on r q, omega arith))

quoted_reach : (s : Bytes) (c : Cursor) → Quotation s c (read_quoted s c)
unfolding read_quoted
quoted_reach s c =
    turns_fall (Reach s c 0) (Quotation s c) (λ x. length s - x.at) (quoted_turn s c.at) (Err (lexer_error open_string c))
    (quoted_turn_lem s c) (suc (length s)) c (omega arith) here

wider : (from from' to to' : ℕ) (r : Range) → from' ≤ from → to ≤ to' → Between from to r → Between from' to' r
wider from from' to to' r p q b =
    let x = b.begins in
    let y = b.ends in
    record { begins = omega arith; ordered = b.ordered; ends = omega arith }

reads_string : (s : Bytes) (from : ℕ) (c : Cursor) → from ≤ c.at → Reads s c from (read_string s c)
unfolding read_string
reads_string s from c h =
    split_result2 (Reads s c from) (read_quoted s c) _ _
    (λ e q. subst (Quotation s c) q (quoted_reach s c))
    (λ r d q.
    let w = subst (Quotation s c) q (quoted_reach s c) in
    record { reach = w.reach; inside = wider c.at from d.at d.at r h (omega arith) w.inside })

-- directives
skip_reach : (s : Bytes) (bracket : ℕ) (c : Cursor) → Reach s c 0 (skip_one s bracket c)
unfolding skip_one
skip_reach s bracket c =
    split_result2 (Reach s c 0) (next_char s c) _ _ (λ d q. here) λ k d q.
    pick_split (Reach s c 0) (is_white_space k) _ _ (λ t. on here q) λ t.
    pick_split (Reach s c 0) (eqb k bracket) _ _ (λ u. on here q) (λ u. here)

reads_import : (s : Bytes) (from : ℕ) (c : Cursor) → from ≤ c.at → Reads s c from (read_import s c)
unfolding read_import
reads_import s from c h =
    split_result2 (Reads s c from) (next_char s c) _ _ (λ d q. failed_1 from import_string (reach_end q)) λ k d q.
    pick_split (Reads s c from) (eqb k 34) _ _
    (λ t.
    split_result2 (Reads s c from) (read_quoted s d) _ _
    (λ e m. reads_more from (reach_one q) (Err e) (subst (Quotation s d) m (quoted_reach s d)))
    (λ r e m.
    let w = subst (Quotation s d) m (quoted_reach s d) in
    let x = skip_reach s 41 e in
    let l = reach_on (reach_one q) in
    let g = reach_on x in
    record {
      reach = reach_more (reach_one q) (reach_more w.reach x);
      inside = wider d.at from e.at (skip_one s 41 e).at r (omega arith) (omega arith) w.inside;
    }))
    (λ t. failed_0 from import_string (reach_one q))

reads_directive :
    (s : Bytes) (from from' : ℕ) (c : Cursor)
    → from ≤ from'
    → from' ≤ c.at
    → Reads s c from (read_directive s from' c)
unfolding read_directive
reads_directive s from from' c h g =
    pick_split (Reads s c from) (same (within (range from' c.at) s) (ascii "import")) _ _
    (λ t.
    let x = skip_reach s 40 c in
    let l = reach_on x in
    reads_more from x (read_import s (skip_one s 40 c)) (reads_import s from (skip_one s 40 c) (omega arith)))
    (λ t. record { reach = here; inside = record { begins = omega arith; ordered = omega arith; ends = omega arith } })

reads_at : (s : Bytes) (from : ℕ) (c : Cursor) → from ≤ c.at → Reads s c from (read_at_directive s c)
unfolding read_at_directive
reads_at s from c h =
    split_result2 (Reads s c from) (next_char s c) _ _ (λ d q. failed_1 from after_at (reach_end q)) λ k d q.
    pick_split (Reads s c from) (can_be_in_at_directive k) _ _
    (λ t.
    let x = reach_more (reach_one q) (directive_reach s d) in
    let l = reach_on x in
    reads_more from x (read_directive s c.at (at_directive_end s d)) (reads_directive s from c.at (at_directive_end s d) h (omega arith)))
    (λ t. failed_0 from after_at (reach_one q))

-- numbers
digits_turn_lem :
    (s : Bytes) (c : Cursor) (x : Digits)
    → Reach s c 0 x.end
    → Kept (λ y. Reach s c 0 y.end) (λ y. Reach s c 0 y.end) (digits_turn s x)
digits_turn_lem s c x r =
    let P : Turn Digits Digits → Type 0 = Kept (λ y. Reach s c 0 y.end) (λ y. Reach s c 0 y.end) in
    split_result2 P (next_char s x.end) _ _ (λ d q. r) λ k d q.
    split_option P (to_digit k 10) _ _
    (λ m. pick_split P (takes_dot x.sum k) _ _ (λ t. on r q) (λ t. r))
    (λ v m. on r q)

digits_reach : (s : Bytes) (c : Cursor) (x : Sum) → Reach s c 0 (read_digits s c x).end
unfolding read_digits
digits_reach s c x =
    turns_keep (λ y. Reach s c 0 y.end) (λ y. Reach s c 0 y.end) (digits_turn s) (digits x c) here
    (digits_turn_lem s c) (suc (length s)) (digits x c) here

reads_finished :
    (s : Bytes) (from : ℕ) (minus : Bool) (c : Cursor) (x : Digits)
    → Reach s c 0 x.end
    → Reads s c from (finish_number minus x)
unfolding finish_number
reads_finished s from minus c x r =
    pick_split (Reads s c from) (is_bare_dot x.sum) _ _
    (λ t. failed_0 from no_fraction r)
    (λ t. record { reach = r; inside = tt })

reads_unsigned : (s : Bytes) (from : ℕ) (minus : Bool) (ch : ℕ) (c : Cursor) → Reads s c from (read_unsigned s minus ch c)
unfolding read_unsigned
reads_unsigned s from minus ch c =
    split_option (Reads s c from) (to_digit ch 10) _ _
    (λ m.
    pick_split (Reads s c from) (eqb ch 46) _ _
    (λ t. reads_finished s from minus c (read_digits s c (first_digit 0 true)) (digits_reach s c (first_digit 0 true)))
    (λ t. failed_0 from no_number_after_sign here))
    (λ v m. reads_finished s from minus c (read_digits s c (first_digit v false)) (digits_reach s c (first_digit v false)))

reads_signed : (s : Bytes) (from : ℕ) (minus : Bool) (c : Cursor) → Reads s c from (read_signed s minus c)
unfolding read_signed
reads_signed s from minus c =
    split_result2 (Reads s c from) (next_char s c) _ _ (λ d q. failed_1 from nothing_after_sign (reach_end q)) λ k d q.
    reads_more from (reach_one q) (read_unsigned s minus k d) (reads_unsigned s from minus k d)

reads_number : (s : Bytes) (from ch : ℕ) (c : Cursor) → Reads s c from (read_number s ch c)
unfolding read_number
reads_number s from ch c =
    pick_split (Reads s c from) (eqb ch 45) _ _ (λ t. reads_signed s from true c) λ t.
    pick_split (Reads s c from) (eqb ch 43) _ _ (λ u. reads_signed s from false c) (λ u. reads_unsigned s from false ch c)

reads_after_minus : (s : Bytes) (from : ℕ) (c : Cursor) → from ≤ c.at → Reads s c from (read_after_minus s from c)
unfolding read_after_minus
reads_after_minus s from c h =
    split_result2 (Reads s c from) (next_char s c) _ _ (λ d q. failed_0 from after_minus here) λ k d q.
    pick_split (Reads s c from) (in_span 48 57 k) _ _ (λ t. reads_number s from 45 c) λ t.
    pick_split (Reads s c from) (can_continue_identifier k) _ _
    (λ u. reads_identifier s from c h)
    (λ u. failed_0 from after_minus here)

-- colours
hex_turn_lem :
    (s : Bytes) (c : Cursor) (x : Hex)
    → Reach s c 0 x.end
    → Kept (λ y. Reach s c 0 y.end) (λ y. Reach s c 0 y.end) (hex_turn s x)
hex_turn_lem s c x r =
    let P : Turn Hex Hex → Type 0 = Kept (λ y. Reach s c 0 y.end) (λ y. Reach s c 0 y.end) in
    split_option2 P (read_digit s 16 x.end) _ _ (λ q. r) λ v d q.
    on r (digit_at s 16 x.end d v (Some (v, d)) (sym q) refl).char

hex_reach : (s : Bytes) (c : Cursor) → Reach s c 0 (read_hex_digits s c).end
unfolding read_hex_digits
hex_reach s c =
    turns_keep (λ y. Reach s c 0 y.end) (λ y. Reach s c 0 y.end) (hex_turn s) (hex 0 0 c) here
    (hex_turn_lem s c) (suc (length s)) (hex 0 0 c) here

reads_color : (s : Bytes) (from : ℕ) (c : Cursor) → Reads s c from (read_color s c)
unfolding read_color
reads_color s from c =
    let h = read_hex_digits s c in
    pick_split (Reads s c from) (eqb h.count 6) _ _ (λ t. record { reach = hex_reach s c; inside = tt }) λ t.
    pick_split (Reads s c from) (eqb h.count 3) _ _
    (λ u. record { reach = hex_reach s c; inside = tt })
    (λ u. failed_0 from bad_color (hex_reach s c))

-- zoom ranges
level_reach : (s : Bytes) (c : Cursor) → Reach s c 0 (read_zoom_level s c).1
unfolding read_zoom_level
level_reach s c =
    let P : Option ℕ × Cursor → Type 0 = λ y. Reach s c 0 y.1 in
    split_option2 P (read_digit s 10 c) _ _ (λ q. here) λ a d q.
    let r : Reach s c 0 d = on here (digit_at s 10 c d a (Some (a, d)) (sym q) refl).char in
    split_option2 P (read_digit s 10 d) _ _ (λ m. r) λ b e m.
    on r (digit_at s 10 d e b (Some (b, e)) (sym m) refl).char

hyphen_reach : (s : Bytes) (c : Cursor) → Reach s c 0 (read_hyphen s c).1
unfolding read_hyphen
hyphen_reach s c =
    let P : Bool × Cursor → Type 0 = λ y. Reach s c 0 y.1 in
    split_result2 P (next_char s c) _ _ (λ d q. here) λ k d q.
    pick_split P (eqb k 45) _ _ (λ t. on here q) (λ t. here)

reads_ranged :
    (s : Bytes) (from : ℕ) (c : Cursor) (min : Option ℕ) (had : Bool) (max : Option ℕ) (d : Cursor)
    → Reach s c 0 d
    → Reads s c from (ranged min had max d)
unfolding ranged
reads_ranged s from c min had max d r =
    pick_split (Reads s c from) had _ _ (λ t. record { reach = r; inside = tt }) (λ t. record { reach = r; inside = tt })

reads_levels : (s : Bytes) (from : ℕ) (c : Cursor) → Reads s c from (read_levels s c)
unfolding read_levels zoom_range
reads_levels s from c =
    let min = read_zoom_level s c in
    let h = read_hyphen s min.1 in
    let max = read_zoom_level s h.1 in
    let r = reach_more (level_reach s c) (reach_more (hyphen_reach s min.1) (level_reach s h.1)) in
    pick_split (Reads s c from) (is_none min.0 && is_none max.0) _ _
    (λ t. failed_0 from empty_zoom_range r)
    (λ t. reads_ranged s from c min.0 h.0 max.0 max.1 r)

reads_zoom : (s : Bytes) (from : ℕ) (c : Cursor) → Reads s c from (read_zoom_range s c)
unfolding read_zoom_range
reads_zoom s from c =
    split_result2 (Reads s c from) (next_char s c) _ _ (λ d q. failed_1 from z_wanted (reach_end q)) λ k d q.
    pick_split (Reads s c from) (eqb k 122) _ _
    (λ t. reads_more from (reach_one q) (read_levels s d) (reads_levels s from d))
    (λ t. failed_0 from z_wanted (reach_one q))

-- any token
reads_other : (s : Bytes) (from ch : ℕ) (c : Cursor) → from ≤ c.at → Reads s c from (read_other s from ch c)
unfolding read_other
reads_other s from ch c h =
    pick_split (Reads s c from) (eqb ch 45) _ _ (λ t. reads_after_minus s from c h) λ t.
    pick_split (Reads s c from) (eqb ch 124) _ _ (λ u. reads_zoom s from c) λ u.
    pick_split (Reads s c from) (eqb ch 35) _ _ (λ v. reads_color s from c) (λ v. failed_0 from symbol here)

reads_long : (s : Bytes) (from ch : ℕ) (c : Cursor) → from ≤ c.at → Reads s c from (read_long s from ch c)
unfolding read_long
reads_long s from ch c h =
    pick_split (Reads s c from) (eqb ch 64) _ _ (λ t. reads_at s from c h) λ t.
    pick_split (Reads s c from) (eqb ch 42) _ _
    (λ u. record { reach = here; inside = record { begins = omega arith; ordered = h; ends = omega arith } })
    λ u.
    pick_split (Reads s c from) (can_start_identifier ch) _ _ (λ v. reads_identifier s from c h) λ v.
    pick_split (Reads s c from) (eqb ch 34) _ _ (λ w. reads_string s from c h) λ w.
    pick_split (Reads s c from) (starts_number ch) _ _ (λ x. reads_number s from ch c) (λ x. reads_other s from ch c h)

reads_single : (s : Bytes) (from ch : ℕ) (c : Cursor) → from ≤ c.at → Reads s c from (read_single s from ch c)
unfolding read_single
reads_single s from ch c h =
    split_option (Reads s c from) (get_one_char_simple_token ch) _ _ (λ q. reads_long s from ch c h) λ t q.
    record { reach = here; inside = (subst Bare q (one_bare ch)).0 from c.at }

abbrev Paired : Bytes → Cursor → ℕ → Option (Token × Cursor) → Type 0
Paired s c from None = Unit {0}
Paired s c from (Some (t, d)) = Readied s c from t d

reads_pair : (s : Bytes) (from ch : ℕ) (c : Cursor) → Paired s c from (read_pair s ch c)
unfolding read_pair
reads_pair s from ch c =
    split_result2 (Paired s c from) (next_char s c) _ _ (λ d q. tt) λ k d q.
    split_option (Paired s c from) (get_two_char_simple_token ch k) _ _ (λ m. tt) λ t m.
    record { reach = reach_one q; inside = (subst Bare m (two_bare ch k)).0 from d.at }

reads_token : (s : Bytes) (from ch : ℕ) (c : Cursor) → from ≤ c.at → Reads s c from (read_token s from ch c)
unfolding read_token
reads_token s from ch c h =
    split_option2 (Reads s c from) (read_pair s ch c) _ _
    (λ q. reads_single s from ch c h)
    (λ t d q. subst (Paired s c from) q (reads_pair s from ch c))

-- a token: its first character, and what was read from there on
record Taken (s : Bytes) (c : Cursor) (t : Token) (line character : ℕ) (d : Cursor) : Type 0 where
  pub at : ℕ
  pub ch : ℕ
  pub first : Cursor
  pub found : next_significant_char s c ≡ Ok (Found at ch first)
  pub begun : Begun s c at ch first
  pub on_line : line ≡ first.line
  pub on_character : character ≡ first.character
  pub readied : Readied s first at t d

abbrev Steps : Bytes → Cursor → Result Step LexerError → Type 0
Steps s c (Err e) = Failing s c e.line e.character
Steps s c (Ok (End d)) = AtEnd s c d
Steps s c (Ok (Took t line character d)) = Taken s c t line character d

steps : (s : Bytes) (c : Cursor) → Steps s c (step_of s c)
unfolding step_of lexer_error
steps s c =
    split-Significant (Steps s c) (next_significant_char s c) _ _ _
    (λ d q.
    record {
      place = d;
      reach = within_1 (subst (SignificantReach s c) q (significant_reach s c));
      on_line = refl;
      on_character = refl;
    })
    (λ d q. subst (SignificantReach s c) q (significant_reach s c))
    λ at k d q.
    let b = subst (SignificantReach s c) q (significant_reach s c) in
    let l = read_within s b.place d k (read s b.place d k b.char) in
    let e = b.is in
    let w = reads_token s at k d (omega arith) in
    split_result2 (Steps s c) (read_token s at k d) _ _
    (λ e m.
    let f = subst (Reads s d at) m w in
    record {
      place = f.place;
      reach = within_more (on b.reach b.char) f.reach;
      on_line = f.on_line;
      on_character = f.on_character;
    })
    (λ t e m.
    record {
      at = at;
      ch = k;
      first = d;
      found = q;
      begun = b;
      on_line = refl;
      on_character = refl;
      readied = subst (Reads s d at) m w;
    })

pub steps_consume : StepsConsume
steps_consume s c d t line character q =
    let x = subst (Steps s c) q (steps s c) in
    let b = x.begun in
    let l = read_within s b.place x.first x.ch (read s b.place x.first x.ch b.char) in
    let f = reach_on b.reach in
    let g = reach_on x.readied.reach in
    let e = b.is in
    record {
      place = x.at;
      code = x.ch;
      first = x.first;
      found = x.found;
      behind = omega arith;
      moves = omega arith;
      in_text = reach_within l.1 x.readied.reach;
      inside = x.readied.inside;
    }

-- the cursors of a text are reached character by character
pub stepped_reach : (s : Bytes) {c : Cursor} → Stepped s c → Reach s start 0 c
stepped_reach s first = here
stepped_reach s (then {c = c} p q) =
    let x = subst (Steps s c) q (steps s c) in
    let b = x.begun in
    reach_more (on (reach_more (stepped_reach s p) b.reach) b.char) x.readied.reach

told :
    (s : Bytes) (c : Cursor)
    → length s < 0x8000_0000_0000_0000
    → Reach s start 0 c
    → (x : Result Step LexerError) → Steps s c x
    → Told s c x
told s c h r (Err e) f =
    let w = f.reach in
    let p = reach_more r w.reach in
    let n = w.few in
    record {
      at = f.place.at;
      behind = reach_on w.reach;
      before = reach_within (omega arith) p;
      times = w.ends;
      not_few = omega arith;
      not_many = w.few;
      position = rw (f.on_line, f.on_character) (positioned s (omega arith) p);
    }
told s c h r (Ok (End d)) f =
    let p = reach_more r f.reach in
    let n = f.few in
    record {
      at = d.at;
      behind = reach_on f.reach;
      before = reach_within (omega arith) p;
      times = suc f.ends;
      not_few = omega arith;
      not_many = omega arith;
      position = positioned s (omega arith) p;
    }
told s c h r (Ok (Took t line character d)) x =
    let b = x.begun in
    let f = on (reach_more r b.reach) b.char in
    let p = reach_more f x.readied.reach in (
      record {
        place = x.at;
        code = x.ch;
        first = x.first;
        found = x.found;
        position = rw (x.on_line, x.on_character) (positioned s (omega arith) f);
      },
      positioned s (omega arith) p,
    )

pub positions_tell : PositionsTell
positions_tell s c h p = told s c h (stepped_reach s p) (step_of s c) (steps s c)
