-- The numbers of the lexical grammar are read by the readers of tokens.
use Prim.Native.Nat.{ℕ, zero, suc, ◌+◌, ◌-◌}
use native.Mathlib.Omega.{arith}
use mathlib.Core.Path.{◌≡◌, refl, ◌∙◌, ap}
use mathlib.Core.Bool.{Bool, true, false}
use mathlib.Core.List.{[], ◌∷◌, ◌++◌}
use lib.Dec.{eqb, ltb, leb}
use lib.ListN.{length, length-append}
use borrow.Author.Tests.{leb-true, lt-leb, ltb-false, ne_eqb}
use Rattle.base.specs.Bytes.{Bytes}
use Rattle.base.specs.Choice.{pick, by-test, and_right}
use Rattle.base.specs.Turns.{Turn, more, done, after, turns}
use Rattle.cursor.specs.Class.{in_span, can_start_identifier, digit_value, to_digit}
use Rattle.cursor.specs.Cursor.{most, bump, next_char}
use Rattle.cursor.specs.Number.{dotted, digit_added, takes_dot, digits, digits_turn, read_digits}
use Rattle.cursor.specs.declared.Cursor.{Cursor}
use Rattle.cursor.specs.declared.number.Digits.{Digits}
use Rattle.cursor.specs.declared.number.Sum.{Sum}
use Rattle.token_number.specs.Number.{is_bare_dot, finish_number, first_digit, read_unsigned, read_signed, read_number}
use Rattle.token.specs.Read.{read_after_minus, read_other, starts_number, read_long}
use Rattle.token_kind.specs.declared.Token.{Token}
use Rattle.token_kind.specs.declared.Token.TheVariants.{Number}
use Rattle.lexical.specs.Lexical.{Chars, is_digit, is_dot, begins, Run, none, one, IsUnsigned, whole, mixed, fraction, added, added_all, number_of}
use Rattle.lexical.specs.Lexed.{characters_at}
use Rattle.lexical.proofs.Characters.{Walk, here, step, walk_past, walk_short, stopped}
use Rattle.lexical.proofs.Letters.{apart, digit_no_sign, digit_no_pair, digit_no_space, digit_span}
use Rattle.lexical.proofs.SoundNumbers.{digit_dot}
use Rattle.lexical.proofs.CompleteWords.{Taken, by_first, long}
use Rattle.std.specs.Prelude.{Some, None, Ok, Result, Err}
use Rattle.base.specs.Option.{on_option, on_result, on_result2}

-- digits
pub is_digit_lem : (k radix : ℕ) → ltb (digit_value k) radix ≡ true → to_digit k radix ≡ Some (digit_value k)
unfolding to_digit pick
is_digit_lem k radix e = rw e

pub is_no_digit : (k radix : ℕ) → ltb (digit_value k) radix ≡ false → to_digit k radix ≡ None
unfolding to_digit pick
is_no_digit k radix e = rw e

digit_no_start : (k : ℕ) → is_digit k ≡ true → can_start_identifier k ≡ false
unfolding can_start_identifier digit_value pick
digit_no_start k h =
    let t : in_span 48 57 k ≡ true = digit_span k ∙ h in
    let l = leb-true k 57 (and_right (leb 48 k) (leb k 57) t) in
    rw (apart is_digit k 95 h refl, lt-leb 97 k (omega arith), lt-leb 65 k (omega arith))

-- the sum of digits
added_append : (x : Sum) (ks js : Chars) → added_all x (ks ++ js) ≡ added_all (added_all x ks) js
unfolding added_all
added_append x [] js = refl
added_append x (k ∷ ks) js = added_append (added x k) ks js

added_dot : (x : Sum) (ks js : Chars) → added_all x (ks ++ (46 ∷ js)) ≡ added_all (dotted (added_all x ks)) js
unfolding added_all on_option to_digit digit_value pick
added_dot x ks js = added_append x ks (46 ∷ js)

added_digit : (x : Sum) (k : ℕ) (ks : Chars) → is_digit k ≡ true → added_all x (k ∷ ks) ≡ added_all (digit_added x (digit_value k)) ks
unfolding added_all on_option
added_digit x k ks e = ap (λ y. added_all (on_option y (dotted x) λ v. digit_added x v) ks) (is_digit_lem k 10 e)

digits_dot : (x : Sum) {ks : Chars} → Run is_digit true ks → (added_all x ks).dot ≡ x.dot
unfolding added_all
digits_dot x none = refl
digits_dot x (one {k = k} {ks = ks} e r) =
    rw (added_digit x k ks e) (digits_dot (digit_added x (digit_value k)) r ∙ digit_dot x (digit_value k))

bump_some : (n : ℕ) → eqb (bump n) 0 ≡ false
unfolding bump pick
bump_some n =
    by-test (ltb n most)
    (λ e. rw e (ne_eqb (n + 1) 0 (λ q. omega arith)))
    (λ e. let l = ltb-false n most e in rw e (ne_eqb n 0 (λ q. omega arith)))

digit_places : (x : Sum) (v : ℕ) → x.dot ≡ true → eqb (digit_added x v).places 0 ≡ false
unfolding digit_added pick
digit_places x v e = rw e (bump_some x.places)

digits_places :
    (x : Sum) {ks : Chars}
    → x.dot ≡ true
    → eqb x.places 0 ≡ false
    → Run is_digit true ks
    → eqb (added_all x ks).places 0 ≡ false
unfolding added_all
digits_places x d p none = p
digits_places x d p (one {k = k} {ks = ks} e r) =
    rw (added_digit x k ks e)
    (digits_places (digit_added x (digit_value k)) (digit_dot x (digit_value k) ∙ d) (digit_places x (digit_value k) d) r)

not_bare : (x : Sum) {j : ℕ} {js : Chars} → x.dot ≡ true → Run is_digit true (j ∷ js) → is_bare_dot (added_all x (j ∷ js)) ≡ false
unfolding is_bare_dot pick
not_bare x {j} {js} d (one e r) =
    let y = digit_added x (digit_value j) in
    let z : y.dot ≡ true = digit_dot x (digit_value j) ∙ d in
    rw (added_digit x j js e, digits_dot y r ∙ z) (digits_places y z (digit_places x (digit_value j) d) r)

-- a turn once the next character is known
abbrev digits_next : Sum → Cursor → Result (ℕ × Cursor) Cursor → Turn Digits Digits
digits_next x c z =
    on_result2 z (λ d. done (digits x c)) λ k d.
    on_option (to_digit k 10)
    (pick (takes_dot x k) (more (digits (dotted x) d)) (done (digits x c)))
    λ v. more (digits (digit_added x v) d)

module _ (s : Bytes) where
  digit_run :
      (y : Digits) (m n : ℕ) (x : Sum) {c d : Cursor} {ks : Chars}
      → Walk s c ks d
      → Run is_digit true ks
      → m ≡ length ks + n
      → turns (digits_turn s) y m (digits x c) ≡ turns (digits_turn s) y n (digits (added_all x ks) d)
  unfolding turns on_result on_option added_all
  digit_run y m n x {c = c} here none f = let g : m ≡ n = omega arith in ap (λ m. turns (digits_turn s) y m (digits x c)) g
  digit_run y zero n x (step q w) (one e r) f = absurd (omega arith)
  digit_run y (suc m) n x (step q w) (one {k = k} e r) f =
      rw (q, is_digit_lem k 10 e) (digit_run y m n (digit_added x (digit_value k)) w r (omega arith))

  dot_turn :
      (y : Digits) (n : ℕ) (x : Sum) (c : Cursor) {d : Cursor}
      → next_char s c ≡ Ok (46, d)
      → x.dot ≡ false
      → turns (digits_turn s) y (suc n) (digits x c) ≡ turns (digits_turn s) y n (digits (dotted x) d)
  unfolding turns on_result on_option to_digit digit_value takes_dot pick
  dot_turn y n x c q e = rw (q, e)

  -- behind a fraction only a digit goes on
  fraction_stop :
      (y : Digits) (n : ℕ) (x : Sum) (c : Cursor)
      → begins is_digit (characters_at s c.at) ≡ false
      → x.dot ≡ true
      → turns (digits_turn s) y (suc n) (digits x c) ≡ digits x c
  unfolding turns on_result on_option takes_dot pick
  fraction_stop y n x c b e = go (next_char s c) refl
    where
      go :
          (z : Result (ℕ × Cursor) Cursor)
          → next_char s c ≡ z
          → after (digits_next x c z) (turns (digits_turn s) y n) ≡ digits x c
      go (Err d) q = refl
      go (Ok (k, d)) q = rw (is_no_digit k 10 (stopped s c d is_digit b q), e)

  whole_stop :
      (y : Digits) (n : ℕ) (x : Sum) (c : Cursor)
      → begins is_digit (characters_at s c.at) ≡ false
      → begins is_dot (characters_at s c.at) ≡ false
      → x.dot ≡ false
      → turns (digits_turn s) y (suc n) (digits x c) ≡ digits x c
  unfolding turns on_result on_option takes_dot pick
  whole_stop y n x c b f e = go (next_char s c) refl
    where
      go :
          (z : Result (ℕ × Cursor) Cursor)
          → next_char s c ≡ z
          → after (digits_next x c z) (turns (digits_turn s) y n) ≡ digits x c
      go (Err d) q = refl
      go (Ok (k, d)) q = rw (is_no_digit k 10 (stopped s c d is_digit b q), e, stopped s c d is_dot f q)

  -- all digits and the dot behind a first character
  read_whole :
      (x : Sum) {c d : Cursor} {ks : Chars}
      → Walk s c ks d
      → Run is_digit true ks
      → begins is_digit (characters_at s d.at) ≡ false
      → begins is_dot (characters_at s d.at) ≡ false
      → x.dot ≡ false
      → read_digits s c x ≡ digits (added_all x ks) d
  unfolding read_digits
  read_whole x {c} {d} {ks} w r b f e =
      let l = walk_short ks w in
      digit_run (digits x c) (suc (length s)) (suc (length s - length ks)) x w r (omega arith)
      ∙ whole_stop (digits x c) (length s - length ks) (added_all x ks) d b f (digits_dot x r ∙ e)

  read_fraction :
      (x : Sum) {c d : Cursor} {ks : Chars}
      → Walk s c ks d
      → Run is_digit true ks
      → begins is_digit (characters_at s d.at) ≡ false
      → x.dot ≡ true
      → read_digits s c x ≡ digits (added_all x ks) d
  unfolding read_digits
  read_fraction x {c} {d} {ks} w r b e =
      let l = walk_short ks w in
      digit_run (digits x c) (suc (length s)) (suc (length s - length ks)) x w r (omega arith)
      ∙ fraction_stop (digits x c) (length s - length ks) (added_all x ks) d b (digits_dot x r ∙ e)

  read_mixed :
      (x : Sum) {c d : Cursor} (ks : Chars) {js : Chars}
      → Walk s c (ks ++ (46 ∷ js)) d
      → Run is_digit true ks
      → Run is_digit true js
      → begins is_digit (characters_at s d.at) ≡ false
      → x.dot ≡ false
      → read_digits s c x ≡ digits (added_all (dotted (added_all x ks)) js) d
  unfolding read_digits
  read_mixed x {c} {d} ks {js} w r r' b e =
      let l = walk_short (ks ++ (46 ∷ js)) w in
      let h = length-append ks (46 ∷ js) in
      let v = walk_past ks w in
      let n = length s - length ks - suc (length js) in
      let y = digits x c in
      let z = added_all x ks in
      digit_run y (suc (length s)) (suc (length js + suc n)) x v.walked r (omega arith)
      ∙ dot_turn y (length js + suc n) z v.stop v.got (digits_dot x r ∙ e)
      ∙ digit_run y (length js + suc n) (suc n) (dotted z) v.left r' refl
      ∙ fraction_stop y n (added_all (dotted z) js) d b (digits_dot (dotted z) r')

  -- the first character is a digit, or a dot
  whole_unsigned :
      (minus : Bool) {d e : Cursor} {k : ℕ} {ks : Chars}
      → Walk s d ks e
      → Run is_digit true (k ∷ ks)
      → begins is_digit (characters_at s e.at) ≡ false
      → begins is_dot (characters_at s e.at) ≡ false
      → read_unsigned s minus k d ≡ Ok (Number (number_of minus (k ∷ ks)), e)
  unfolding read_unsigned finish_number is_bare_dot on_option pick
  whole_unsigned minus {k = k} w (one h r) b f =
      let x = first_digit (digit_value k) false in
      rw (is_digit_lem k 10 h, read_whole x w r b f refl, digits_dot x r)

  mixed_unsigned :
      (minus : Bool) {d e : Cursor} {k j : ℕ} {ks js : Chars}
      → Walk s d (ks ++ (46 ∷ j ∷ js)) e
      → Run is_digit true (k ∷ ks)
      → Run is_digit true (j ∷ js)
      → begins is_digit (characters_at s e.at) ≡ false
      → read_unsigned s minus k d ≡ Ok (Number (number_of minus (k ∷ ks ++ (46 ∷ j ∷ js))), e)
  unfolding read_unsigned finish_number on_option pick
  mixed_unsigned minus {k = k} {j = j} {ks = ks} {js = js} w (one h r) r' b =
      let x = first_digit (digit_value k) false in
      let z = dotted (added_all x ks) in
      rw (is_digit_lem k 10 h, read_mixed x ks w r r' b refl, not_bare z refl r', added_dot x ks (j ∷ js))

  fraction_unsigned :
      (minus : Bool) {d e : Cursor} {j : ℕ} {js : Chars}
      → Walk s d (j ∷ js) e
      → Run is_digit true (j ∷ js)
      → begins is_digit (characters_at s e.at) ≡ false
      → read_unsigned s minus 46 d ≡ Ok (Number (number_of minus (46 ∷ j ∷ js)), e)
  unfolding read_unsigned finish_number on_option to_digit digit_value pick
  fraction_unsigned minus w r b =
      let x = first_digit 0 true in
      rw (read_fraction x w r b refl, not_bare x refl r)

  unsigned :
      (minus : Bool) {d e : Cursor} {k : ℕ} {ks : Chars}
      → IsUnsigned (k ∷ ks) (characters_at s e.at)
      → Walk s d ks e
      → read_unsigned s minus k d ≡ Ok (Number (number_of minus (k ∷ ks)), e)
  unsigned minus (whole r b f) w = whole_unsigned minus w r b f
  unsigned minus (mixed r r' b) w = mixed_unsigned minus w r r' b
  unsigned minus (fraction r b) w = fraction_unsigned minus w r b

  digit_taken :
      (c d : Cursor) (k : ℕ) {t : Token} {e : Cursor}
      → next_char s c ≡ Ok (k, d)
      → is_digit k ≡ true
      → read_unsigned s false k d ≡ Ok (t, e)
      → Taken s c t e
  unfolding digit_value read_long starts_number read_number pick
  digit_taken c d k q h r =
      long s c d k q (digit_no_space k h) (apart is_digit k 47 h refl) (λ j. digit_no_pair k j h) (digit_no_sign k h)
      (rw (
        apart is_digit k 64 h refl,
        apart is_digit k 42 h refl,
        digit_no_start k h,
        apart is_digit k 34 h refl,
        digit_span k ∙ h,
        apart is_digit k 45 h refl,
        apart is_digit k 43 h refl,
      )
      r)

  dot_taken : (c d : Cursor) {t : Token} {e : Cursor} → next_char s c ≡ Ok (46, d) → read_unsigned s false 46 d ≡ Ok (t, e) → Taken s c t e
  unfolding by_first can_start_identifier starts_number read_number
  dot_taken c d q r = long s c d 46 q refl refl (λ j. refl) refl r

  pub number_taken :
      {c e : Cursor} {ks : Chars}
      → IsUnsigned ks (characters_at s e.at)
      → Walk s c ks e
      → Taken s c (Number (number_of false ks)) e
  number_taken (whole {k = k} (one h r) b f) (step {c = c} {d = d} q w) = digit_taken c d k q h (unsigned false (whole (one h r) b f) w)
  number_taken (mixed {k = k} (one h r) r' b) (step {c = c} {d = d} q w) = digit_taken c d k q h (unsigned false (mixed (one h r) r' b) w)
  number_taken (fraction r b) (step {c = c} {d = d} q w) = dot_taken c d q (unsigned false (fraction r b) w)

  signed : (minus : Bool) {d e : Cursor} {ks : Chars} → IsUnsigned ks (characters_at s e.at) → Walk s d ks e → read_signed s minus d ≡ Ok (Number (number_of minus ks), e)
  unfolding read_signed on_result
  signed minus (whole r b f) (step q w) = rw q (unsigned minus (whole r b f) w)
  signed minus (mixed r r' b) (step q w) = rw q (unsigned minus (mixed r r' b) w)
  signed minus (fraction r b) (step q w) = rw q (unsigned minus (fraction r b) w)

  pub plus_taken :
      (c d : Cursor) {e : Cursor} {ks : Chars}
      → next_char s c ≡ Ok (43, d)
      → IsUnsigned ks (characters_at s e.at)
      → Walk s d ks e
      → Taken s c (Number (number_of false ks)) e
  unfolding by_first can_start_identifier starts_number read_number
  plus_taken c d q u w = long s c d 43 q refl refl (λ j. refl) refl (signed false u w)

  pub minus_taken :
      (c d : Cursor) {e f : Cursor} {k : ℕ} {ks : Chars}
      → next_char s c ≡ Ok (45, d)
      → next_char s d ≡ Ok (k, f)
      → is_digit k ≡ true
      → IsUnsigned (k ∷ ks) (characters_at s e.at)
      → Walk s f ks e
      → Taken s c (Number (number_of true (k ∷ ks))) e
  unfolding by_first can_start_identifier starts_number read_other read_after_minus read_number on_result
  minus_taken c d {k = k} q p h u w =
      long s c d 45 q refl refl (λ j. refl) refl (rw (p, digit_span k ∙ h) (signed true u (step p w)))
