-- The colours and zoom ranges of the lexical grammar are read by the readers of tokens.
use Prim.Native.Nat.{ℕ, suc, ◌+◌, ◌-◌, ◌*◌, ◌<◌}
use native.Mathlib.Omega.{arith}
use mathlib.Core.Path.{◌≡◌, refl, sym, ◌∙◌, subst}
use mathlib.Core.Bool.{Bool, true, false}
use mathlib.Core.List.{[], ◌∷◌, ◌++◌}
use lib.Dec.{eqb, ltb}
use lib.ListN.{length}
use borrow.Author.Tests.{ltb-true}
use Rattle.base.specs.Bytes.{Bytes}
use Rattle.base.specs.Choice.{pick}
use Rattle.base.specs.Turns.{turns}
use Rattle.color.specs.Named.{rgb}
use Rattle.cursor.specs.Class.{can_start_identifier, digit_value, to_digit}
use Rattle.cursor.specs.Cursor.{bump, next_char}
use Rattle.cursor.specs.declared.Cursor.{Cursor}
use Rattle.token.specs.Read.{starts_number, read_other}
use Rattle.token_zoom.specs.Zoom.{
  read_digit,
  hex,
  hex_added,
  hex_turn,
  read_hex_digits,
  read_color,
  read_zoom_level,
  read_hyphen,
  ranged,
  zoom_range,
  read_levels,
  read_zoom_range,
}
use Rattle.token_kind.specs.declared.Token.TheVariants.{ZoomRange, Color}
use Rattle.token_zoom.specs.declared.Hex.{Hex}
use Rattle.token_laws.proofs.Colors.{six_digits_lem}
use Rattle.lexical.specs.Lexical.{
  Chars,
  is_digit,
  is_hex_digit,
  is_hyphen,
  begins,
  Run,
  none,
  one,
  IsLevel,
  one_digit,
  two_digits,
  IsZooms,
  exactly,
  unsaid,
  up_from,
  up_to,
  between,
}
use Rattle.lexical.specs.Lexed.{characters_at}
use Rattle.lexical.proofs.Characters.{Walk, here, step, walk_characters, walk_split, walk_past, walk_short, stops_got, stop_split}
use Rattle.lexical.proofs.Letters.{apart}
use Rattle.lexical.proofs.SoundZoom.{three_digits_lem}
use Rattle.lexical.proofs.CompleteWords.{Taken, by_first, long}
use Rattle.lexical.proofs.CompleteNumbers.{is_digit_lem, is_no_digit}
use Rattle.std.specs.Prelude.{Option, Some, None, Ok}
use Rattle.base.specs.Option.{on_option, on_result, on_result2}

below : (k : ℕ) → is_hex_digit k ≡ true → digit_value k < 16
below k h = ltb-true (digit_value k) 16 h

module _ (s : Bytes) where
  -- one digit
  one_read :
      (radix : ℕ) (c d : Cursor) {k : ℕ}
      → next_char s c ≡ Ok (k, d)
      → ltb (digit_value k) radix ≡ true
      → read_digit s radix c ≡ Some (digit_value k, d)
  unfolding read_digit on_result on_option
  one_read radix c d {k} q e = rw (q, is_digit_lem k radix e)

  none_read : (radix : ℕ) (c : Cursor) → begins (λ k. ltb (digit_value k) radix) (characters_at s c.at) ≡ false → read_digit s radix c ≡ None
  unfolding read_digit on_result on_option
  none_read radix c b =
      stop_split s c (λ k. ltb (digit_value k) radix)
      (λ y. ◌≡◌ {A = Option (ℕ × Cursor)} (on_result2 y (λ d. None) (λ k d. on_option (to_digit k radix) None λ v. Some (v, d))) None)
      b
      (λ d. refl)
      (λ k d e. rw (is_no_digit k radix e))

  -- levels
  level :
      {c d : Cursor} {a : Chars} {m : ℕ}
      → IsLevel a (characters_at s d.at) m
      → Walk s c a d
      → read_zoom_level s c ≡ (Some m, d)
  unfolding read_zoom_level on_option
  level (one_digit h b) (step {c = c} {d = d} q here) = rw (one_read 10 c d q h, none_read 10 d b)
  level (two_digits h g) (step {c = c} {d = d} q (step {d = e} p here)) = rw (one_read 10 c d q h, one_read 10 d e p g)

  no_level : (c : Cursor) → begins is_digit (characters_at s c.at) ≡ false → read_zoom_level s c ≡ (None, c)
  unfolding read_zoom_level on_option
  no_level c b = rw (none_read 10 c b)

  a_hyphen : (c d : Cursor) → next_char s c ≡ Ok (45, d) → read_hyphen s c ≡ (true, d)
  unfolding read_hyphen on_result pick
  a_hyphen c d q = rw q

  no_hyphen : (c : Cursor) → begins is_hyphen (characters_at s c.at) ≡ false → read_hyphen s c ≡ (false, c)
  unfolding read_hyphen on_result pick
  no_hyphen c b =
      stop_split s c is_hyphen
      (λ y. ◌≡◌ {A = Bool × Cursor} (on_result2 y (λ d. (false, c)) (λ k d. pick (eqb k 45) (true, d) (false, c))) (false, c))
      b
      (λ d. refl)
      (λ k d e. rw e)

  -- a level does not begin with a hyphen
  level_no_hyphen : {c d : Cursor} {b rest : Chars} {n : ℕ} → IsLevel b rest n → Walk s c b d → begins is_hyphen (characters_at s c.at) ≡ false
  unfolding digit_value pick
  level_no_hyphen (one_digit {a = a} h b) (step {c = c} {d = d} q w) = stops_got s c d is_hyphen q (apart is_digit a 45 h refl)
  level_no_hyphen (two_digits {a = a} h g) (step {c = c} {d = d} q w) = stops_got s c d is_hyphen q (apart is_digit a 45 h refl)

  module _ {c d : Cursor} (a : Chars) {js : Chars} {m : ℕ} where
    first_level : {e : Cursor} → IsLevel a (js ++ characters_at s e.at) m → Walk s c a d → Walk s d js e → read_zoom_level s c ≡ (Some m, d)
    first_level l w v = level (subst (λ r. IsLevel a r m) (sym (walk_characters v)) l) w

  up_levels :
      (a : Chars) {c : Cursor} (d : Cursor) {f e : Cursor} {m : ℕ}
      → IsLevel a (45 ∷ characters_at s e.at) m
      → Walk s c a d
      → next_char s d ≡ Ok (45, f)
      → Walk s f [] e
      → begins is_digit (characters_at s e.at) ≡ false
      → read_levels s c ≡ Ok (ZoomRange (Some m) None, e)
  unfolding read_levels zoom_range ranged on_option pick
  up_levels a d {f = f} l w q here b = rw (first_level a l w (step q here), a_hyphen d f q, no_level f b)

  levels :
      {c e : Cursor} {ks : Chars} {min max : Option ℕ}
      → IsZooms ks (characters_at s e.at) min max
      → Walk s c ks e
      → read_levels s c ≡ Ok (ZoomRange min max, e)
  unfolding read_levels zoom_range ranged on_option digit_value pick
  levels {e = e} (exactly l b f) w = rw (level l w, no_hyphen e f, no_level e b)
  levels (unsaid {a = a} l g) w =
      let v = walk_split a w in
      rw (first_level a l v.1.0 v.1.1, no_hyphen v.0 (level_no_hyphen g v.1.1), level g v.1.1)
  levels (up_from {a = a} l b) w = let v = walk_past a w in up_levels a v.stop l v.walked v.got v.left b
  levels (up_to l) (step {c = c} {d = d} q w) =
      rw (no_level c (stops_got s c d is_digit q refl), a_hyphen c d q, level l w)
  levels (between {a = a} l g) w =
      let v = walk_past a w in
      rw (first_level a l v.walked (step v.got v.left), a_hyphen v.stop v.behind v.got, level g v.left)

  pub zoom_taken :
      (c d f : Cursor) {e : Cursor} {ks : Chars} {min max : Option ℕ}
      → next_char s c ≡ Ok (124, d)
      → next_char s d ≡ Ok (122, f)
      → IsZooms ks (characters_at s e.at) min max
      → Walk s f ks e
      → Taken s c (ZoomRange min max) e
  unfolding by_first can_start_identifier starts_number read_other read_zoom_range on_result
  zoom_taken c d f q p z w = long s c d 124 q refl refl (λ j. refl) refl (rw p (levels z w))

  -- colours
  hex_turn_lem :
      (y : Hex) (m n i v : ℕ) (c d : Cursor) {k : ℕ}
      → m ≡ suc n
      → next_char s c ≡ Ok (k, d)
      → is_hex_digit k ≡ true
      → turns (hex_turn s) y m (hex i v c) ≡ turns (hex_turn s) y n (hex (bump i) (hex_added v (digit_value k)) d)
  unfolding turns on_option
  hex_turn_lem y m n i v c d f q e = rw (f, one_read 16 c d q e)

  hex_stop :
      (y : Hex) (m n i v : ℕ) (c : Cursor)
      → m ≡ suc n
      → begins is_hex_digit (characters_at s c.at) ≡ false
      → turns (hex_turn s) y m (hex i v c) ≡ hex i v c
  unfolding turns on_option
  hex_stop y m n i v c f b = rw (f, none_read 16 c b)

  three_read :
      {c e : Cursor} {k1 k2 k3 : ℕ}
      → Walk s c (k1 ∷ k2 ∷ k3 ∷ []) e
      → Run is_hex_digit true (k1 ∷ k2 ∷ k3 ∷ [])
      → begins is_hex_digit (characters_at s e.at) ≡ false
      → read_hex_digits s c ≡ hex 3 (hex_added (hex_added (hex_added 0 (digit_value k1)) (digit_value k2)) (digit_value k3)) e
  unfolding read_hex_digits bump pick
  three_read (step {c = c} {d = d} q (step {d = e} p (step {d = f} o here))) (one h (one g (one i none))) b =
      let y = hex 0 0 c in
      let l = walk_short _ (step q (step p (step o here))) in
      let n = length s - 3 in
      hex_turn_lem y (suc (length s)) (n + 3) 0 0 c d (omega arith) q h
      ∙ hex_turn_lem y (n + 3) (n + 2) 1 _ d e (omega arith) p g
      ∙ hex_turn_lem y (n + 2) (n + 1) 2 _ e f (omega arith) o i
      ∙ hex_stop y (n + 1) n 3 _ f (omega arith) b

  pub three_taken :
      (c d : Cursor) {e : Cursor} {k1 k2 k3 : ℕ}
      → next_char s c ≡ Ok (35, d)
      → Walk s d (k1 ∷ k2 ∷ k3 ∷ []) e
      → Run is_hex_digit true (k1 ∷ k2 ∷ k3 ∷ [])
      → begins is_hex_digit (characters_at s e.at) ≡ false
      → Taken s c (Color (rgb (17 * digit_value k1) (17 * digit_value k2) (17 * digit_value k3))) e
  unfolding by_first can_start_identifier starts_number read_other read_color
  three_taken c d {k1 = k1} {k2 = k2} {k3 = k3} q w (one h (one g (one i none))) b =
      long s c d 35 q refl refl (λ j. refl) refl
      (rw (
        three_read w (one h (one g (one i none))) b,
        three_digits_lem (digit_value k1) (digit_value k2) (digit_value k3) (below k1 h) (below k2 g) (below k3 i),
      ))

  six_read :
      {c e : Cursor} {k1 k2 k3 k4 k5 k6 : ℕ}
      → Walk s c (k1 ∷ k2 ∷ k3 ∷ k4 ∷ k5 ∷ k6 ∷ []) e
      → Run is_hex_digit true (k1 ∷ k2 ∷ k3 ∷ k4 ∷ k5 ∷ k6 ∷ [])
      → begins is_hex_digit (characters_at s e.at) ≡ false
      → read_hex_digits s c
      ≡ hex 6 (hex_added (hex_added (hex_added (hex_added (hex_added (hex_added 0 (digit_value k1)) (digit_value k2)) (digit_value k3)) (digit_value k4)) (digit_value k5)) (digit_value k6)) e
  unfolding read_hex_digits bump pick
  six_read
      (step {c = c} {d = c1} q1 (step {d = c2} q2 (step {d = c3} q3 (step {d = c4} q4 (step {d = c5} q5 (step {d = c6} q6 here))))))
      (one h1 (one h2 (one h3 (one h4 (one h5 (one h6 none))))))
      b =
      let y = hex 0 0 c in
      let l = walk_short _ (step q1 (step q2 (step q3 (step q4 (step q5 (step q6 here)))))) in
      let n = length s - 6 in
      hex_turn_lem y (suc (length s)) (n + 6) 0 0 c c1 (omega arith) q1 h1
      ∙ hex_turn_lem y (n + 6) (n + 5) 1 _ c1 c2 (omega arith) q2 h2
      ∙ hex_turn_lem y (n + 5) (n + 4) 2 _ c2 c3 (omega arith) q3 h3
      ∙ hex_turn_lem y (n + 4) (n + 3) 3 _ c3 c4 (omega arith) q4 h4
      ∙ hex_turn_lem y (n + 3) (n + 2) 4 _ c4 c5 (omega arith) q5 h5
      ∙ hex_turn_lem y (n + 2) (n + 1) 5 _ c5 c6 (omega arith) q6 h6
      ∙ hex_stop y (n + 1) n 6 _ c6 (omega arith) b

  pub six_taken :
      (c d : Cursor) {e : Cursor} {k1 k2 k3 k4 k5 k6 : ℕ}
      → next_char s c ≡ Ok (35, d)
      → Walk s d (k1 ∷ k2 ∷ k3 ∷ k4 ∷ k5 ∷ k6 ∷ []) e
      → Run is_hex_digit true (k1 ∷ k2 ∷ k3 ∷ k4 ∷ k5 ∷ k6 ∷ [])
      → begins is_hex_digit (characters_at s e.at) ≡ false
      → Taken s c (Color (rgb (16 * digit_value k1 + digit_value k2) (16 * digit_value k3 + digit_value k4) (16 * digit_value k5 + digit_value k6))) e
  unfolding by_first can_start_identifier starts_number read_other read_color
  six_taken c d q w (one {k = k1} h1 (one {k = k2} h2 (one {k = k3} h3 (one {k = k4} h4 (one {k = k5} h5 (one {k = k6} h6 none)))))) b =
      long s c d 35 q refl refl (λ j. refl) refl
      (rw (
        six_read w (one h1 (one h2 (one h3 (one h4 (one h5 (one h6 none)))))) b,
        six_digits_lem (digit_value k1) (digit_value k2) (digit_value k3) (below k1 h1) (below k2 h2) (below k3 h3)
            (digit_value k4)
            (digit_value k5)
            (digit_value k6)
            (below k4 h4)
            (below k5 h5)
            (below k6 h6),
      ))
