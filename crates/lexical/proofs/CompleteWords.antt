-- Each token of the lexical grammar is read by the readers of tokens.
use Prim.Native.Nat.{ℕ, zero, suc, ◌<◌}
use native.Mathlib.Omega.{arith}
use mathlib.Core.Path.{◌≡◌, refl, sym, ◌∙◌, ap}
use mathlib.Core.Bool.{Bool, true, false}
use mathlib.Core.List.{List, [], ◌∷◌, ◌++◌}
use lib.Dec.{eqb}
use lib.ListN.{length, get_or}
use borrow.Author.Tests.{eqb-true}
use Rattle.base.proofs.Options.{none_some}
use Rattle.base.specs.Bytes.{Bytes, ascii, same}
use Rattle.base.specs.Choice.{pick, by-test, clash}
use Rattle.base.specs.declared.Range.{Range}
use Rattle.base.specs.Turns.{Turn, more, done, after, turns}
use Rattle.space.specs.Space.{among, is_white_space}
use Rattle.cursor.specs.Class.{can_be_in_at_directive, can_start_identifier, can_continue_identifier}
use Rattle.cursor.specs.Cursor.{next_char}
use Rattle.cursor.specs.declared.Cursor.{Cursor}
use Rattle.token.specs.Read.{
  range,
  skip_one,
  read_import,
  read_directive,
  at_directive_end,
  read_at_directive,
  identifier_end,
  read_identifier,
  quoted_turn,
  read_quoted,
  read_string,
  read_after_minus,
  read_other,
  starts_number,
  read_long,
  read_single,
  read_pair,
  read_token,
}
use Rattle.token_kind.specs.Reason.{Reading, open_string, lexer_error}
use Rattle.token_kind.specs.declared.LexerError.{LexerError}
use Rattle.token_kind.specs.Signs.{Spelled, two_letter, one_letter, is_pair, first_pair, first_letter, get_two_char_simple_token, get_one_char_simple_token}
use Rattle.token_kind.specs.declared.Token.{Token}
use Rattle.token_kind.specs.declared.Token.TheVariants.{Import, Identifier, Text, ColorRef}
use Rattle.lexical.specs.Lexical.{Chars, is_digit, is_quote, is_gap, pairs_with, begins, Run, none, one, IsGap, no_gap, a_gap}
use Rattle.lexical.specs.Lexed.{characters_at}
use Rattle.lexical.proofs.Characters.{Walk, here, step, walk_split, walk_past, walk_short, stops_got, stop_split}
use Rattle.lexical.proofs.Letters.{apart, starts_no_sign, starts_no_pair, starts_no_space, digit_span, directive_no_space, word_bytes}
use Rattle.std.specs.Prelude.{Option, Some, None, Result, Ok, Err}
use Rattle.base.specs.Option.{on_option, on_option2, on_result, on_result2}

-- a token is read at c, up to e, and no blank begins there
pub record Taken (s : Bytes) (c : Cursor) (t : Token) (e : Cursor) : Type 0 where
  pub first : ℕ
  pub behind : Cursor
  pub got : next_char s c ≡ Ok (first, behind)
  pub no_space : is_white_space first ≡ false
  pub no_slash : eqb first 47 ≡ false
  pub ready : read_token s c.at first behind ≡ Ok (t, e)

-- what begins a sign is one of the letters of the tables
abbrev none_of_lem : (ℕ → Bool) → List Spelled → Bool
none_of_lem p [] = true
none_of_lem p (e ∷ es) = pick (p (get_or e.letters 0 0)) false (none_of_lem p es)

none_head : (p : ℕ → Bool) (e : Spelled) (es : List Spelled) → none_of_lem p (e ∷ es) ≡ true → p (get_or e.letters 0 0) ≡ false
unfolding pick
none_head p e es o = by-test (p (get_or e.letters 0 0)) (λ t. clash o (rw t)) (λ t. t)

none_tail : (p : ℕ → Bool) (e : Spelled) (es : List Spelled) → none_of_lem p (e ∷ es) ≡ true → none_of_lem p es ≡ true
unfolding pick
none_tail p e es o = by-test (p (get_or e.letters 0 0)) (λ t. clash o (rw t)) (λ t. rw t at o)

first_pair_lem : (p : ℕ → Bool) (es : List Spelled) (a b : ℕ) {t : Token} → none_of_lem p es ≡ true → first_pair es a b ≡ Some t → p a ≡ false
unfolding first_pair is_pair pick
first_pair_lem p [] a b o h = none_some h
first_pair_lem p (e ∷ es) a b o h =
    by-test (eqb (get_or e.letters 0 0) a)
    (λ u. ap p (sym (eqb-true (get_or e.letters 0 0) a u)) ∙ none_head p e es o)
    (λ u. first_pair_lem p es a b (none_tail p e es o) (rw u at h))

first_letter_lem : (p : ℕ → Bool) (es : List Spelled) (a : ℕ) {t : Token} → none_of_lem p es ≡ true → first_letter es a ≡ Some t → p a ≡ false
unfolding first_letter pick
first_letter_lem p [] a o h = none_some h
first_letter_lem p (e ∷ es) a o h =
    by-test (eqb a (get_or e.letters 0 0))
    (λ u. ap p (eqb-true a (get_or e.letters 0 0) u) ∙ none_head p e es o)
    (λ u. first_letter_lem p es a (none_tail p e es o) (rw u at h))

pair_first : (p : ℕ → Bool) (a b : ℕ) {t : Token} → get_two_char_simple_token a b ≡ Some t → none_of_lem p two_letter ≡ true → p a ≡ false
unfolding get_two_char_simple_token
pair_first p a b h o = first_pair_lem p two_letter a b o h

sign_first : (p : ℕ → Bool) (a : ℕ) {t : Token} → get_one_char_simple_token a ≡ Some t → none_of_lem p one_letter ≡ true → p a ≡ false
unfolding get_one_char_simple_token
sign_first p a h o = first_letter_lem p one_letter a o h

unpaired : (x : Option Token) → on_option x false (λ t. true) ≡ false → x ≡ None
unfolding on_option
unpaired None e = refl
unpaired (Some t) e = clash refl e

-- a turn of a run once the next character is known
abbrev run_next : (ℕ → Bool) → Cursor → Result (ℕ × Cursor) Cursor → Turn Cursor Cursor
run_next p c y = on_result2 y (λ d. done c) λ k d. pick (p k) (more d) (done c)

-- what a first character that is known runs through
unfoldable pub by_first : Unit {0}
unfolding is_white_space among get_two_char_simple_token first_pair is_pair get_one_char_simple_token first_letter read_long pick
by_first = tt

module _ (s : Bytes) where
  -- a run of a class, up to where it stops
  run_turns :
      (p : ℕ → Bool) (x : Cursor) (n : ℕ) {c d : Cursor} {ks : Chars}
      → Walk s c ks d
      → Run p true ks
      → begins p (characters_at s d.at) ≡ false
      → length ks < n
      → turns (λ (c : Cursor). run_next p c (next_char s c)) x n c ≡ d
  unfolding turns on_result pick
  run_turns p x zero w r b l = absurd (omega arith)
  run_turns p x (suc n) {c = c} here none b l =
      stop_split s c p
      (λ y. after (run_next p c y) (turns (λ (c : Cursor). run_next p c (next_char s c)) x n) ≡ c)
      b
      (λ d. refl)
      (λ k d e. rw e)
  run_turns p x (suc n) (step q w) (one e r) b l = rw (q, e) (run_turns p x n w r b (omega arith))

  identifier_end_lem :
      {c d : Cursor} {ks : Chars}
      → Walk s c ks d
      → Run can_continue_identifier true ks
      → begins can_continue_identifier (characters_at s d.at) ≡ false
      → identifier_end s c ≡ d
  unfolding identifier_end
  identifier_end_lem {c} {ks = ks} w r b = let l = walk_short ks w in run_turns can_continue_identifier c (suc (length s)) w r b (omega arith)

  quoted_turns :
      (x : Result (Range × Cursor) LexerError) (from n : ℕ) {c d e : Cursor} {ks : Chars}
      → Walk s c ks d
      → Run is_quote false ks
      → next_char s d ≡ Ok (34, e)
      → length ks < n
      → turns (quoted_turn s from) x n c ≡ Ok (range from d.at, e)
  unfolding turns on_result pick
  quoted_turns x from zero w r q l = absurd (omega arith)
  quoted_turns x from (suc n) here none q l = rw q
  quoted_turns x from (suc n) (step p w) (one e r) q l = rw (p, e) (quoted_turns x from n w r q (omega arith))

  quoted :
      {c d e : Cursor} {ks : Chars}
      → Walk s c ks d
      → Run is_quote false ks
      → next_char s d ≡ Ok (34, e)
      → read_quoted s c ≡ Ok (range c.at d.at, e)
  unfolding read_quoted
  quoted {c} {ks = ks} w r q = let l = walk_short ks w in quoted_turns (Err (lexer_error open_string c)) c.at (suc (length s)) w r q (omega arith)

  -- a token that is no sign is read by readLong
  no_pair : (a : ℕ) (d : Cursor) → ((j : ℕ) → get_two_char_simple_token a j ≡ None) → read_pair s a d ≡ None
  unfolding read_pair on_result on_option
  no_pair a d h = go (next_char s d)
    where
      go : (x : Result (ℕ × Cursor) Cursor) → ◌≡◌ {A = Option (Token × Cursor)} (on_result2 x (λ d. None) λ j e. on_option (get_two_char_simple_token a j) None λ t. Some (t, e)) None
      go (Err e) = refl
      go (Ok (j, e)) = rw (h j)

  pub long :
      (c d : Cursor) (k : ℕ) {t : Token} {e : Cursor}
      → next_char s c ≡ Ok (k, d)
      → is_white_space k ≡ false
      → eqb k 47 ≡ false
      → ((j : ℕ) → get_two_char_simple_token k j ≡ None)
      → get_one_char_simple_token k ≡ None
      → read_long s c.at k d ≡ Ok (t, e)
      → Taken s c t e
  unfolding read_token read_single on_option
  long c d k q f g p o r =
      record { first = k; behind = d; got = q; no_space = f; no_slash = g; ready = rw (no_pair k d p, o) r }

  -- * and names
  pub star_taken : (c d : Cursor) → next_char s c ≡ Ok (42, d) → Taken s c (Identifier (range c.at d.at)) d
  unfolding by_first
  star_taken c d q = long c d 42 q refl refl (λ j. refl) refl refl

  pub name_taken :
      (c d : Cursor) {e : Cursor} {k : ℕ} {ks : Chars}
      → next_char s c ≡ Ok (k, d)
      → can_start_identifier k ≡ true
      → Walk s d ks e
      → Run can_continue_identifier true ks
      → begins can_continue_identifier (characters_at s e.at) ≡ false
      → Taken s c (Identifier (range c.at e.at)) e
  unfolding read_long read_identifier pick can_start_identifier
  name_taken c d {k = k} q h w r b =
      long c d k q (starts_no_space k h) (apart can_start_identifier k 47 h refl) (λ j. starts_no_pair k j h) (starts_no_sign k h)
      (rw (apart can_start_identifier k 64 h refl, apart can_start_identifier k 42 h refl, h, identifier_end_lem w r b))

  pub hyphen_taken :
      (c d e : Cursor) {g : Cursor} {k : ℕ} {ks : Chars}
      → next_char s c ≡ Ok (45, d)
      → next_char s d ≡ Ok (k, e)
      → can_continue_identifier k ≡ true
      → is_digit k ≡ false
      → Walk s e ks g
      → Run can_continue_identifier true ks
      → begins can_continue_identifier (characters_at s g.at) ≡ false
      → Taken s c (Identifier (range c.at g.at)) g
  unfolding by_first starts_number read_other read_after_minus read_identifier can_start_identifier on_result
  hyphen_taken c d e {k = k} q p h n w r b =
      long c d 45 q refl refl (λ j. refl) refl
      (rw (p, digit_span k ∙ n, h, identifier_end_lem (step p w) (one h r) b))

  pub string_taken :
      (c d e g : Cursor) {ks : Chars}
      → next_char s c ≡ Ok (34, d)
      → Walk s d ks e
      → Run is_quote false ks
      → next_char s e ≡ Ok (34, g)
      → Taken s c (Text (range d.at e.at)) g
  unfolding by_first read_string can_start_identifier on_result
  string_taken c d e g q w r p = long c d 34 q refl refl (λ j. refl) refl (rw (quoted w r p))

  -- signs
  pub pair_taken :
      (c d e : Cursor) (a b : ℕ) {t : Token}
      → next_char s c ≡ Ok (a, d)
      → next_char s d ≡ Ok (b, e)
      → get_two_char_simple_token a b ≡ Some t
      → Taken s c t e
  unfolding read_token read_pair on_result on_option pick is_white_space among
  pair_taken c d e a b q p h =
      record {
        first = a;
        behind = d;
        got = q;
        no_space = pair_first is_white_space a b h refl;
        no_slash = pair_first (λ k. eqb k 47) a b h refl;
        ready = rw (p, h);
      }

  pub sign_taken :
      (c d : Cursor) (a : ℕ) {t : Token}
      → next_char s c ≡ Ok (a, d)
      → get_one_char_simple_token a ≡ Some t
      → begins (pairs_with a) (characters_at s d.at) ≡ false
      → Taken s c t d
  unfolding read_token read_pair read_single on_result on_option pick is_white_space among
  sign_taken c d a {t = t} q h b =
      record {
        first = a;
        behind = d;
        got = q;
        no_space = sign_first is_white_space a h refl;
        no_slash = sign_first (λ k. eqb k 47) a h refl;
        ready =
            stop_split s d (pairs_with a)
            (λ y. ◌≡◌ {A = Reading} (on_option2 (on_result2 y (λ e. None) λ j e. on_option (get_two_char_simple_token a j) None λ t. Some (t, e)) (read_single s c.at a d) λ t e. Ok (t, e)) (Ok (t, d)))
            b
            (λ e. rw h)
            (λ j e n. rw (unpaired (get_two_char_simple_token a j) n, h));
      }

  -- a word behind @
  directive_end :
      {c d : Cursor} {ks : Chars}
      → Walk s c ks d
      → Run can_be_in_at_directive true ks
      → begins can_be_in_at_directive (characters_at s d.at) ≡ false
      → at_directive_end s c ≡ d
  unfolding at_directive_end
  directive_end {c} {ks = ks} w r b = let l = walk_short ks w in run_turns can_be_in_at_directive c (suc (length s)) w r b (omega arith)

  directive :
      {c d : Cursor} {k : ℕ} {ks : Chars}
      → Walk s c (k ∷ ks) d
      → Run can_be_in_at_directive true (k ∷ ks)
      → begins can_be_in_at_directive (characters_at s d.at) ≡ false
      → read_at_directive s c ≡ read_directive s c.at d
  unfolding read_at_directive on_result pick
  directive (step q w) (one h r) b = rw (q, h, directive_end w r b)

  at_taken :
      (c d : Cursor) {t : Token} {e : Cursor}
      → next_char s c ≡ Ok (64, d)
      → read_at_directive s d ≡ Ok (t, e)
      → Taken s c t e
  unfolding by_first
  at_taken c d q r = long c d 64 q refl refl (λ j. refl) refl r

  pub reference_taken :
      (c d : Cursor) {e : Cursor} {k : ℕ} {ks : Chars}
      → next_char s c ≡ Ok (64, d)
      → Walk s d (k ∷ ks) e
      → Run can_be_in_at_directive true (k ∷ ks)
      → begins can_be_in_at_directive (characters_at s e.at) ≡ false
      → same (k ∷ ks) (ascii "import") ≡ false
      → Taken s c (ColorRef (range d.at e.at)) e
  unfolding read_directive pick
  reference_taken c d {e = e} q w r b n =
      at_taken c d q (directive w r b ∙ rw (ap (λ x. same x (ascii "import")) (word_bytes w r) ∙ n))

  -- a blank or a bracket that is passed over
  gap_skipped : (bracket : ℕ) (c d : Cursor) {k : ℕ} → next_char s c ≡ Ok (k, d) → is_gap bracket k ≡ true → skip_one s bracket c ≡ d
  unfolding skip_one on_result pick
  gap_skipped bracket c d {k} q h =
      by-test (is_white_space k) (λ t. rw (q, t)) λ t.
      by-test (eqb k bracket) (λ u. rw (q, t, u)) (λ u. clash h (rw (t, u)))

  gap_left : (bracket : ℕ) (c : Cursor) → begins (is_gap bracket) (characters_at s c.at) ≡ false → skip_one s bracket c ≡ c
  unfolding skip_one on_result pick
  gap_left bracket c b =
      stop_split s c (is_gap bracket)
      (λ y. on_result2 y (λ d. c) (λ k d. pick (is_white_space k) d (pick (eqb k bracket) d c)) ≡ c)
      b
      (λ d. refl)
      (λ k d h.
      by-test (is_white_space k) (λ t. clash (rw t) h) λ t.
      by-test (eqb k bracket) (λ u. clash (rw (t, u)) h) (λ u. rw (t, u)))

  gap_passed :
      (bracket : ℕ) {c d : Cursor} {ks : Chars}
      → IsGap bracket ks (characters_at s d.at)
      → Walk s c ks d
      → skip_one s bracket c ≡ d
  gap_passed bracket {c = c} (no_gap b) here = gap_left bracket c b
  gap_passed bracket (a_gap h) (step {c = c} {d = d} q here) = gap_skipped bracket c d q h

  -- the string of an import
  import_read :
      {c d : Cursor} (e f : Cursor) {g : Cursor} {ks after : Chars}
      → Walk s c (34 ∷ []) d
      → Walk s d ks e
      → Run is_quote false ks
      → next_char s e ≡ Ok (34, f)
      → IsGap 41 after (characters_at s g.at)
      → Walk s f after g
      → read_import s c ≡ Ok (Import (range d.at e.at), g)
  unfolding read_import on_result pick
  import_read e f (step q here) w r p a v = rw (q, quoted w r p, gap_passed 41 a v)

  gap_no_word : (k : ℕ) → is_gap 40 k ≡ true → can_be_in_at_directive k ≡ false
  unfolding can_be_in_at_directive pick
  gap_no_word k h =
      by-test (can_be_in_at_directive k)
      (λ t. clash h (rw (directive_no_space k t, apart can_be_in_at_directive k 40 t refl)))
      (λ t. t)

  import_word : {c d : Cursor} → Walk s c (ascii "import") d → begins can_be_in_at_directive (characters_at s d.at) ≡ false → read_at_directive s c ≡ read_import s (skip_one s 40 d)
  unfolding read_directive can_be_in_at_directive same pick
  import_word w b =
      let r : Run can_be_in_at_directive true (ascii "import") = one refl (one refl (one refl (one refl (one refl (one refl none))))) in
      directive w r b ∙ rw (word_bytes w r)

  import_opened :
      {c d : Cursor} (f g : Cursor) {before : Chars}
      → Walk s c (ascii "import") d
      → IsGap 40 before (34 ∷ [])
      → Walk s d before f
      → next_char s f ≡ Ok (34, g)
      → read_at_directive s c ≡ read_import s f
  unfolding can_be_in_at_directive is_white_space among pick
  import_opened f g w (no_gap b) here p =
      import_word w (stops_got s f g can_be_in_at_directive p refl)
      ∙ ap (read_import s) (gap_left 40 f (stops_got s f g (is_gap 40) p refl))
  import_opened f g w (a_gap {k = k} h) (step {c = d} q here) p =
      import_word w (stops_got s d f can_be_in_at_directive q (gap_no_word k h))
      ∙ ap (read_import s) (gap_skipped 40 d f q h)

  pub import_taken :
      (c d : Cursor) {f g h : Cursor} (before : Chars) {ks after : Chars}
      → next_char s c ≡ Ok (64, d)
      → Walk s d (ascii "import" ++ (before ++ (34 ∷ []))) f
      → IsGap 40 before (34 ∷ [])
      → Walk s f ks g
      → Run is_quote false ks
      → Walk s g (34 ∷ after) h
      → IsGap 41 after (characters_at s h.at)
      → Taken s c (Import (range f.at g.at)) h
  import_taken c d before q w a v r (step {c = g} {d = e} p u) b =
      let x = walk_split (ascii "import") w in
      let y = walk_past before x.1.1 in
      at_taken c d q
      (import_opened y.stop y.behind x.1.0 a y.walked y.got
      ∙ import_read g e (step y.got y.left) v r p b u)
