-- Each token that a step takes is one by the lexical grammar, and at the end only blanks are left.
use Prim.Native.Nat.{ℕ, suc}
use native.Mathlib.Omega.{arith}
use mathlib.Core.Path.{◌≡◌, refl, sym, ◌∙◌, ap, subst}
use mathlib.Core.Bool.{true, false}
use mathlib.Core.Logic.{◌⊎◌, inl, inr}
use mathlib.Core.List.{[], ◌∷◌, ◌++◌, append-nil, append_assoc}
use lib.Dec.{eqb}
use lib.ListN.{length}
use Rattle.base.proofs.Options.{split_option, split_option2, split_result2}
use Rattle.base.specs.Bytes.{Bytes}
use Rattle.base.specs.Choice.{pick_split}
use Rattle.base.specs.Turns.{Turn}
use Rattle.space.specs.Space.{is_white_space}
use Rattle.cursor.specs.Blank.{line_turn, skip_line_comment, block_turn, skip_block_comment, try_skip_comment, significant_turn, next_significant_char}
use Rattle.cursor.specs.Class.{in_span, can_start_identifier, can_continue_identifier}
use Rattle.cursor.specs.Cursor.{next_char}
use Rattle.cursor.specs.declared.Cursor.{Cursor}
use Rattle.cursor.specs.declared.Significant.{Significant}
use Rattle.cursor.specs.declared.Significant.TheVariants.{Ended, Found}
use Rattle.cursor.proofs.Reaching.{split-Comment, split-Significant, end_stays, skipped_on}
use Rattle.token.specs.Read.{range, read_after_minus, read_other, starts_number, read_long, read_single, read_pair, read_token}
use Rattle.token_kind.specs.Signs.{get_two_char_simple_token, get_one_char_simple_token}
use Rattle.token.specs.Step.{step_of}
use Rattle.token.specs.declared.Step.{Step}
use Rattle.token_kind.specs.declared.LexerError.{LexerError}
use Rattle.token.specs.declared.Step.TheVariants.{End, Took}
use Rattle.token_kind.specs.declared.Token.{Token}
use Rattle.token_kind.specs.declared.Token.TheVariants.{Identifier}
use Rattle.lexical.specs.Lexical.{
  Chars,
  is_newline,
  pairs_with,
  begins,
  Run,
  none,
  one,
  IsBlock,
  close,
  star,
  inner,
  IsBlank,
  nothing,
  space,
  line,
  last_line,
  block,
  pair,
  sign,
}
use Rattle.lexical.specs.Lexed.{characters_at, Reads, nothing, next, Lexed, Sound, SoundEnd}
use Rattle.lexical.proofs.Characters.{
  characters_done,
  Walk,
  here,
  step,
  walk_one,
  walk_on,
  walk_characters,
  walk_reads,
  reads_walk,
  stops_done,
  stops_got,
}
use Rattle.lexical.proofs.Letters.{digit_span}
use Rattle.lexical.proofs.SoundWords.{
  Goes,
  turns_go,
  left,
  left_falls,
  got_as,
  got_same,
  got_not_done,
  Readied,
  Known,
  reads_identifier,
  reads_hyphen_name,
  reads_string,
  reads_at,
}
use Rattle.lexical.proofs.SoundZoom.{bare, reads_zoom, reads_color}
use Rattle.lexical.proofs.SoundNumbers.{reads_number, reads_minus}
use Rattle.std.specs.Prelude.{Option, Some, None, Result, Ok, Err}
use Rattle.base.specs.Option.{on_option, on_result}

-- ---- what is read, place by place

reads_on : {s : Bytes} {a b c : ℕ} {ks js : Chars} → Reads s a ks b → Reads s b js c → Reads s a (ks ++ js) c
reads_on nothing v = v
reads_on (next q r) v = next q (reads_on r v)

reads_characters : (s : Bytes) (c : Cursor) {to : ℕ} {ks : Chars} → Reads s c.at ks to → characters_at s c.at ≡ ks ++ characters_at s to
reads_characters s c {ks = ks} r =
    let x = reads_walk c refl r in
    walk_characters x.1.0 ∙ ap (λ n. ks ++ characters_at s n) x.1.1

not_empty : {k : ℕ} {ks : Chars} → k ∷ ks ≡ [] → ⊥
not_empty e = let h = ap length e in omega arith

-- ---- comments

-- to the newline, or into the end
record Lined (s : Bytes) (c e : Cursor) : Type 0 where
  pub chars : Chars
  pub last : Cursor
  pub walk : Walk s c chars last
  pub run : Run is_newline false chars
  pub ends : (next_char s last ≡ Ok (10, e)) ⊎ (next_char s last ≡ Err e)

line_turn_lem : (s : Bytes) (c : Cursor) → Goes (Lined s) (left s) c (line_turn s c)
line_turn_lem s c =
    let P : Turn Cursor Cursor → Type 0 = Goes (Lined s) (left s) c in
    split_result2 P (next_char s c) _ _ (λ d q. record { chars = []; last = c; walk = here; run = none; ends = inr q }) λ k d q.
    pick_split P (eqb k 10) _ _
    (λ t. record { chars = []; last = c; walk = here; run = none; ends = inl (got_as 10 q t) })
    (λ t. (
      left_falls s c d k q,
      λ e r. record { chars = k ∷ r.chars; last = r.last; walk = step q r.walk; run = one t r.run; ends = r.ends },
    ))

lined : (s : Bytes) (c : Cursor) → Lined s c (skip_line_comment s c)
unfolding skip_line_comment
lined s c = turns_go (Lined s) (left s) (line_turn s) c (line_turn_lem s) (suc (length s)) c (omega arith)

record Blocked (s : Bytes) (c e : Cursor) : Type 0 where
  pub chars : Chars
  pub walk : Walk s c chars e
  pub is : IsBlock chars

abbrev Block : Bytes → Cursor → Result Cursor Cursor → Type 0
Block s c (Err e) = Unit {0}
Block s c (Ok e) = Blocked s c e

block_inner : (s : Bytes) (c d : Cursor) (k : ℕ) → next_char s c ≡ Ok (k, d) → eqb k 42 ≡ false → (x : Result Cursor Cursor) → Block s d x → Block s c x
block_inner s c d k q t (Err e) h = tt
block_inner s c d k q t (Ok e) h = record { chars = k ∷ h.chars; walk = step q h.walk; is = inner t h.is }

block_long : IsBlock [] → ⊥
block_long = elim [ ]

block_star :
    (s : Bytes) (c d f : Cursor) (j : ℕ)
    → next_char s c ≡ Ok (42, d)
    → next_char s d ≡ Ok (j, f)
    → eqb j 47 ≡ false
    → (x : Result Cursor Cursor) → Block s d x
    → Block s c x
block_star s c d f j q m u (Err e) h = tt
block_star s c d f j q m u (Ok e) h = go h.chars h.walk h.is
  where
    go : (ks : Chars) → Walk s d ks e → IsBlock ks → Blocked s c e
    go [] w b = absurd (block_long b)
    go (k ∷ ks) (step p w) b =
        record { chars = 42 ∷ k ∷ ks; walk = step q (step p w); is = star (ap (λ n. eqb n 47) (got_same p m).0 ∙ u) b }

block_open : (s : Bytes) (c d f : Cursor) → next_char s d ≡ Err f → (x : Result Cursor Cursor) → Block s d x → Block s c x
block_open s c d f m (Err e) h = tt
block_open s c d f m (Ok e) h = go h.chars h.walk h.is
  where
    go : (ks : Chars) → Walk s d ks e → IsBlock ks → Blocked s c e
    go [] w b = absurd (block_long b)
    go (k ∷ ks) (step p w) b = absurd (got_not_done p m)

block_turn_lem : (s : Bytes) (c : Cursor) → Goes (Block s) (left s) c (block_turn s c)
block_turn_lem s c =
    let P : Turn Cursor (Result Cursor Cursor) → Type 0 = Goes (Block s) (left s) c in
    split_result2 P (next_char s c) _ _ (λ d q. tt) λ k d q.
    pick_split P (eqb k 42) _ _
    (λ t.
    split_result2 P (next_char s d) _ _ (λ f m. (left_falls s c d k q, block_open s c d f m)) λ j f m.
    pick_split P (eqb j 47) _ _
    (λ u. record { chars = 42 ∷ 47 ∷ []; walk = step (got_as 42 q t) (walk_one (got_as 47 m u)); is = close })
    (λ u. (left_falls s c d k q, block_star s c d f j (got_as 42 q t) m u)))
    (λ t. (left_falls s c d k q, block_inner s c d k q t))

blocked : (s : Bytes) (c : Cursor) → Block s c (skip_block_comment s c)
unfolding skip_block_comment
blocked s c = turns_go (Block s) (left s) (block_turn s) (Err c) (block_turn_lem s) (suc (length s)) c (omega arith)

-- ---- blanks

-- characters that may stand before what else is blank
record Skipping (s : Bytes) (c e : Cursor) : Type 0 where
  pub chars : Chars
  pub reads : Reads s c.at chars e.at
  pub before : (ks rest : Chars) → characters_at s e.at ≡ ks ++ rest → IsBlank ks rest → IsBlank (chars ++ ks) rest

space_skips : (s : Bytes) (c d : Cursor) (k : ℕ) → next_char s c ≡ Ok (k, d) → is_white_space k ≡ true → Skipping s c d
space_skips s c d k q t =
    record { chars = k ∷ []; reads = walk_reads (walk_one q); before = λ ks rest e b. space t b }

last_line_lem : (xs : Chars) → Run is_newline false xs → (ks rest : Chars) → ks ++ rest ≡ [] → IsBlank (47 ∷ 47 ∷ xs ++ ks) rest
last_line_lem xs r [] [] e = subst (λ js. IsBlank (47 ∷ 47 ∷ js) []) (sym (append-nil xs)) (last_line r)
last_line_lem xs r [] (j ∷ js) e = absurd (not_empty e)
last_line_lem xs r (k ∷ ks) rest e = absurd (not_empty e)

line_skips :
    (s : Bytes) (c d e f : Cursor)
    → next_char s c ≡ Ok (47, d)
    → next_char s d ≡ Ok (47, e)
    → Lined s e f
    → Skipping s c f
line_skips s c d e f q m h = go h.ends
  where
    go : (next_char s h.last ≡ Ok (10, f)) ⊎ (next_char s h.last ≡ Err f) → Skipping s c f
    go (inl n) =
        record {
          chars = 47 ∷ 47 ∷ h.chars ++ (10 ∷ []);
          reads = walk_reads (step q (step m (walk_on h.walk (walk_one n))));
          before = λ ks rest e b.
              subst (λ js. IsBlank (47 ∷ 47 ∷ js) rest) (sym (append_assoc h.chars (10 ∷ []) ks)) (line h.run b);
        }
    go (inr n) =
        let e : f.at ≡ h.last.at = end_stays s h.last f n in
        record {
          chars = 47 ∷ 47 ∷ h.chars;
          reads = subst (Reads s c.at (47 ∷ 47 ∷ h.chars)) (sym e) (walk_reads (step q (step m h.walk)));
          before = λ ks rest g b. last_line_lem h.chars h.run ks rest (sym g ∙ (ap (characters_at s) e ∙ characters_done s h.last f n));
        }

block_skips :
    (s : Bytes) (c d e f : Cursor)
    → next_char s c ≡ Ok (47, d)
    → next_char s d ≡ Ok (42, e)
    → Blocked s e f
    → Skipping s c f
block_skips s c d e f q m h =
    record {
      chars = 47 ∷ 42 ∷ h.chars;
      reads = walk_reads (step q (step m h.walk));
      before = λ ks rest g b. block h.is b;
    }

abbrev CommentSkips : Bytes → Cursor → Result (Option Cursor) Cursor → Type 0
CommentSkips s c (Err e) = Unit {0}
CommentSkips s c (Ok None) = Unit {0}
CommentSkips s c (Ok (Some e)) = Skipping s c e

blocked_skips :
    (s : Bytes) (c d e : Cursor)
    → next_char s c ≡ Ok (47, d)
    → next_char s d ≡ Ok (42, e)
    → (x : Result Cursor Cursor) → Block s e x
    → CommentSkips s c (on_result x Err λ f. Ok (Some f))
unfolding on_result
blocked_skips s c d e q m (Err f) h = tt
blocked_skips s c d e q m (Ok f) h = block_skips s c d e f q m h

comment_skips : (s : Bytes) (c d : Cursor) → next_char s c ≡ Ok (47, d) → CommentSkips s c (try_skip_comment s d)
unfolding try_skip_comment
comment_skips s c d q =
    split_result2 (CommentSkips s c) (next_char s d) _ _ (λ e m. tt) λ k e m.
    pick_split (CommentSkips s c) (eqb k 47) _ _ (λ t. line_skips s c d e (skip_line_comment s e) q (got_as 47 m t) (lined s e)) λ t.
    pick_split (CommentSkips s c) (eqb k 42) _ _
    (λ u. blocked_skips s c d e q (got_as 42 m u) (skip_block_comment s e) (blocked s e))
    (λ u. tt)

-- blanks, and the character behind them
record Begun (s : Bytes) (c : Cursor) (at k : ℕ) (d : Cursor) : Type 0 where
  pub blanks : Chars
  pub place : Cursor
  pub skipped : Reads s c.at blanks place.at
  pub is_blank : IsBlank blanks (characters_at s place.at)
  pub is : at ≡ place.at
  pub char : next_char s place ≡ Ok (k, d)

abbrev Blanks : Bytes → Cursor → Result Significant Cursor → Type 0
Blanks s c (Err d) = Unit {0}
Blanks s c (Ok (Ended d)) = IsBlank (characters_at s c.at) []
Blanks s c (Ok (Found at k d)) = Begun s c at k d

blanks_before : (s : Bytes) (c e : Cursor) → Skipping s c e → (x : Result Significant Cursor) → Blanks s e x → Blanks s c x
blanks_before s c e h (Err d) b = tt
blanks_before s c e h (Ok (Ended d)) b =
    subst (λ ks. IsBlank ks []) (sym (reads_characters s c h.reads))
    (h.before (characters_at s e.at) [] (sym (append-nil (characters_at s e.at))) b)
blanks_before s c e h (Ok (Found at k d)) b =
    record {
      blanks = h.chars ++ b.blanks;
      place = b.place;
      skipped = reads_on h.reads b.skipped;
      is_blank = h.before b.blanks (characters_at s b.place.at) (reads_characters s e b.skipped) b.is_blank;
      is = b.is;
      char = b.char;
    }

significant_turn_lem : (s : Bytes) (c : Cursor) → Goes (Blanks s) (left s) c (significant_turn s c)
significant_turn_lem s c =
    let P : Turn Cursor (Result Significant Cursor) → Type 0 = Goes (Blanks s) (left s) c in
    split_result2 P (next_char s c) _ _ (λ d q. subst (λ ks. IsBlank ks []) (sym (characters_done s c d q)) nothing) λ k d q.
    let b : Begun s c c.at k d = record { blanks = []; place = c; skipped = nothing; is_blank = nothing; is = refl; char = q } in
    pick_split P (is_white_space k) _ _ (λ t. (left_falls s c d k q, blanks_before s c d (space_skips s c d k q t))) λ t.
    pick_split P (eqb k 47) _ _
    (λ u.
    split-Comment P (try_skip_comment s d) _ _ _ (λ e m. tt) (λ m. b) λ e m. (
      skipped_on s c d e k (Ok (k, d)) (Ok (Some e)) (sym q) refl (sym m) refl,
      blanks_before s c e (subst (CommentSkips s c) m (comment_skips s c d (got_as 47 q u))),
    ))
    (λ u. b)

blanks_skipped : (s : Bytes) (c : Cursor) → Blanks s c (next_significant_char s c)
unfolding next_significant_char
blanks_skipped s c = turns_go (Blanks s) (left s) (significant_turn s) (Ok (Ended c)) (significant_turn_lem s) (suc (length s)) c (omega arith)

-- ---- tokens

reads_after_minus : (s : Bytes) (b c : Cursor) → next_char s b ≡ Ok (45, c) → Known s b (read_after_minus s b.at c)
unfolding read_after_minus
reads_after_minus s b c q =
    split_result2 (Known s b) (next_char s c) _ _ (λ d m. tt) λ k d m.
    pick_split (Known s b) (in_span 48 57 k) _ _ (λ t. reads_minus s b c d k q m (sym (digit_span k) ∙ t)) λ t.
    pick_split (Known s b) (can_continue_identifier k) _ _
    (λ u. reads_hyphen_name s b c d k q m u (sym (digit_span k) ∙ t))
    (λ u. tt)

reads_other : (s : Bytes) (b c : Cursor) (k : ℕ) → next_char s b ≡ Ok (k, c) → Known s b (read_other s b.at k c)
unfolding read_other
reads_other s b c k q =
    pick_split (Known s b) (eqb k 45) _ _ (λ t. reads_after_minus s b c (got_as 45 q t)) λ t.
    pick_split (Known s b) (eqb k 124) _ _ (λ u. reads_zoom s b c (got_as 124 q u)) λ u.
    pick_split (Known s b) (eqb k 35) _ _ (λ v. reads_color s b c (got_as 35 q v)) (λ v. tt)

reads_star : (s : Bytes) (b c : Cursor) → next_char s b ≡ Ok (42, c) → Known s b (Ok (Identifier (range b.at c.at), c))
reads_star s b c q =
    record {
      before = [];
      name = 42 ∷ [];
      after = [];
      word = λ r. Identifier r;
      from = b;
      end = c;
      is_token = star;
      opened = here;
      named = walk_one q;
      closed = here;
      is = refl;
    }

reads_long : (s : Bytes) (b c : Cursor) (k : ℕ) → next_char s b ≡ Ok (k, c) → Known s b (read_long s b.at k c)
unfolding read_long
reads_long s b c k q =
    pick_split (Known s b) (eqb k 64) _ _ (λ t. reads_at s b c (got_as 64 q t)) λ t.
    pick_split (Known s b) (eqb k 42) _ _ (λ u. reads_star s b c (got_as 42 q u)) λ u.
    pick_split (Known s b) (can_start_identifier k) _ _ (λ v. reads_identifier s b c k q v) λ v.
    pick_split (Known s b) (eqb k 34) _ _ (λ w. reads_string s b c (got_as 34 q w)) λ w.
    pick_split (Known s b) (starts_number k) _ _ (λ x. reads_number s b c k q x) (λ x. reads_other s b c k q)

reads_single :
    (s : Bytes) (b c : Cursor) (k : ℕ)
    → next_char s b ≡ Ok (k, c)
    → begins (pairs_with k) (characters_at s c.at) ≡ false
    → Known s b (read_single s b.at k c)
unfolding read_single
reads_single s b c k q n =
    split_option (Known s b) (get_one_char_simple_token k) _ _ (λ m. reads_long s b c k q) λ t m. bare (sign m n) (walk_one q)

abbrev Paired : Bytes → Cursor → ℕ → Cursor → Option (Token × Cursor) → Type 0
Paired s b k c None = begins (pairs_with k) (characters_at s c.at) ≡ false
Paired s b k c (Some (t, d)) = Readied s b t d

reads_pair : (s : Bytes) (b c : Cursor) (k : ℕ) → next_char s b ≡ Ok (k, c) → Paired s b k c (read_pair s k c)
unfolding read_pair on_option
reads_pair s b c k q =
    let P : Option (Token × Cursor) → Type 0 = Paired s b k c in
    split_result2 P (next_char s c) _ _ (λ d m. stops_done s c d (pairs_with k) m) λ j d m.
    split_option P (get_two_char_simple_token k j) _ _
    (λ n. stops_got s c d (pairs_with k) m (ap (λ x. on_option x false λ t. true) n))
    (λ t n. bare (pair n) (step q (walk_one m)))

reads_token : (s : Bytes) (b c : Cursor) (k : ℕ) → next_char s b ≡ Ok (k, c) → Known s b (read_token s b.at k c)
unfolding read_token
reads_token s b c k q =
    split_option2 (Known s b) (read_pair s k c) _ _
    (λ m. reads_single s b c k q (subst (Paired s b k c) m (reads_pair s b c k q)))
    (λ t d m. subst (Paired s b k c) m (reads_pair s b c k q))

-- ---- steps

abbrev Steps : Bytes → Cursor → Result Step LexerError → Type 0
Steps s c (Err e) = Unit {0}
Steps s c (Ok (End d)) = IsBlank (characters_at s c.at) []
Steps s c (Ok (Took t l n d)) = Lexed s c.at t d.at

-- blanks and then a token
lexed :
    (s : Bytes) (c d e : Cursor) (at k : ℕ) (t : Token) (b : Begun s c at k d)
    → Readied s b.place t e
    → Lexed s c.at t e.at
lexed s c d e at k t b r =
    let i =
    walk_characters r.opened
    ∙ ap (λ ks. r.before ++ ks) (walk_characters r.named ∙ ap (λ ks. r.name ++ ks) (walk_characters r.closed))
    in
    record {
      blanks = b.blanks;
      before = r.before;
      name = r.name;
      after = r.after;
      word = r.word;
      place = b.place.at;
      from = r.from.at;
      end = r.end.at;
      is_blank = subst (IsBlank b.blanks) i b.is_blank;
      is_token = r.is_token;
      skipped = b.skipped;
      opened = walk_reads r.opened;
      named = walk_reads r.named;
      closed = walk_reads r.closed;
      is = r.is;
    }

steps : (s : Bytes) (c : Cursor) → Steps s c (step_of s c)
unfolding step_of
steps s c =
    split-Significant (Steps s c) (next_significant_char s c) _ _ _ (λ d q. tt)
    (λ d q. subst (Blanks s c) q (blanks_skipped s c))
    λ at k d q.
    let b = subst (Blanks s c) q (blanks_skipped s c) in
    let w = subst (λ n. Known s b.place (read_token s n k d)) (sym b.is) (reads_token s b.place d k b.char) in
    split_result2 (Steps s c) (read_token s at k d) _ _ (λ e m. tt) λ t e m.
    lexed s c d e at k t b (subst (Known s b.place) m w)

pub sound : Sound
sound s c d t l n q = subst (Steps s c) q (steps s c)

pub sound_end : SoundEnd
sound_end s c d q = subst (Steps s c) q (steps s c)
