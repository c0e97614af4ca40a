-- What a loop over characters reads, and the readers of single tokens: each token that is read is one by the lexical grammar.
use Prim.Native.Nat.{ℕ, zero, suc, ◌-◌, ◌<◌}
use native.Mathlib.Omega.{arith}
use mathlib.Core.Path.{◌≡◌, refl, sym, ◌∙◌, ap, subst}
use mathlib.Core.Bool.{Bool, true, false}
use mathlib.Core.List.{[], ◌∷◌, ◌++◌}
use lib.Dec.{eqb}
use lib.ListN.{length}
use borrow.Author.Tests.{eqb-true}
use Rattle.base.proofs.Options.{ok2_first, ok2_second, split_result2}
use Rattle.base.specs.Bytes.{Bytes, ascii, same, within}
use Rattle.base.specs.Choice.{pick, pick_split, clash}
use Rattle.base.specs.Turns.{Turn, more, done, after, turns}
use Rattle.base.specs.declared.Range.{Range}
use Rattle.base.proofs.Compare.{same_true}
use Rattle.space.specs.Space.{among, is_white_space}
use Rattle.cursor.specs.Class.{can_be_in_at_directive, can_start_identifier, can_continue_identifier}
use Rattle.cursor.specs.Cursor.{next_char}
use Rattle.cursor.specs.declared.Cursor.{Cursor}
use Rattle.cursor.proofs.Onward.{read, read_within}
use Rattle.token.specs.Read.{
  range,
  identifier_end,
  read_identifier,
  quoted_turn,
  read_quoted,
  read_string,
  skip_one,
  read_import,
  read_directive,
  at_directive_end,
  read_at_directive,
}
use Rattle.token_kind.specs.Reason.{Reading, open_string, lexer_error}
use Rattle.token_kind.specs.declared.LexerError.{LexerError}
use Rattle.token_kind.specs.declared.Token.{Token}
use Rattle.token_kind.specs.declared.Token.TheVariants.{Import, Identifier, Text, ColorRef}
use Rattle.lexical.specs.Lexical.{
  Chars,
  begins,
  is_digit,
  is_quote,
  is_gap,
  Run,
  none,
  one,
  IsGap,
  no_gap,
  a_gap,
  IsToken,
  name,
  hyphen_name,
  string,
  reference,
  import,
}
use Rattle.lexical.specs.Lexed.{characters_at}
use Rattle.lexical.proofs.Characters.{characters_got, Walk, here, step, walk_one, walk_on, stops_done, stops_got}
use Rattle.lexical.proofs.Letters.{word_bytes}
use Rattle.std.specs.Prelude.{Result, Ok, Err}
use Rattle.base.specs.Option.{on_result2}

-- ---- loops, from their last turn back to the first

-- a turn that goes on falls, and what then holds of the answer holds from here on too
abbrev pub Goes : {S R : Type 0} → (S → R → Type 0) → (S → ℕ) → S → Turn S R → Type 0
Goes Q μ x (more y) = (μ y < μ x) × ((r : _) → Q y r → Q x r)
Goes Q μ x (done r) = Q x r

module _ {S R : Type 0} (Q : S → R → Type 0) (μ : S → ℕ) (f : S → Turn S R) (d : R) (turn : (x : S) → Goes Q μ x (f x)) where
  goes_after : (x : S) (rest : S → R) → ((y : S) → μ y < μ x → Q y (rest y)) → (t : Turn S R) → Goes Q μ x t → Q x (after t rest)
  goes_after x rest h (more y) p = p.1 (rest y) (h y p.0)
  goes_after x rest h (done r) p = p

  pub turns_go : (n : ℕ) (x : S) → μ x < n → Q x (turns f d n x)
  unfolding turns
  turns_go zero x l = absurd (omega arith)
  turns_go (suc n) x l = goes_after x (turns f d n) (λ y m. turns_go n y (omega arith)) (f x) (turn x)

-- how much is left to read
abbrev pub left : Bytes → Cursor → ℕ
left s c = length s - c.at

pub left_falls : (s : Bytes) (c d : Cursor) (k : ℕ) → next_char s c ≡ Ok (k, d) → left s d < left s c
left_falls s c d k q = let h = read_within s c d k (read s c d k q) in omega arith

-- a character that is this one
pub got_as : {n : Result (ℕ × Cursor) Cursor} {d : Cursor} {k : ℕ} (j : ℕ) → n ≡ Ok (k, d) → eqb k j ≡ true → n ≡ Ok (j, d)
got_as {d = d} {k = k} j q t = q ∙ ap (λ n. Ok (n, d)) (eqb-true k j t)

-- a cursor has one next character
pub got_same : {n : Result (ℕ × Cursor) Cursor} {d e : Cursor} {k j : ℕ} → n ≡ Ok (j, e) → n ≡ Ok (k, d) → (j ≡ k) × (e ≡ d)
got_same p q = let r = sym p ∙ q in (ok2_first r, ok2_second r)

pub got_not_done : {n : Result (ℕ × Cursor) Cursor} {d e : Cursor} {k : ℕ} → n ≡ Ok (k, d) → n ≡ Err e → ⊥
got_not_done p q = let r = sym p ∙ q in cc

-- ---- runs of characters

-- from cursor to cursor characters of a class, as many as there are
pub record Running (s : Bytes) (p : ℕ → Bool) (c d : Cursor) : Type 0 where
  pub chars : Chars
  pub walk : Walk s c chars d
  pub run : Run p true chars
  pub stops : begins p (characters_at s d.at) ≡ false

module _ (s : Bytes) (p : ℕ → Bool) where
  abbrev word_turn : Cursor → Turn Cursor Cursor
  word_turn c = on_result2 (next_char s c) (λ e. done c) λ k d. pick (p k) (more d) (done c)

  word_turn_lem : (c : Cursor) → Goes (Running s p) (left s) c (word_turn c)
  word_turn_lem c =
      let P : Turn Cursor Cursor → Type 0 = Goes (Running s p) (left s) c in
      split_result2 P (next_char s c) _ _ (λ d q. record { chars = []; walk = here; run = none; stops = stops_done s c d p q }) λ k d q.
      pick_split P (p k) _ _
      (λ t. (
        left_falls s c d k q,
        λ e r. record { chars = k ∷ r.chars; walk = step q r.walk; run = one t r.run; stops = r.stops },
      ))
      (λ t. record { chars = []; walk = here; run = none; stops = stops_got s c d p q t })

  word_run : (c : Cursor) → Running s p c (turns word_turn c (suc (length s)) c)
  word_run c = turns_go (Running s p) (left s) word_turn c word_turn_lem (suc (length s)) c (omega arith)

identifier_run : (s : Bytes) (c : Cursor) → Running s can_continue_identifier c (identifier_end s c)
unfolding identifier_end
identifier_run s c = word_run s can_continue_identifier c

directive_run : (s : Bytes) (c : Cursor) → Running s can_be_in_at_directive c (at_directive_end s c)
unfolding at_directive_end
directive_run s c = word_run s can_be_in_at_directive c

-- ---- what a reader answers, of a token that begins at a cursor

pub record Readied (s : Bytes) (b : Cursor) (t : Token) (d : Cursor) : Type 0 where
  pub before : Chars
  pub name : Chars
  pub after : Chars
  pub word : Range → Token
  pub from : Cursor
  pub end : Cursor
  pub is_token : IsToken before name after (characters_at s d.at) word
  pub opened : Walk s b before from
  pub named : Walk s from name end
  pub closed : Walk s end after d
  pub is : t ≡ word (range from.at end.at)

abbrev pub Known : Bytes → Cursor → Reading → Type 0
Known s b (Err e) = Unit {0}
Known s b (Ok (t, d)) = Readied s b t d

-- ---- identifiers

pub reads_identifier :
    (s : Bytes) (b c : Cursor) (k : ℕ)
    → next_char s b ≡ Ok (k, c)
    → can_start_identifier k ≡ true
    → Known s b (read_identifier s b.at c)
unfolding read_identifier
reads_identifier s b c k q t =
    let r = identifier_run s c in
    record {
      before = [];
      name = k ∷ r.chars;
      after = [];
      word = λ r. Identifier r;
      from = b;
      end = identifier_end s c;
      is_token = name t r.run r.stops;
      opened = here;
      named = step q r.walk;
      closed = here;
      is = refl;
    }

-- a run that begins with a character of the class is not empty
first_of :
    (s : Bytes) (p : ℕ → Bool) (c d e : Cursor) (k : ℕ)
    → next_char s c ≡ Ok (k, d)
    → p k ≡ true
    → (ks : Chars) → Walk s c ks e → Run p true ks
    → begins p (characters_at s e.at) ≡ false
    → (js : Chars) × ((ks ≡ k ∷ js) × (Walk s d js e × Run p true js))
first_of s p c d e k q t [] here r n = clash t (sym (ap (begins p) (characters_got s c d q)) ∙ n)
first_of s p c d e k q t (j ∷ js) (step {d = d'} q' w) (one u r) n =
    (js, (ap (λ x. x ∷ js) (got_same q' q).0, (subst (λ x. Walk s x js e) (got_same q' q).1 w, r)))

pub reads_hyphen_name :
    (s : Bytes) (b c d : Cursor) (k : ℕ)
    → next_char s b ≡ Ok (45, c)
    → next_char s c ≡ Ok (k, d)
    → can_continue_identifier k ≡ true
    → is_digit k ≡ false
    → Known s b (read_identifier s b.at c)
unfolding read_identifier
reads_hyphen_name s b c d k q m t u =
    let r = identifier_run s c in
    let x = first_of s can_continue_identifier c d (identifier_end s c) k m t r.chars r.walk r.run r.stops in
    record {
      before = [];
      name = 45 ∷ k ∷ x.0;
      after = [];
      word = λ r. Identifier r;
      from = b;
      end = identifier_end s c;
      is_token = hyphen_name t u x.1.1.1 r.stops;
      opened = here;
      named = step q (step m x.1.1.0);
      closed = here;
      is = refl;
    }

-- ---- strings

-- a string's range, and its characters
pub record Quotation (s : Bytes) (c : Cursor) (from : ℕ) (r : Range) (d : Cursor) : Type 0 where
  pub chars : Chars
  pub quote : Cursor
  pub walk : Walk s c chars quote
  pub run : Run is_quote false chars
  pub closed : next_char s quote ≡ Ok (34, d)
  pub is : r ≡ range from quote.at

abbrev pub Quotes : Bytes → ℕ → Cursor → Result (Range × Cursor) LexerError → Type 0
Quotes s from c (Err d) = Unit {0}
Quotes s from c (Ok (r, d)) = Quotation s c from r d

quoted_before :
    (s : Bytes) (from : ℕ) (c d : Cursor) (k : ℕ)
    → next_char s c ≡ Ok (k, d)
    → is_quote k ≡ false
    → (x : Result (Range × Cursor) LexerError) → Quotes s from d x
    → Quotes s from c x
quoted_before s from c d k q t (Err e) h = tt
quoted_before s from c d k q t (Ok (r, e)) h =
    record { chars = k ∷ h.chars; quote = h.quote; walk = step q h.walk; run = one t h.run; closed = h.closed; is = h.is }

quoted_turn_lem : (s : Bytes) (from : ℕ) (c : Cursor) → Goes (Quotes s from) (left s) c (quoted_turn s from c)
quoted_turn_lem s from c =
    let P : Turn Cursor (Result (Range × Cursor) LexerError) → Type 0 = Goes (Quotes s from) (left s) c in
    split_result2 P (next_char s c) _ _ (λ d q. tt) λ k d q.
    pick_split P (eqb k 34) _ _
    (λ t. record { chars = []; quote = c; walk = here; run = none; closed = got_as 34 q t; is = refl })
    (λ t. (left_falls s c d k q, quoted_before s from c d k q t))

pub quoted : (s : Bytes) (c : Cursor) → Quotes s c.at c (read_quoted s c)
unfolding read_quoted
quoted s c = turns_go (Quotes s c.at) (left s) (quoted_turn s c.at) (Err (lexer_error open_string c)) (quoted_turn_lem s c.at) (suc (length s)) c (omega arith)

pub reads_string : (s : Bytes) (b c : Cursor) → next_char s b ≡ Ok (34, c) → Known s b (read_string s c)
unfolding read_string
reads_string s b c q =
    split_result2 (Known s b) (read_quoted s c) _ _ (λ d m. tt) λ r d m.
    let x = subst (Quotes s c.at c) m (quoted s c) in
    record {
      before = 34 ∷ [];
      name = x.chars;
      after = 34 ∷ [];
      word = λ r. Text r;
      from = c;
      end = x.quote;
      is_token = string x.run;
      opened = walk_one q;
      named = x.walk;
      closed = walk_one x.closed;
      is = ap (λ r. Text r) x.is;
    }

-- ---- directives

record Gapped (s : Bytes) (bracket : ℕ) (c d : Cursor) : Type 0 where
  pub chars : Chars
  pub walk : Walk s c chars d
  pub is : IsGap bracket chars (characters_at s d.at)

gap_char :
    (s : Bytes) (bracket : ℕ) (c d : Cursor) (k : ℕ)
    → next_char s c ≡ Ok (k, d)
    → is_gap bracket k ≡ true
    → Gapped s bracket c d
gap_char s bracket c d k q t = record { chars = k ∷ []; walk = walk_one q; is = a_gap t }

gap_none : (s : Bytes) (bracket : ℕ) (c : Cursor) → begins (is_gap bracket) (characters_at s c.at) ≡ false → Gapped s bracket c c
gap_none s bracket c n = record { chars = []; walk = here; is = no_gap n }

gapped : (s : Bytes) (bracket : ℕ) (c : Cursor) → Gapped s bracket c (skip_one s bracket c)
unfolding skip_one pick
gapped s bracket c =
    let P : Cursor → Type 0 = Gapped s bracket c in
    split_result2 P (next_char s c) _ _ (λ d q. gap_none s bracket c (stops_done s c d (is_gap bracket) q)) λ k d q.
    let e : (b : Bool) → is_white_space k ≡ b → is_gap bracket k ≡ pick b true (eqb k bracket) = λ b t. ap (λ b. pick b true (eqb k bracket)) t in
    pick_split P (is_white_space k) _ _ (λ t. gap_char s bracket c d k q (e true t)) λ t.
    pick_split P (eqb k bracket) _ _
    (λ u. gap_char s bracket c d k q (e false t ∙ u))
    (λ u. gap_none s bracket c (stops_got s c d (is_gap bracket) q (e false t ∙ u)))

-- a quote is no gap
gap_quote : {ks rest : Chars} → IsGap 40 ks rest → IsGap 40 ks (34 ∷ [])
unfolding is_white_space among pick
gap_quote (no_gap n) = no_gap refl
gap_quote (a_gap t) = a_gap t

reads_import :
    (s : Bytes) (b e : Cursor)
    → Walk s b (64 ∷ ascii "import") e
    → Known s b (read_import s (skip_one s 40 e))
unfolding read_import
reads_import s b e o =
    let g = gapped s 40 e in
    let f = skip_one s 40 e in
    split_result2 (Known s b) (next_char s f) _ _ (λ d q. tt) λ k d q.
    pick_split (Known s b) (eqb k 34) _ _
    (λ t.
    split_result2 (Known s b) (read_quoted s d) _ _ (λ h m. tt) λ r h m.
    let x = subst (Quotes s d.at d) m (quoted s d) in
    let a = gapped s 41 h in
    record {
      before = 64 ∷ ascii "import" ++ (g.chars ++ (34 ∷ []));
      name = x.chars;
      after = 34 ∷ a.chars;
      word = λ r. Import r;
      from = d;
      end = x.quote;
      is_token = import (gap_quote g.is) x.run a.is;
      opened = walk_on o (walk_on g.walk (walk_one (got_as 34 q t)));
      named = x.walk;
      closed = step x.closed a.walk;
      is = ap (λ r. Import r) x.is;
    })
    (λ t. tt)

reads_directive :
    (s : Bytes) (b c e : Cursor) (k : ℕ) (ks : Chars)
    → next_char s b ≡ Ok (64, c)
    → Walk s c (k ∷ ks) e
    → Run can_be_in_at_directive true (k ∷ ks)
    → begins can_be_in_at_directive (characters_at s e.at) ≡ false
    → Known s b (read_directive s c.at e)
unfolding read_directive
reads_directive s b c e k ks q w r n =
    let i : within (range c.at e.at) s ≡ k ∷ ks = word_bytes w r in
    pick_split (Known s b) (same (within (range c.at e.at) s) (ascii "import")) _ _
    (λ t.
    let j : k ∷ ks ≡ ascii "import" = sym i ∙ same_true (within (range c.at e.at) s) (ascii "import") t in
    reads_import s b e (step q (subst (λ js. Walk s c js e) j w)))
    (λ t.
    record {
      before = 64 ∷ [];
      name = k ∷ ks;
      after = [];
      word = λ r. ColorRef r;
      from = c;
      end = e;
      is_token = reference r n (sym (ap (λ js. same js (ascii "import")) i) ∙ t);
      opened = walk_one q;
      named = w;
      closed = here;
      is = refl;
    })

pub reads_at : (s : Bytes) (b c : Cursor) → next_char s b ≡ Ok (64, c) → Known s b (read_at_directive s c)
unfolding read_at_directive
reads_at s b c q =
    split_result2 (Known s b) (next_char s c) _ _ (λ d m. tt) λ k d m.
    pick_split (Known s b) (can_be_in_at_directive k) _ _
    (λ t.
    let r = directive_run s d in
    reads_directive s b c (at_directive_end s d) k r.chars q (step m r.walk) (one t r.run) r.stops)
    (λ t. tt)
