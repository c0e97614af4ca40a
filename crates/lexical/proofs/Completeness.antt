-- Wherever the lexical grammar has a token behind blanks, a step takes it; where only blanks are left, it is at the end.
use Prim.Native.Nat.{ℕ, zero, suc, ◌<◌}
use native.Mathlib.Omega.{arith}
use mathlib.Core.Path.{◌≡◌, refl, sym, ◌∙◌, ap, subst}
use mathlib.Core.Bool.{true, false}
use mathlib.Core.List.{[], ◌∷◌, ◌++◌}
use lib.Dec.{eqb}
use lib.ListN.{length, length-append}
use Rattle.base.specs.Bytes.{Bytes}
use Rattle.base.specs.Choice.{pick, different}
use Rattle.base.specs.declared.Range.{Range}
use Rattle.base.specs.Turns.{turns}
use Rattle.space.specs.Space.{among, is_white_space}
use Rattle.utf8.specs.Utf8.{char_at}
use Rattle.utf8.specs.declared.Char.TheVariants.{Code}
use Rattle.cursor.specs.Cursor.{cursor, passed, next_char}
use Rattle.cursor.specs.Elim.{on-Significant}
use Rattle.cursor.specs.Blank.{
  line_turn,
  skip_line_comment,
  block_turn,
  skip_block_comment,
  try_skip_comment,
  significant_turn,
  next_significant_char,
}
use Rattle.cursor.specs.declared.Cursor.{Cursor}
use Rattle.cursor.specs.declared.Significant.{Significant}
use Rattle.cursor.specs.declared.Significant.TheVariants.{Ended, Found}
use Rattle.cursor.proofs.Onward.{read, missed}
use Rattle.token.specs.Read.{range}
use Rattle.token.specs.Step.{step_of}
use Rattle.token.specs.declared.Step.TheVariants.{Took}
use Rattle.token_kind.specs.declared.Token.{Token}
use Rattle.lexical.specs.Lexical.{
  Chars,
  is_newline,
  Run,
  none,
  one,
  IsBlock,
  close,
  star,
  inner,
  IsBlank,
  nothing,
  space,
  line,
  last_line,
  block,
  IsToken,
  pair,
  sign,
  name,
  hyphen_name,
  string,
  number,
  plus,
  minus,
  zoom_range,
  six_digits,
  three_digits,
  reference,
  import,
}
use Rattle.lexical.specs.Lexed.{characters_at, Lexed, Complete, OneToken, CompleteEnd}
use Rattle.lexical.proofs.Characters.{
  characters_got,
  characters_done,
  Walk,
  here,
  step,
  walk_characters,
  reads_walk,
  walk_split,
  walk_past,
  walk_short,
}
use Rattle.lexical.proofs.CompleteWords.{
  Taken,
  star_taken,
  name_taken,
  hyphen_taken,
  string_taken,
  pair_taken,
  sign_taken,
  reference_taken,
  import_taken,
}
use Rattle.lexical.proofs.CompleteNumbers.{number_taken, plus_taken, minus_taken}
use Rattle.lexical.proofs.CompleteZoom.{zoom_taken, three_taken, six_taken}
use Rattle.base.specs.Option.{on_option, on_result}
use Rattle.std.specs.Prelude.{Some, Result, Ok, Err}
use Rattle.token.specs.declared.Step.{Step}
use Rattle.token_kind.specs.declared.LexerError.{LexerError}

module _ (s : Bytes) where
  -- comments
  line_turns :
      (x : Cursor) (n : ℕ) {c d e : Cursor} {xs : Chars}
      → Walk s c xs d
      → Run is_newline false xs
      → next_char s d ≡ Ok (10, e)
      → length xs < n
      → turns (line_turn s) x n c ≡ e
  unfolding turns on_result pick
  line_turns x zero w r q l = absurd (omega arith)
  line_turns x (suc n) here none q l = rw q
  line_turns x (suc n) (step p w) (one e r) q l = rw (p, e) (line_turns x n w r q (omega arith))

  last_turns :
      (x : Cursor) (n : ℕ) {c d e : Cursor} {xs : Chars}
      → Walk s c xs d
      → Run is_newline false xs
      → next_char s d ≡ Err e
      → length xs < n
      → turns (line_turn s) x n c ≡ e
  unfolding turns on_result pick
  last_turns x zero w r q l = absurd (omega arith)
  last_turns x (suc n) here none q l = rw q
  last_turns x (suc n) (step p w) (one e r) q l = rw (p, e) (last_turns x n w r q (omega arith))

  block_turns :
      (x : Result Cursor Cursor) (n : ℕ) {c d : Cursor} {xs : Chars}
      → Walk s c xs d
      → IsBlock xs
      → length xs < n
      → turns (block_turn s) x n c ≡ Ok d
  unfolding turns on_result pick
  block_turns x zero w r l = absurd (omega arith)
  block_turns x (suc n) (step p (step q here)) close l = rw (p, q)
  block_turns x (suc n) (step p (step q w)) (star e r) l = rw (p, q, e) (block_turns x n (step q w) r (omega arith))
  block_turns x (suc n) (step p w) (inner e r) l = rw (p, e) (block_turns x n w r (omega arith))
  block_turns x (suc n) {c = c} here r l = elim r [ ]

  line_comment :
      (b : Cursor) {c d e : Cursor} {xs : Chars}
      → next_char s b ≡ Ok (47, c)
      → Walk s c xs d
      → Run is_newline false xs
      → next_char s d ≡ Ok (10, e)
      → try_skip_comment s b ≡ Ok (Some e)
  unfolding try_skip_comment skip_line_comment on_result pick
  line_comment b {xs = xs} p w r q = let l = walk_short xs w in rw (p, line_turns _ (suc (length s)) w r q (omega arith))

  last_comment :
      (b : Cursor) {c d e : Cursor} {xs : Chars}
      → next_char s b ≡ Ok (47, c)
      → Walk s c xs d
      → Run is_newline false xs
      → next_char s d ≡ Err e
      → try_skip_comment s b ≡ Ok (Some e)
  unfolding try_skip_comment skip_line_comment on_result pick
  last_comment b {xs = xs} p w r q = let l = walk_short xs w in rw (p, last_turns _ (suc (length s)) w r q (omega arith))

  block_comment :
      (b : Cursor) {c d : Cursor} {xs : Chars}
      → next_char s b ≡ Ok (42, c)
      → Walk s c xs d
      → IsBlock xs
      → try_skip_comment s b ≡ Ok (Some d)
  unfolding try_skip_comment skip_block_comment on_result pick
  block_comment b {xs = xs} p w r = let l = walk_short xs w in rw (p, block_turns _ (suc (length s)) w r (omega arith))

  -- blanks, and what stands behind them
  turn_space :
      (x : Result Significant Cursor) (n : ℕ) (c : Cursor) {d : Cursor} {k : ℕ}
      → next_char s c ≡ Ok (k, d)
      → is_white_space k ≡ true
      → turns (significant_turn s) x (suc n) c ≡ turns (significant_turn s) x n d
  unfolding turns on_result pick
  turn_space x n c q e = rw (q, e)

  turn_comment :
      (x : Result Significant Cursor) (n : ℕ) (c d : Cursor) {e : Cursor}
      → next_char s c ≡ Ok (47, d)
      → try_skip_comment s d ≡ Ok (Some e)
      → turns (significant_turn s) x (suc n) c ≡ turns (significant_turn s) x n e
  unfolding turns on_option on_result pick is_white_space among
  turn_comment x n c d q e = rw (q, e)

  found :
      (x : Result Significant Cursor) (n : ℕ) {c p d : Cursor} {k : ℕ} {ks rest : Chars}
      → IsBlank ks (k ∷ rest)
      → Walk s c ks p
      → next_char s p ≡ Ok (k, d)
      → is_white_space k ≡ false
      → eqb k 47 ≡ false
      → length ks < n
      → turns (significant_turn s) x n c ≡ Ok (Found p.at k d)
  unfolding turns on_result pick
  found x zero b w q f g l = absurd (omega arith)
  found x (suc n) nothing here q f g l = rw (q, f, g)
  found x (suc n) (space e b) (step {c = c} p w) q f g l = turn_space x n c p e ∙ found x n b w q f g (omega arith)
  found x (suc n) (line {xs = xs} {ks = ks} r b) (step {c = c} {d = d} p (step p' w)) q f g l =
      let v = walk_past xs w in
      let h = length-append xs (10 ∷ ks) in
      turn_comment x n c d p (line_comment d p' v.walked r v.got) ∙ found x n b v.left q f g (omega arith)
  found x (suc n) (block {xs = xs} {ks = ks} r b) (step {c = c} {d = d} p (step p' w)) q f g l =
      let v = walk_split xs w in
      let h = length-append xs ks in
      turn_comment x n c d p (block_comment d p' v.1.0 r) ∙ found x n b v.1.1 q f g (omega arith)

  -- the end is read again where it was read
  done_again : (c d : Cursor) → next_char s c ≡ Err d → (e : Cursor) × (next_char s d ≡ Err e)
  unfolding passed
  done_again c d q = go (next_char s d) refl
    where
      go : (x : Result (ℕ × Cursor) Cursor) → next_char s d ≡ x → (e : Cursor) × (next_char s d ≡ Err e)
      go (Err e) m = (e, m)
      go (Ok (k, e)) m =
          let r = read s d e k m in
          let h = missed s c d q in
          absurd (h.quiet k r.width (subst (λ (x : Cursor). char_at s x.at ≡ Code k r.width) h.behind r.char))

  ended :
      (x : Result Significant Cursor) (n : ℕ) {c p e : Cursor} {ks : Chars}
      → IsBlank ks []
      → Walk s c ks p
      → next_char s p ≡ Err e
      → length ks < n
      → (d : Cursor) × (turns (significant_turn s) x n c ≡ Ok (Ended d))
  unfolding turns on_result pick
  ended x zero b w q l = absurd (omega arith)
  ended x (suc n) {e = e} nothing here q l = (e, rw q)
  ended x (suc n) (space e b) (step {c = c} p w) q l =
      let r = ended x n b w q (omega arith) in
      (r.0, turn_space x n c p e ∙ r.1)
  ended x (suc n) (line {xs = xs} {ks = ks} r b) (step {c = c} {d = d} p (step p' w)) q l =
      let v = walk_past xs w in
      let h = length-append xs (10 ∷ ks) in
      let z = ended x n b v.left q (omega arith) in
      (z.0, turn_comment x n c d p (line_comment d p' v.walked r v.got) ∙ z.1)
  ended x (suc zero) (last_line r) w q l = absurd (omega arith)
  ended x (suc (suc n)) {p = g} {e = e} (last_line r) (step {c = c} {d = d} p (step p' w)) q l =
      let z = done_again g e q in
      (z.0, turn_comment x (suc n) c d p (last_comment d p' w r q) ∙ rw z.1)
  ended x (suc n) (block {xs = xs} {ks = ks} r b) (step {c = c} {d = d} p (step p' w)) q l =
      let v = walk_split xs w in
      let h = length-append xs ks in
      let z = ended x n b v.1.1 q (omega arith) in
      (z.0, turn_comment x n c d p (block_comment d p' v.1.0 r) ∙ z.1)

  -- all characters of the text from a place on are read
  record All (c : Cursor) (ks : Chars) : Type 0 where
    last : Cursor
    over : Cursor
    walked : Walk s c ks last
    ends : next_char s last ≡ Err over

  all : (ks : Chars) (c : Cursor) → characters_at s c.at ≡ ks → All c ks
  all [] c e = go (next_char s c) refl
    where
      go : (x : Result (ℕ × Cursor) Cursor) → next_char s c ≡ x → All c []
      go (Err d) q = record { last = c; over = d; walked = here; ends = q }
      go (Ok (k, d)) q = let m = sym e ∙ characters_got s c d q in different cc
  all (k ∷ ks) c e = go (λ d. all ks d) (next_char s c) refl
    where
      go : ((d : Cursor) → characters_at s d.at ≡ ks → All d ks) → (x : Result (ℕ × Cursor) Cursor) → next_char s c ≡ x → All c (k ∷ ks)
      go h (Err d) q = let m = sym (characters_done s c d q) ∙ e in different cc
      go h (Ok (j, d)) q =
          let m = sym (characters_got s c d q) ∙ e in
          let r = h d cc in
          let p : j ≡ k = cc in
          let q' = subst (λ j. next_char s c ≡ Ok (j, d)) p q in
          record { last = r.last; over = r.over; walked = step q' r.walked; ends = r.ends }

pub complete_end : CompleteEnd
unfolding step_of next_significant_char on-Significant on_result
complete_end s c b =
    let a = all s (characters_at s c.at) c refl in
    let l = walk_short (characters_at s c.at) a.walked in
    let r = ended s (Ok (Ended c)) (suc (length s)) b a.walked a.ends (omega arith) in
    (r.0, rw r.1)

module _ (s : Bytes) where
  -- each token of the grammar is read
  taken :
      {c f g e : Cursor} {before name after : Chars} {word : Range → Token}
      → IsToken before name after (characters_at s e.at) word
      → Walk s c before f
      → Walk s f name g
      → Walk s g after e
      → Taken s c (word (range f.at g.at)) e
  taken (pair {a = a} {b = b} h) (step {c = c} {d = d} q (step {d = e} p here)) here here = pair_taken s c d e a b q p h
  taken (sign {a = a} h b) (step {c = c} {d = d} q here) here here = sign_taken s c d a q h b
  taken star here (step {c = c} {d = d} q here) here = star_taken s c d q
  taken (name h r b) here (step {c = c} {d = d} q w) here = name_taken s c d q h w r b
  taken (hyphen_name h n r b) here (step {c = c} {d = d} q (step {d = e} p w)) here = hyphen_taken s c d e q p h n w r b
  taken (string r) (step {c = c} {d = d} q here) w (step {c = e} {d = g} p here) = string_taken s c d e g q w r p
  taken (number u) w here here = number_taken s u w
  taken (plus u) (step {c = c} {d = d} q w) here here = plus_taken s c d q u w
  taken (minus h u) (step {c = c} {d = d} q (step p w)) here here = minus_taken s c d q p h u w
  taken (zoom_range z) (step {c = c} {d = d} q (step {d = f} p w)) here here = zoom_taken s c d f q p z w
  taken (six_digits r b) (step {c = c} {d = d} q w) here here = six_taken s c d q w r b
  taken (three_digits r b) (step {c = c} {d = d} q w) here here = three_taken s c d q w r b
  taken (reference r b n) (step {c = c} {d = d} q here) w here = reference_taken s c d q w r b n
  taken (import {before = o} a r b) (step {c = c} {d = d} q w) v u = import_taken s c d o q w a v r u b

  step_taken :
      {c p e : Cursor} {ks : Chars} {t : Token}
      → IsBlank ks (characters_at s p.at)
      → Walk s c ks p
      → (x : Taken s p t e)
      → step_of s c ≡ Ok (Took t x.behind.line x.behind.character e)
  unfolding step_of next_significant_char on-Significant on_result
  step_taken {c} {p} {ks = ks} b w x =
      let l = walk_short ks w in
      let b' = subst (IsBlank ks) (characters_got s p x.behind x.got) b in
      rw (found s (Ok (Ended c)) (suc (length s)) b' w x.got x.no_space x.no_slash (omega arith), x.ready)

  -- the cursors of a token that is there
  lexed_taken :
      {c p f g e : Cursor} {t : Token} {to : ℕ} (x : Lexed s c.at t to)
      → Walk s c x.blanks p
      → Walk s p x.before f
      → f.at ≡ x.from
      → Walk s f x.name g
      → g.at ≡ x.end
      → Walk s g x.after e
      → e.at ≡ to
      → (line : ℕ) × ((character : ℕ) × ((d : Cursor) × ((step_of s c ≡ Ok (Took t line character d)) × (d.at ≡ to))))
  lexed_taken {p = p} {f = f} {g = g} {e = e} {t = t} {to = to} x w v i u j z k =
      let y = taken (subst (λ n. IsToken x.before x.name x.after (characters_at s n) x.word) (sym k) x.is_token) v u z in
      let r : characters_at s p.at ≡ x.before ++ (x.name ++ (x.after ++ characters_at s to)) =
      walk_characters v ∙ ap (λ ks. x.before ++ ks) (walk_characters u ∙ ap (λ ks. x.name ++ ks) (walk_characters z ∙ ap (λ n. x.after ++ characters_at s n) k)) in
      let m : x.word (range f.at g.at) ≡ t =
      ap (λ n. x.word (range n g.at)) i ∙ ap (λ n. x.word (range x.from n)) j ∙ sym x.is in
      let o = step_taken (subst (IsBlank x.blanks) (sym r) x.is_blank) w y in
      (y.behind.line, (y.behind.character, (e, (rw m at o, k))))

pub complete : Complete
complete s c t to x =
    let w = reads_walk c refl x.skipped in
    let v = reads_walk w.0 w.1.1 x.opened in
    let u = reads_walk v.0 v.1.1 x.named in
    let z = reads_walk u.0 u.1.1 x.closed in
    lexed_taken s {e = z.0} x w.1.0 v.1.0 v.1.1 u.1.0 u.1.1 z.1.0 z.1.1

pub one_token : OneToken
one_token s at t u to to' l m =
    let c = cursor at 1 0 false in
    let x = complete s c t to l in
    let y = complete s c u to' m in
    let d = x.1.1.0 in
    let f = y.1.1.0 in
    let e : ◌≡◌ {A = Result Step LexerError} (Ok (Took t x.0 x.1.0 d)) (Ok (Took u y.0 y.1.0 f)) = sym x.1.1.1.0 ∙ y.1.1.1.0 in
    let p : t ≡ u = cc in
    let q : d ≡ f = cc in
    (p, sym x.1.1.1.1 ∙ ap (λ (c : Cursor). c.at) q ∙ y.1.1.1.1)
