-- What is read before a token is read character by character.
use Prim.Native.Nat.{ℕ, zero, suc, ◌-◌, ◌<◌, ◌≤◌}
use native.Mathlib.Omega.{arith}
use mathlib.Core.Path.{◌≡◌, refl, sym, ◌∙◌, ap, subst}
use Rattle.std.specs.Prelude.{Option, Some, None, Result, Ok, Err}
use lib.Dec.{eqb}
use lib.ListN.{length}
use Rattle.base.specs.Bytes.{Bytes}
use Rattle.base.specs.Choice.{pick, pick_split}
use Rattle.base.specs.Option.{on_option, on_result, on_result_option}
use Rattle.base.specs.Turns.{Turn, more, done, after, turns}
use Rattle.base.proofs.Loops.{Kept, turns_keep}
use Rattle.base.proofs.Options.{split_result2}
use Rattle.space.specs.Space.{is_white_space}
use Rattle.utf8.specs.Utf8.{char_at}
use Rattle.cursor.specs.Cursor.{passed, next_char}
use Rattle.cursor.specs.Elim.{on-Significant}
use Rattle.cursor.specs.Blank.{line_turn, skip_line_comment, block_turn, skip_block_comment, try_skip_comment, significant_turn, next_significant_char}
use Rattle.cursor.specs.Reach.{Reach, here, on, over, Within, AtEnd, Begun}
use Rattle.cursor.specs.declared.Cursor.{Cursor}
use Rattle.cursor.specs.declared.Significant.{Significant}
use Rattle.cursor.specs.declared.Significant.TheVariants.{Ended, Found}
use Rattle.cursor.proofs.Onward.{read, read_within, next_on, missed}

-- what holds in each case holds of the answer
module _ {B : Type 0} (P : B → Type 0) where
  pub split-Comment :
      (x : Result (Option Cursor) Cursor) (f : Cursor → B) (a : B) (g : Cursor → B)
      → ((d : Cursor) → x ≡ Err d → P (f d))
      → (x ≡ Ok None → P a)
      → ((d : Cursor) → x ≡ Ok (Some d) → P (g d))
      → P (on_result_option x f a g)
  unfolding on_option on_result
  split-Comment (Err d) f a g p q r = p d refl
  split-Comment (Ok None) f a g p q r = q refl
  split-Comment (Ok (Some d)) f a g p q r = r d refl

  pub split-Significant :
      (x : Result Significant Cursor) (f g : Cursor → B) (h : ℕ → ℕ → Cursor → B)
      → ((d : Cursor) → x ≡ Err d → P (f d))
      → ((d : Cursor) → x ≡ Ok (Ended d) → P (g d))
      → ((at k : ℕ) (d : Cursor) → x ≡ Ok (Found at k d) → P (h at k d))
      → P (on_result x f (λ y. on-Significant y g h))
  unfolding on_result on-Significant
  split-Significant (Err d) f g h p q r = p d refl
  split-Significant (Ok (Ended d)) f g h p q r = q d refl
  split-Significant (Ok (Found at k d)) f g h p q r = r at k d refl

-- the end stays where it is
pub end_stays : (s : Bytes) (d e : Cursor) → next_char s d ≡ Err e → e.at ≡ d.at
unfolding passed
end_stays s d e q = ap (λ (x : Cursor). x.at) (missed s d e q).behind

-- nothing is read behind the end
pub end_last : {s : Bytes} {c : Cursor} {n : ℕ} {d : Cursor} → Reach s c (suc n) d → (k : ℕ) (e : Cursor) → next_char s d ≡ Ok (k, e) → ⊥
end_last {s} {d = d} (over {d = b} r q) k e m =
    let x = read s d e k m in
    (missed s b d q).quiet k x.width (ap (char_at s) (sym (end_stays s b d q)) ∙ x.char)

module _ {s : Bytes} {c : Cursor} where
  pub reach_on : {n : ℕ} {d : Cursor} → Reach s c n d → c.at ≤ d.at
  reach_on here = omega arith
  reach_on (on {d = d} {e = e} {k = k} r q) = let h = reach_on r in let l = read_within s d e k (read s d e k q) in omega arith
  reach_on (over {d = d} {e = e} r q) = let h = reach_on r in let l = end_stays s d e q in omega arith

  pub reach_within : {n : ℕ} {d : Cursor} → c.at ≤ length s → Reach s c n d → d.at ≤ length s
  reach_within p here = p
  reach_within p (on {d = d} {e = e} {k = k} r q) = (read_within s d e k (read s d e k q)).1
  reach_within p (over {d = d} {e = e} r q) = let h = reach_within p r in let l = end_stays s d e q in omega arith

  -- reading on from a place that was reached
  pub reach_more : {d : Cursor} {n : ℕ} {e : Cursor} → Reach s c 0 d → Reach s d n e → Reach s c n e
  reach_more a here = a
  reach_more a (on r q) = on (reach_more a r) q
  reach_more a (over r q) = over (reach_more a r) q

  pub within_more : {most : ℕ} {d e : Cursor} → Reach s c 0 d → Within most s d e → Within most s c e
  within_more a w = record { ends = w.ends; few = w.few; reach = reach_more a w.reach }

-- one character, or none and the end
pub reach_one : {s : Bytes} {c d : Cursor} {k : ℕ} → next_char s c ≡ Ok (k, d) → Reach s c 0 d
reach_one q = on here q

pub reach_end : {s : Bytes} {c d : Cursor} → next_char s c ≡ Err d → Reach s c 1 d
reach_end q = over here q

pub within_0 : {s : Bytes} {c d : Cursor} → Reach s c 0 d → Within 1 s c d
within_0 r = record { ends = 0; few = omega arith; reach = r }

pub within_1 : {s : Bytes} {c d : Cursor} → Reach s c 1 d → Within 1 s c d
within_1 r = record { ends = 1; few = omega arith; reach = r }

-- comments
line_turn_lem : (s : Bytes) (c d : Cursor) → Reach s c 0 d → Kept (Reach s c 0) (Within 1 s c) (line_turn s d)
line_turn_lem s c d r =
    split_result2 (Kept (Reach s c 0) (Within 1 s c)) (next_char s d) _ _ (λ e q. within_1 (over r q)) λ k e q.
    pick_split (Kept (Reach s c 0) (Within 1 s c)) (eqb k 10) _ _ (λ t. within_0 (on r q)) (λ t. on r q)

pub line_reach : (s : Bytes) (c : Cursor) → Within 1 s c (skip_line_comment s c)
unfolding skip_line_comment
line_reach s c = turns_keep (Reach s c 0) (Within 1 s c) (line_turn s) c (within_0 here) (line_turn_lem s c) (suc (length s)) c here

-- what turns keep, of a loop that ends before its number of turns: each turn falls
abbrev pub Falls : {S R : Type 0} → (S → Type 0) → (R → Type 0) → (S → ℕ) → ℕ → Turn S R → Type 0
Falls P Q μ left (more x) = P x × (μ x < left)
Falls P Q μ left (done r) = Q r

module _
    {S R : Type 0} (P : S → Type 0) (Q : R → Type 0) (μ : S → ℕ) (f : S → Turn S R) (d : R)
    (turn : (x : S) → P x → Falls P Q μ (μ x) (f x))
  where
    falls_after :
        (left : ℕ) (rest : S → R)
        → ((x : S) → P x → μ x < left → Q (rest x))
        → (t : Turn S R) → Falls P Q μ left t → Q (after t rest)
    falls_after left rest h (more x) p = h x p.0 p.1
    falls_after left rest h (done r) p = p

    pub turns_fall : (n : ℕ) (x : S) → μ x < n → P x → Q (turns f d n x)
    unfolding turns
    turns_fall zero x l p = absurd (omega arith)
    turns_fall (suc n) x l p = falls_after (μ x) (turns f d n) (λ y q m. turns_fall n y (omega arith) q) (f x) (turn x p)

abbrev BlockReach : Bytes → Cursor → Result Cursor Cursor → Type 0
BlockReach s c (Err d) = Reach s c 1 d
BlockReach s c (Ok d) = Within 1 s c d

block_turn_lem :
    (s : Bytes) (c d : Cursor)
    → Reach s c 0 d
    → Falls (Reach s c 0) (BlockReach s c) (λ x. length s - x.at) (length s - d.at) (block_turn s d)
block_turn_lem s c d r =
    let P : Turn Cursor (Result Cursor Cursor) → Type 0 = Falls (Reach s c 0) (BlockReach s c) (λ x. length s - x.at) (length s - d.at) in
    split_result2 P (next_char s d) _ _ (λ e q. over r q) λ k e q.
    let on_one : P (more e) = (on r q, next_on s d e k (Ok (k, e)) (sym q) refl) in
    pick_split P (eqb k 42) _ _
    (λ t.
    split_result2 P (next_char s e) _ _ (λ f m. on_one) λ j f m.
    pick_split P (eqb j 47) _ _ (λ u. within_0 (on (on r q) m)) (λ u. on_one))
    (λ t. on_one)

block_reach : (s : Bytes) (c : Cursor) → BlockReach s c (skip_block_comment s c)
unfolding skip_block_comment
block_reach s c =
    turns_fall (Reach s c 0) (BlockReach s c) (λ x. length s - x.at) (block_turn s) (Err c) (block_turn_lem s c) (suc (length s)) c
    (omega arith) here

abbrev pub CommentReach : Bytes → Cursor → Result (Option Cursor) Cursor → Type 0
CommentReach s c (Err d) = Reach s c 1 d
CommentReach s c (Ok None) = Unit {0}
CommentReach s c (Ok (Some d)) = Within 1 s c d

block_more :
    (s : Bytes) (c d : Cursor)
    → Reach s c 0 d
    → (x : Result Cursor Cursor) → BlockReach s d x
    → CommentReach s c (on_result x Err λ e. Ok (Some e))
unfolding on_result
block_more s c d r (Err e) h = reach_more r h
block_more s c d r (Ok e) h = within_more r h

pub comment_reach : (s : Bytes) (c : Cursor) → CommentReach s c (try_skip_comment s c)
unfolding try_skip_comment
comment_reach s c =
    split_result2 (CommentReach s c) (next_char s c) _ _ (λ d q. tt) λ k d q.
    pick_split (CommentReach s c) (eqb k 47) _ _ (λ t. within_more (reach_one q) (line_reach s d)) λ t.
    pick_split (CommentReach s c) (eqb k 42) _ _ (λ u. block_more s c d (reach_one q) (skip_block_comment s d) (block_reach s d)) (λ u. tt)

module _ (s : Bytes) (c d : Cursor) (r : Result (Option Cursor) Cursor) (e : r ≡ try_skip_comment s c) (m : r ≡ Ok (Some d)) where
  pub skipped_reach : Within 1 s c d
  skipped_reach = subst (CommentReach s c) (sym e ∙ m) (comment_reach s c)

-- a comment ends behind the slash before it
pub skipped_on :
    (s : Bytes) (b c d : Cursor) (k : ℕ) (n : Result (ℕ × Cursor) Cursor) (r : Result (Option Cursor) Cursor)
    → n ≡ next_char s b
    → n ≡ Ok (k, c)
    → r ≡ try_skip_comment s c
    → r ≡ Ok (Some d)
    → length s - d.at < length s - b.at
skipped_on s b c d k n r p q e m =
    let l = read_within s b c k (read s b c k (sym p ∙ q)) in
    let h = reach_on (skipped_reach s c d r e m).reach in
    omega arith

abbrev pub SignificantReach : Bytes → Cursor → Result Significant Cursor → Type 0
SignificantReach s c (Err d) = Reach s c 1 d
SignificantReach s c (Ok (Ended d)) = AtEnd s c d
SignificantReach s c (Ok (Found at k d)) = Begun s c at k d

-- the end is read once where the text ends, and before that once more by a comment that runs into it
significant_turn_lem :
    (s : Bytes) (c d : Cursor)
    → Within 1 s c d
    → Falls (Within 1 s c) (SignificantReach s c) (λ x. length s - x.at) (length s - d.at) (significant_turn s d)
significant_turn_lem s c d w =
    split_result2 P (next_char s d) _ _
    (λ e q. record { ends = w.ends; few = w.few; reach = over w.reach q })
    (λ k e q. go w.ends w.reach k e q)
  where
    P : Turn Cursor (Result Significant Cursor) → Type 0
    P = Falls (Within 1 s c) (SignificantReach s c) (λ x. length s - x.at) (length s - d.at)

    go :
        (n : ℕ)
        → Reach s c n d
        → (k : ℕ) (e : Cursor)
        → next_char s d ≡ Ok (k, e)
        → P (pick (is_white_space k) (more e)
        (pick (eqb k 47)
        (on_result_option (try_skip_comment s e) (λ f. done (Err f)) (done (Ok (Found d.at k e))) more)
        (done (Ok (Found d.at k e)))))
    go zero r k e q =
        let b : Begun s c d.at k e = record { place = d; reach = r; is = refl; char = q } in
        pick_split P (is_white_space k) _ _ (λ t. (within_0 (on r q), next_on s d e k (Ok (k, e)) (sym q) refl)) λ t.
        pick_split P (eqb k 47) _ _
        (λ u.
        split-Comment P (try_skip_comment s e) _ _ _
        (λ f m. reach_more (on r q) (subst (CommentReach s e) m (comment_reach s e)))
        (λ m. b)
        (λ f m. (
          within_more (on r q) (subst (CommentReach s e) m (comment_reach s e)),
          skipped_on s d e f k (Ok (k, e)) (Ok (Some f)) (sym q) refl (sym m) refl,
        )))
        (λ u. b)
    go (suc n) r k e q = absurd (end_last r k e q)

pub significant_reach : (s : Bytes) (c : Cursor) → SignificantReach s c (next_significant_char s c)
unfolding next_significant_char
significant_reach s c =
    turns_fall (Within 1 s c) (SignificantReach s c) (λ x. length s - x.at) (significant_turn s) (Ok (Ended c))
    (significant_turn_lem s c) (suc (length s)) c (omega arith) (within_0 here)
