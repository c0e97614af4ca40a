-- The numbers of each place that reading reaches from the start of a text are the line and character there.
use Prim.Native.Nat.{ℕ, zero, suc, ◌+◌, ◌<◌, ◌≤◌}
use native.Mathlib.Omega.{arith}
use mathlib.Core.Path.{◌≡◌, refl, sym, ◌∙◌, ap, subst}
use mathlib.Core.Bool.{Bool, false}
use mathlib.Core.List.{List, [], ◌∷◌}
use lib.Dec.{eqb}
use lib.ListN.{length}
use borrow.Author.Tests.{lt-ltb}
use Rattle.base.specs.Bytes.{Bytes}
use Rattle.base.specs.Choice.{pick, by-test}
use Rattle.utf8.specs.Utf8.{char_at}
use Rattle.utf8.specs.declared.Char.TheVariants.{Code}
use Rattle.utf8.proofs.Rows.{char_within}
use Rattle.cursor.specs.Cursor.{start, most, bump, passed}
use Rattle.cursor.specs.Position.{Text, empty, next, newlines, since, line_of, character_of, Position}
use Rattle.cursor.specs.Reach.{Reach, here, on, over}
use Rattle.cursor.specs.declared.Cursor.{Cursor}
use Rattle.cursor.proofs.Onward.{read, missed}

-- whether the last character read was a newline
abbrev ended : ℕ → List ℕ → Bool
ended zero [] = false
ended zero (k ∷ ks) = eqb k 10
ended (suc n) ks = false

record Known (s : Bytes) (n : ℕ) (c : Cursor) : Type 0 where
  pub ks : List ℕ
  pub text : Text s ks c.at
  pub line : c.line ≡ line_of n ks
  pub character : c.character ≡ character_of n ks
  pub newline : c.newline ≡ ended n ks

bump_more : (n : ℕ) → n < most → bump n ≡ suc n
unfolding bump pick
bump_more n h = rw (lt-ltb n most h) (omega arith)

-- a character has at least a byte
text_long : (s : Bytes) (ks : List ℕ) (at : ℕ) → Text s ks at → (newlines ks ≤ at) × (since ks ≤ at) × (at ≤ length s)
unfolding newlines since pick
text_long s [] at empty = (omega arith, omega arith, omega arith)
text_long s (k ∷ ks) at (next {at = b} {w = w} t q) =
    let h = text_long s ks b t in
    let l = char_within s b k w q in
    by-test (eqb k 10)
    (λ e. rw e (omega arith, omega arith, omega arith))
    (λ e. rw e (omega arith, omega arith, omega arith))

-- the line and character of what is read next
turned_line : (n : ℕ) (ks : List ℕ) → newlines ks + 1 < most → pick (ended n ks) (bump (line_of n ks)) (line_of n ks) ≡ suc (newlines ks)
unfolding newlines pick
turned_line zero [] h = refl
turned_line zero (k ∷ ks) h =
    by-test (eqb k 10)
    (λ e. rw e (bump_more (suc (newlines ks)) (let g : suc (newlines ks) + 1 < most = rw e at h in omega arith)))
    (λ e. rw e refl)
turned_line (suc n) ks h = refl

turned_character :
    (n : ℕ) (ks : List ℕ)
    → since ks + n + 1 < most
    → pick (ended n ks) 1 (bump (character_of n ks)) ≡ since ks + suc n
unfolding since pick
turned_character zero [] h = bump_more 0 (omega arith)
turned_character zero (k ∷ ks) h =
    by-test (eqb k 10)
    (λ e. rw e refl)
    (λ e. rw e (bump_more (suc (since ks)) (let g : suc (since ks) + 0 + 1 < most = rw e at h in omega arith) ∙ omega arith))
turned_character (suc n) ks h = bump_more (since ks + suc n) (omega arith) ∙ omega arith

module _ (s : Bytes) (n : ℕ) (d e : Cursor) (to : ℕ) (b : Bool) (x : Known s n d) (q : e ≡ passed d to b) (h : length s + n + 1 < most) where
  passed_line : e.line ≡ suc (newlines x.ks)
  unfolding passed
  passed_line =
      let l = text_long s x.ks d.at x.text in
      ap (λ (c : Cursor). c.line) q ∙ rw (x.newline, x.line) (turned_line n x.ks (omega arith))

  passed_character : e.character ≡ since x.ks + suc n
  unfolding passed
  passed_character =
      let l = text_long s x.ks d.at x.text in
      ap (λ (c : Cursor). c.character) q ∙ rw (x.newline, x.character) (turned_character n x.ks (omega arith))

known : (s : Bytes) {n : ℕ} {c : Cursor} → length s + n + 1 < most → Reach s start n c → Known s n c
unfolding passed
known s h here = record { ks = []; text = empty; line = refl; character = refl; newline = refl }
known s h (on {d = d} {e = e} {k = k} r q) =
    let x = known s h r in
    let m = read s d e k q in
    record {
      ks = k ∷ x.ks;
      text = subst (Text s (k ∷ x.ks)) (sym (ap (λ (c : Cursor). c.at) m.behind)) (next x.text m.char);
      line = passed_line s 0 d e (d.at + m.width) (eqb k 10) x m.behind h;
      character = passed_character s 0 d e (d.at + m.width) (eqb k 10) x m.behind h ∙ omega arith;
      newline = ap (λ (c : Cursor). c.newline) m.behind;
    }
known s h (over {d = d} {e = e} {n = n} r q) =
    let x = known s (omega arith) r in
    let m = missed s d e q in
    record {
      ks = x.ks;
      text = subst (Text s x.ks) (sym (ap (λ (c : Cursor). c.at) m.behind)) x.text;
      line = passed_line s n d e d.at false x m.behind (omega arith);
      character = passed_character s n d e d.at false x m.behind (omega arith);
      newline = ap (λ (c : Cursor). c.newline) m.behind;
    }

-- of a place that was reached: its line is one more than the newlines before the last character read, and its character
-- counts the characters since
pub positioned : (s : Bytes) {n : ℕ} {c : Cursor} → length s + n + 1 < most → Reach s start n c → Position s n c.at c.line c.character
positioned s h r =
    let x = known s h r in
    record { read = x.ks; text = x.text; on_line = x.line; on_character = x.character }

-- from one place of the text to a later one, character by character
data Onto (s : Bytes) : List ℕ → ℕ → List ℕ → ℕ → Type 0 where
  stay : {ks : List ℕ} {at : ℕ} → Onto s ks at ks at
  step :
      {ks js : List ℕ} {at to : ℕ} (k w : ℕ)
      → char_at s at ≡ Code k w
      → Onto s (k ∷ ks) (at + w) js to
      → Onto s ks at js to

onto_more :
    (s : Bytes) {ks js : List ℕ} {at to : ℕ} (k w : ℕ)
    → Onto s ks at js to
    → char_at s to ≡ Code k w
    → Onto s ks at (k ∷ js) (to + w)
onto_more s k w stay q = step k w q stay
onto_more s k w (step j v p o) q = step j v p (onto_more s k w o q)

text_onto : (s : Bytes) {ks : List ℕ} {at : ℕ} → Text s ks at → Onto s [] 0 ks at
text_onto s empty = stay
text_onto s (next {k = k} {w = w} t q) = onto_more s k w (text_onto s t) q

onto_on : (s : Bytes) {ks js : List ℕ} {at to : ℕ} → Onto s ks at js to → at ≤ to
onto_on s stay = omega arith
onto_on s (step {at = at} k w q o) = let h = onto_on s o in omega arith

onto_one :
    (s : Bytes) {ks js ms : List ℕ} {at to end : ℕ}
    → Onto s ks at js to
    → Onto s ks at ms end
    → to ≡ end
    → js ≡ ms
onto_one s stay stay r = refl
onto_one s {at = at} stay (step k w q o) r = let h = onto_on s o in let l = char_within s at k w q in absurd (omega arith)
onto_one s {at = at} (step k w q o) stay r = let h = onto_on s o in let l = char_within s at k w q in absurd (omega arith)
onto_one s {ks = ks} {at = at} {to = to} (step {js = js} k w q o) (step {js = ms} j v p u) r =
    let e : Code k w ≡ Code j v = sym q ∙ p in
    let a : k ≡ j = cc in
    let b : w ≡ v = cc in
    onto_one s o (rw (a, b) u) r

-- a place has its characters before it in one way only
pub text_one : (s : Bytes) {ks js : List ℕ} {at : ℕ} → Text s ks at → Text s js at → ks ≡ js
text_one s t u = onto_one s (text_onto s t) (text_onto s u) refl
