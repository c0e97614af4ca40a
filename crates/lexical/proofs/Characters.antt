-- The characters of a text, read from cursor to cursor.
use Prim.Native.Nat.{ℕ, zero, suc, ◌+◌, ◌-◌, ◌<◌, ◌≤◌}
use native.Mathlib.Omega.{arith}
use mathlib.Core.Path.{◌≡◌, refl, sym, ◌∙◌, ap, subst}
use mathlib.Core.Bool.{Bool, false}
use mathlib.Core.List.{[], ◌∷◌, ◌++◌}
use lib.Dec.{eqb}
use lib.ListN.{length}
use Rattle.base.specs.Bytes.{Bytes}
use Rattle.utf8.specs.Elim.{on-Char}
use Rattle.utf8.specs.Utf8.{char_at}
use Rattle.utf8.specs.declared.Char.{Char}
use Rattle.utf8.specs.declared.Char.TheVariants.{Bad, End, Code}
use Rattle.utf8.proofs.Rows.{char_within}
use Rattle.cursor.specs.Cursor.{passed, next_char}
use Rattle.cursor.specs.declared.Cursor.{Cursor}
use Rattle.cursor.proofs.Onward.{read, read_within, missed}
use Rattle.lexical.specs.Lexical.{Chars, begins}
use Rattle.lexical.specs.Lexed.{characters_from, characters_at, Reads, nothing, next}
use Rattle.std.specs.Prelude.{Result, Ok, Err}

-- any number that is enough gives the same characters
characters_enough :
    (s : Bytes) (n m at : ℕ)
    → length s - at < n
    → length s - at < m
    → characters_from n s at ≡ characters_from m s at
unfolding characters_from on-Char
characters_enough s zero m at p q = absurd (omega arith)
characters_enough s (suc n) zero at p q = absurd (omega arith)
characters_enough s (suc n) (suc m) at p q = go (λ w f g. characters_enough s n m (at + w) f g) (char_at s at) refl
  where
    go :
        ((w : ℕ) → length s - (at + w) < n → length s - (at + w) < m → characters_from n s (at + w) ≡ characters_from m s (at + w))
        → (x : Char)
        → char_at s at ≡ x
        → on-Char x [] [] (λ k w. k ∷ characters_from n s (at + w)) ≡ on-Char x [] [] (λ k w. k ∷ characters_from m s (at + w))
    go h Bad e = refl
    go h End e = refl
    go h (Code k w) e = let l = char_within s at k w e in ap (λ ks. k ∷ ks) (h w (omega arith) (omega arith))

characters_code : (s : Bytes) (at k w : ℕ) → char_at s at ≡ Code k w → characters_at s at ≡ k ∷ characters_at s (at + w)
unfolding characters_at characters_from on-Char
characters_code s at k w e =
    let l = char_within s at k w e in
    ap (λ x. on-Char x [] [] λ k w. k ∷ characters_from (length s) s (at + w)) e
    ∙ ap (λ ks. k ∷ ks) (characters_enough s (length s) (suc (length s)) (at + w) (omega arith) (omega arith))

pub characters_got : (s : Bytes) (c d : Cursor) {k : ℕ} → next_char s c ≡ Ok (k, d) → characters_at s c.at ≡ k ∷ characters_at s d.at
unfolding passed
characters_got s c d {k} q =
    let r = read s c d k q in
    characters_code s c.at k r.width r.char
    ∙ ap (λ (x : Cursor). k ∷ characters_at s x.at) (sym r.behind)

pub characters_done : (s : Bytes) (c d : Cursor) → next_char s c ≡ Err d → characters_at s c.at ≡ []
unfolding characters_at characters_from on-Char
characters_done s c d q = go (missed s c d q).quiet (char_at s c.at) refl
  where
    go :
        ((k w : ℕ) → char_at s c.at ≡ Code k w → ⊥)
        → (x : Char)
        → char_at s c.at ≡ x
        → on-Char x [] [] (λ k w. k ∷ characters_from (length s) s (c.at + w)) ≡ []
    go h Bad e = refl
    go h End e = refl
    go h (Code k w) e = absurd (h k w e)

-- from cursor to cursor these characters are read
pub data Walk (s : Bytes) : Cursor → Chars → Cursor → Type 0 where
  here : {c : Cursor} → Walk s c [] c
  step : {c d e : Cursor} {k : ℕ} {ks : Chars} → next_char s c ≡ Ok (k, d) → Walk s d ks e → Walk s c (k ∷ ks) e

module _ {s : Bytes} where
  pub walk_one : {c d : Cursor} {k : ℕ} → next_char s c ≡ Ok (k, d) → Walk s c (k ∷ []) d
  walk_one q = step q here

  pub walk_on : {c d e : Cursor} {ks js : Chars} → Walk s c ks d → Walk s d js e → Walk s c (ks ++ js) e
  walk_on here v = v
  walk_on (step q w) v = step q (walk_on w v)

  pub walk_characters : {c d : Cursor} {ks : Chars} → Walk s c ks d → characters_at s c.at ≡ ks ++ characters_at s d.at
  walk_characters here = refl
  walk_characters (step {c = c} {d = d} {k = k} q w) = characters_got s c d q ∙ ap (λ ks. k ∷ ks) (walk_characters w)

  pub walk_reads : {c d : Cursor} {ks : Chars} → Walk s c ks d → Reads s c.at ks d.at
  unfolding passed
  walk_reads here = nothing
  walk_reads (step {c = c} {d = d} {e = e} {k = k} {ks = ks} q w) =
      let r = read s c d k q in
      next r.char (subst (λ (x : Cursor). Reads s x.at ks e.at) r.behind (walk_reads w))

  pub reads_walk : (c : Cursor) {at to : ℕ} {ks : Chars} → c.at ≡ at → Reads s at ks to → (d : Cursor) × (Walk s c ks d × (d.at ≡ to))
  unfolding next_char passed on-Char
  reads_walk c e nothing = (c, (here, e))
  reads_walk c e (next {k = k} {w = w} q r) =
      let d = passed c (c.at + w) (eqb k 10) in
      let x = reads_walk d (ap (λ n. n + w) e) r in
      let g : next_char s c ≡ Ok (k, d) = ap (λ x. on-Char x (Err (passed c c.at false)) (Err (passed c c.at false)) λ k w. Ok (k, passed c (c.at + w) (eqb k 10))) (ap (char_at s) e ∙ q) in
      (x.0, (step g x.1.0, x.1.1))

  -- how far a walk goes
  pub walk_length : {c d : Cursor} {ks : Chars} → Walk s c ks d → length ks + c.at ≤ d.at
  walk_length here = omega arith
  walk_length (step {c = c} {d = d} {k = k} q w) = let l = read_within s c d k (read s c d k q) in let h = walk_length w in omega arith

  pub walk_within : {c d : Cursor} {k : ℕ} {ks : Chars} → Walk s c (k ∷ ks) d → d.at ≤ length s
  walk_within (step {c = c} {d = d} {k = k} q here) = (read_within s c d k (read s c d k q)).1
  walk_within (step q (step p w)) = walk_within (step p w)

-- what follows does not begin with a character of the class
module _ (s : Bytes) (c d : Cursor) (p : ℕ → Bool) where
  pub stops_done : next_char s c ≡ Err d → begins p (characters_at s c.at) ≡ false
  stops_done q = ap (begins p) (characters_done s c d q)

  pub stops_got : {k : ℕ} → next_char s c ≡ Ok (k, d) → p k ≡ false → begins p (characters_at s c.at) ≡ false
  stops_got q e = ap (begins p) (characters_got s c d q) ∙ e

  -- .. and the other way: the character that is read is not in the class
  pub stopped : {k : ℕ} → begins p (characters_at s c.at) ≡ false → next_char s c ≡ Ok (k, d) → p k ≡ false
  stopped h q = sym (ap (begins p) (characters_got s c d q)) ∙ h

-- a walk in parts
pub record Past (s : Bytes) (c : Cursor) (ks : Chars) (k : ℕ) (js : Chars) (f : Cursor) : Type 0 where
  pub stop : Cursor
  pub behind : Cursor
  pub walked : Walk s c ks stop
  pub got : next_char s stop ≡ Ok (k, behind)
  pub left : Walk s behind js f

module _ {s : Bytes} where
  pub walk_split : {c e : Cursor} (ks : Chars) {js : Chars} → Walk s c (ks ++ js) e → (d : Cursor) × (Walk s c ks d × Walk s d js e)
  walk_split {c = c} [] w = (c, (here, w))
  walk_split (k ∷ ks) (step q w) = let r = walk_split ks w in (r.0, (step q r.1.0, r.1.1))

  pub walk_past : {c f : Cursor} (ks : Chars) {k : ℕ} {js : Chars} → Walk s c (ks ++ (k ∷ js)) f → Past s c ks k js f
  walk_past [] (step {c = c} {d = d} q w) = record { stop = c; behind = d; walked = here; got = q; left = w }
  walk_past (k ∷ ks) (step q w) =
      let r = walk_past ks w in
      record { stop = r.stop; behind = r.behind; walked = step q r.walked; got = r.got; left = r.left }

  pub walk_short : {c d : Cursor} (ks : Chars) → Walk s c ks d → length ks ≤ length s
  walk_short [] w = omega arith
  walk_short (k ∷ ks) w = let h = walk_length w in let l = walk_within w in omega arith

-- where no character of a class follows: the end, or a character outside it
pub stop_split :
    (s : Bytes) (c : Cursor) (p : ℕ → Bool) (P : Result (ℕ × Cursor) Cursor → Type 0)
    → begins p (characters_at s c.at) ≡ false
    → ((d : Cursor) → P (Err d))
    → ((k : ℕ) (d : Cursor) → p k ≡ false → P (Ok (k, d)))
    → P (next_char s c)
stop_split s c p P b f g = go (next_char s c) refl
  where
    go : (x : Result (ℕ × Cursor) Cursor) → next_char s c ≡ x → P x
    go (Err d) e = f d
    go (Ok (k, d)) e = g k d (stopped s c d p b e)
