-- A slice is UTF-8 exactly if it spells scalar values.
use Prim.Native.Nat.{ℕ, zero, suc, ◌+◌, ◌<◌, ◌≤◌}
use native.Mathlib.Omega.{arith}
use mathlib.Core.Path.{◌≡◌, refl, sym, ◌∙◌, ap, ap₂}
use mathlib.Core.Bool.{true, false}
use mathlib.Core.List.{List, [], ◌∷◌, ◌++◌}
use lib.ListN.{length, drop, take-append-drop, length-append}
use lib.Seq.{drop-append_seam, drop-drop}
use Rattle.base.specs.Bytes.{Bytes}
use Rattle.base.specs.Choice.{pick, by-test, clash}
use Rattle.base.specs.Turns.{turns}
use Rattle.scalar.specs.Scalar.{is_scalar, encode_of}
use Rattle.utf8.specs.Elim.{on-Char}
use Rattle.utf8.specs.Utf8.{Span, fits, gathered, by_row, well_formed, char_of, char_at, utf8_turn, is_utf8, spelled, AllScalar, none, next}
use Rattle.utf8.specs.declared.Char.{Char}
use Rattle.utf8.specs.declared.Char.TheVariants.{Bad, End, Code}
use Rattle.utf8.proofs.Inverse.{decode_encode, encode_decode}
use Rattle.utf8.proofs.Rows.{char_within}

by_char : {A : Type 0} (x : Char) → (x ≡ Bad → A) → (x ≡ End → A) → ((k w : ℕ) → x ≡ Code k w → A) → A
by_char Bad f g h = f refl
by_char End f g h = g refl
by_char (Code k w) f g h = h k w refl

-- a character is spelled by one byte at least
spelling : (k : ℕ) (s : Bytes) → is_scalar k ≡ true → 1 ≤ length (encode_of k)
unfolding char_at
spelling k s e = (char_within (encode_of k ++ []) 0 k (length (encode_of k)) (decode_encode k [] e)).0

-- what stands from a place on decides
module _ (s : Bytes) where
  goes : (ks : List ℕ) (n at : ℕ) → AllScalar ks → drop at s ≡ spelled ks → length (spelled ks) < n → turns (utf8_turn s) false n at ≡ true
  unfolding turns char_at on-Char spelled char_of
  goes [] zero at a e h = absurd (omega arith)
  goes [] (suc n) at a e h = rw e
  goes (k ∷ ks) zero at a e h = absurd (omega arith)
  goes (k ∷ ks) (suc n) at (next p a) e h =
      let w = length (encode_of k) in
      let c : char_of (drop at s) ≡ Code k w = ap char_of e ∙ decode_encode k (spelled ks) p in
      let d : drop (at + w) s ≡ spelled ks =
      sym (drop-drop w at s) ∙ ap (drop w) e ∙ drop-append_seam (encode_of k) (spelled ks) in
      let l = length-append (encode_of k) (spelled ks) in
      let m = spelling k [] p in
      rw c (goes ks n (at + w) a d (omega arith))

-- scalar values are UTF-8
pub utf8_spelled : (ks : List ℕ) → AllScalar ks → is_utf8 (spelled ks) ≡ true
unfolding is_utf8
utf8_spelled ks a = goes (spelled ks) ks (suc (length (spelled ks))) 0 a refl (omega arith)

-- the characters of a text
pub record Spelled (s : Bytes) : Type 0 where
  pub characters : List ℕ
  pub scalars : AllScalar characters
  pub is : s ≡ spelled characters

no_end : (rows : List (List Span)) (s : Bytes) → by_row rows s ≡ End → ⊥
unfolding by_row pick
no_end [] s e = cc
no_end (r ∷ rows) s e =
    by-test (fits r s)
    (λ t. let q : Code (gathered (length r) s) (length r) ≡ End = rw t at e in cc)
    (λ t. no_end rows s (rw t at e))

at_end : (s : Bytes) → char_of s ≡ End → s ≡ []
unfolding char_of
at_end [] e = refl
at_end (b ∷ s) e = absurd (no_end well_formed (b ∷ s) e)

module _ (s : Bytes) where
  came : (n at : ℕ) → turns (utf8_turn s) false n at ≡ true → Spelled (drop at s)
  unfolding turns char_at on-Char spelled
  came zero at e = clash e refl
  came (suc n) at e =
      by_char (char_of (drop at s))
      (λ c. clash (rw c at e) refl)
      (λ c. record { characters = []; scalars = none; is = at_end (drop at s) c })
      (λ k w c.
      let q : turns (utf8_turn s) false n (at + w) ≡ true = rw c at e in
      let r = came n (at + w) q in
      let o = encode_decode (drop at s) k w c in
      record {
        characters = k ∷ r.characters;
        scalars = next o.scalar r.scalars;
        is = sym (take-append-drop w (drop at s)) ∙ ap₂ ◌++◌ o.bytes (drop-drop w at s ∙ r.is);
      })

-- what is UTF-8 spells scalar values
pub utf8_characters : (s : Bytes) → is_utf8 s ≡ true → Spelled s
unfolding is_utf8
utf8_characters s e = came s (suc (length s)) 0 e
