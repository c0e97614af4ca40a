-- Digits and words of a text, as the code goes through them.
use Prim.Native.Nat.{ℕ, ◌+◌}
use native.Mathlib.Omega.{arith}
use mathlib.Core.Path.{◌≡◌, refl, sym, ◌∙◌, ap}
use mathlib.Core.Bool.{Bool, true, false, not}
use mathlib.Core.List.{[], ◌∷◌, ◌++◌, map}
use lib.Dec.{eqb, ltb}
use lib.ListN.{length, take, drop, length-append}
use lib.Seq.{take-append_seam, drop-append_seam}
use borrow.Author.Tests.{eq-eqb, ne_eqb, ltb-false, ltb-true, le-leb, lt-leb}
use Rattle.base.specs.Bytes.{Bytes, same}
use Rattle.base.specs.Choice.{by-test}
use Rattle.base.proofs.Compare.{same_refl, same_false}
use Rattle.std.proofs.Common.{ap₂, true≢false}
use Rattle.std.specs.Bool.{IsTrue}
use Rattle.std.specs.Char.{to_ascii_lowercase}
use mathlib.Core.Logic.{◌↔◌}
use Rattle.std.specs.List.{prefix_len}
use Rattle.std.specs.Prelude.{position, unwrap_or}
use Rattle.cascade.specs.Number.{is_digit, lower_case, digits, after_digits}
use Rattle.tag_number.specs.Grown.{whole_text}

-- ---- digits

pub digits_split : (s : Bytes) → s ≡ digits s ++ after_digits s
unfolding digits after_digits
digits_split [] = refl
digits_split (b ∷ s) = by-test (is_digit b) (λ h. rw h (ap (λ (l : Bytes). b ∷ l) (digits_split s))) (λ h. rw h)

pub digits_length : (s : Bytes) → length (digits s) + length (after_digits s) ≡ length s
digits_length s = sym (length-append (digits s) (after_digits s)) ∙ ap length (sym (digits_split s))

pub digits_taken : (s : Bytes) → take (length (digits s)) s ≡ digits s
digits_taken s = ap (take (length (digits s))) (digits_split s) ∙ take-append_seam (digits s) (after_digits s)

pub digits_dropped : (s : Bytes) → drop (length (digits s)) s ≡ after_digits s
digits_dropped s = ap (drop (length (digits s))) (digits_split s) ∙ drop-append_seam (digits s) (after_digits s)

-- a text that is all digits
pub whole_none : (s : Bytes) → length s ≡ 0 → false ≡ whole_text s
unfolding whole_text
whole_none [] h = refl
whole_none (b ∷ s) h = absurd (omega arith)

pub whole_all : (s : Bytes) (n : ℕ) → (length s ≡ 0 → ⊥) → n ≡ length (digits s) → eqb n (length s) ≡ whole_text s
unfolding whole_text same
whole_all [] n h e = absurd (h refl)
whole_all (b ∷ s) n h e = go (after_digits (b ∷ s)) (digits_length (b ∷ s))
  where
    go : (r : Bytes) → length (digits (b ∷ s)) + length r ≡ length (b ∷ s) → eqb n (length (b ∷ s)) ≡ same r []
    go [] q = eq-eqb n (length (b ∷ s)) (omega arith)
    go (x ∷ r) q = ne_eqb n (length (b ∷ s)) (λ z. omega arith)

-- ---- words

lowered_byte : (b : ℕ) → to_ascii_lowercase b ≡ lower_case b
lowered_byte b =
    by-test (ltb b 65)
    (λ h. rw (h, lt-leb 65 b (ltb-true b 65 h)))
    (λ h.
    let l = ltb-false b 65 h in
    by-test (ltb b 91)
    (λ k. let m = ltb-true b 91 k in rw (h, k, le-leb 65 b l, le-leb b 90 (omega arith)))
    (λ k. let m = ltb-false b 91 k in rw (h, k, le-leb 65 b l, lt-leb b 90 (omega arith))))

lowered : (s : Bytes) → map to_ascii_lowercase s ≡ map lower_case s
lowered [] = refl
lowered (b ∷ s) = ap₂ (λ (b : ℕ) (s : Bytes). b ∷ s) (lowered_byte b) (lowered s)

-- two texts that differ at most in case
pub words_same :
    (t w : Bytes) (r : Bool)
    → IsTrue r ↔ (map to_ascii_lowercase t ≡ map to_ascii_lowercase w)
    → r ≡ same (map lower_case t) (map lower_case w)
words_same t w true h = sym (ap (λ l. same l (map lower_case w)) (sym (lowered t) ∙ h.0 refl ∙ lowered w) ∙ same_refl (map lower_case w))
words_same t w false h =
    sym (same_false (map lower_case t) (map lower_case w) (λ e. absurd (true≢false (sym (h.1 (lowered t ∙ e ∙ sym (lowered w)))))))

-- the digits end where the first byte is that is none
digits_prefix : (s : Bytes) → prefix_len (λ b. not (not (is_digit b))) s ≡ length (digits s)
unfolding digits
digits_prefix [] = refl
digits_prefix (b ∷ s) = let p = digits_prefix s in by-test (is_digit b) (λ h. rw h (omega arith)) (λ h. rw h)

pub count_position : (s : Bytes) → unwrap_or (position (λ b. not (is_digit b)) s) (length s) ≡ length (digits s)
count_position s =
    let p = digits_prefix s in
    let a = ap length (digits_split s) in
    let l = length-append (digits s) (after_digits s) in
    by-test (ltb (prefix_len (λ b. not (not (is_digit b))) s) (length s))
    (λ e. rw e p)
    (λ e. let h = ltb-false _ _ e in rw e (omega arith))
