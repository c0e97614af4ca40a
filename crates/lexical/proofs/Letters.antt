-- Letters, digits and signs are different characters, and the bytes of a name are its characters.
use Prim.Native.Nat.{ℕ, ◌+◌, ◌-◌, ◌<◌, ◌≤◌}
use native.Mathlib.Omega.{arith}
use mathlib.Core.Path.{◌≡◌, refl, sym, ◌∙◌, ap}
use mathlib.Core.Bool.{Bool, true, false, ◌||◌}
use mathlib.Core.List.{List, [], ◌∷◌, ◌++◌}
use lib.Dec.{eqb, ltb, leb}
use lib.ListN.{length, get_or, take, drop, take-append-drop}
use lib.Seq.{take-append-add, drop-drop}
use borrow.Author.Tests.{eqb-true, ltb-true, ltb-false, leb-true, lt-ltb, le-ltb, le-leb, lt-leb}
use Rattle.base.specs.Bytes.{Bytes, within, between}
use Rattle.base.specs.Choice.{pick, by-test, clash, and_right}
use Rattle.scalar.specs.Scalar.{encode_of}
use Rattle.space.specs.Space.{white_space, among, is_white_space}
use Rattle.utf8.specs.Utf8.{char_at, spelled}
use Rattle.utf8.proofs.Inverse.{encode_decode}
use Rattle.cursor.specs.Class.{in_span, can_be_in_at_directive, can_start_identifier, digit_value}
use Rattle.cursor.specs.declared.Cursor.{Cursor}
use Rattle.token.specs.Read.{range}
use Rattle.token_kind.specs.Signs.{Spelled, two_letter, one_letter, is_pair, first_pair, first_letter, get_two_char_simple_token, get_one_char_simple_token}
use Rattle.lexical.specs.Lexical.{Chars, is_digit, Run, none, one}
use Rattle.lexical.specs.Lexed.{Reads, nothing, next}
use Rattle.lexical.proofs.Characters.{Walk, walk_reads}
use Rattle.std.specs.Prelude.{Some, None}

-- a character of a class is none outside it
pub apart : (p : ℕ → Bool) (k n : ℕ) → p k ≡ true → p n ≡ false → eqb k n ≡ false
apart p k n h g = by-test (eqb k n) (λ t. clash h (ap p (eqb-true k n t) ∙ g)) (λ t. t)

pub apart' : (p : ℕ → Bool) (k n : ℕ) → p k ≡ true → p n ≡ false → eqb n k ≡ false
apart' p k n h g = by-test (eqb n k) (λ t. clash h (ap p (sym (eqb-true n k t)) ∙ g)) (λ t. t)

-- whether none of these characters is in the class
abbrev outside : (ℕ → Bool) → List ℕ → Bool
outside p [] = true
outside p (n ∷ ns) = pick (p n) false (outside p ns)

abbrev letters : List Spelled → List ℕ
letters [] = []
letters (e ∷ es) = get_or e.letters 0 0 ∷ letters es

module _ (p : ℕ → Bool) (k : ℕ) (h : p k ≡ true) where
  no_letter : (es : List Spelled) → outside p (letters es) ≡ true → first_letter es k ≡ None
  unfolding first_letter pick
  no_letter [] o = refl
  no_letter (e ∷ es) o =
      by-test (p (get_or e.letters 0 0))
      (λ t. clash o (ap (λ b. pick b false (outside p (letters es))) t))
      (λ t.
      ap (λ b. pick b (Some e.token) (first_letter es k)) (apart p k (get_or e.letters 0 0) h t)
      ∙ no_letter es (sym (ap (λ b. pick b false (outside p (letters es))) t) ∙ o))

  no_pair : (es : List Spelled) (j : ℕ) → outside p (letters es) ≡ true → first_pair es k j ≡ None
  unfolding first_pair is_pair pick
  no_pair [] j o = refl
  no_pair (e ∷ es) j o =
      by-test (p (get_or e.letters 0 0))
      (λ t. clash o (ap (λ b. pick b false (outside p (letters es))) t))
      (λ t.
      ap (λ b. pick (pick b (eqb (get_or e.letters 1 0) j) false) (Some e.token) (first_pair es k j)) (apart' p k (get_or e.letters 0 0) h t)
      ∙ no_pair es j (sym (ap (λ b. pick b false (outside p (letters es))) t) ∙ o))

  not_among : (ns : List ℕ) → outside p ns ≡ true → among k ns ≡ false
  unfolding among pick
  not_among [] o = refl
  not_among (n ∷ ns) o =
      by-test (p n)
      (λ t. clash o (ap (λ b. pick b false (outside p ns)) t))
      (λ t.
      ap (λ b. b || among k ns) (apart p k n h t) ∙ not_among ns (sym (ap (λ b. pick b false (outside p ns)) t) ∙ o))

pub starts_no_sign : (k : ℕ) → can_start_identifier k ≡ true → get_one_char_simple_token k ≡ None
unfolding get_one_char_simple_token can_start_identifier pick
starts_no_sign k h = no_letter can_start_identifier k h one_letter refl

pub starts_no_pair : (k j : ℕ) → can_start_identifier k ≡ true → get_two_char_simple_token k j ≡ None
unfolding get_two_char_simple_token can_start_identifier pick
starts_no_pair k j h = no_pair can_start_identifier k h two_letter j refl

pub starts_no_space : (k : ℕ) → can_start_identifier k ≡ true → is_white_space k ≡ false
unfolding is_white_space can_start_identifier pick
starts_no_space k h = not_among can_start_identifier k h white_space refl

pub digit_no_sign : (k : ℕ) → is_digit k ≡ true → get_one_char_simple_token k ≡ None
unfolding get_one_char_simple_token digit_value pick
digit_no_sign k h = no_letter is_digit k h one_letter refl

pub digit_no_pair : (k j : ℕ) → is_digit k ≡ true → get_two_char_simple_token k j ≡ None
unfolding get_two_char_simple_token digit_value pick
digit_no_pair k j h = no_pair is_digit k h two_letter j refl

pub digit_no_space : (k : ℕ) → is_digit k ≡ true → is_white_space k ≡ false
unfolding is_white_space digit_value pick
digit_no_space k h = not_among is_digit k h white_space refl

pub directive_no_space : (k : ℕ) → can_be_in_at_directive k ≡ true → is_white_space k ≡ false
unfolding is_white_space can_be_in_at_directive pick
directive_no_space k h = not_among can_be_in_at_directive k h white_space refl

-- the digits are 0 to 9
pub digit_span : (k : ℕ) → in_span 48 57 k ≡ is_digit k
unfolding digit_value pick
digit_span k =
    by-test (ltb k 48)
    (λ t. let h = ltb-true k 48 t in rw (t, lt-leb 48 k h) refl)
    λ t.
    let h = ltb-false k 48 t in
    by-test (ltb k 58)
    (λ u. let g = ltb-true k 58 u in rw (t, u, le-leb 48 k h, le-leb k 57 (omega arith), lt-ltb (k - 48) 10 (omega arith)) refl)
    λ u.
    let g = ltb-false k 58 u in
    by-test (ltb k 65)
    (λ v. rw (t, u, v, le-leb 48 k h, lt-leb k 57 (omega arith)) refl)
    λ v.
    let f = ltb-false k 65 v in
    by-test (ltb k 91)
    (λ w. rw (t, u, v, w, le-leb 48 k h, lt-leb k 57 (omega arith), le-ltb (k - 55) 10 (omega arith)) refl)
    λ w.
    by-test (ltb k 97)
    (λ x. rw (t, u, v, w, x, le-leb 48 k h, lt-leb k 57 (omega arith)) refl)
    λ x.
    let e = ltb-false k 97 x in
    by-test (ltb k 123)
    (λ y. rw (t, u, v, w, x, y, le-leb 48 k h, lt-leb k 57 (omega arith), le-ltb (k - 87) 10 (omega arith)) refl)
    (λ y. rw (t, u, v, w, x, y, le-leb 48 k h, lt-leb k 57 (omega arith)) refl)

-- the bytes between two places are those of the characters read
pub reads_spelled : {s : Bytes} {from to : ℕ} {ks : Chars} → Reads s from ks to → (from ≤ to) × (between from to s ≡ spelled ks)
unfolding spelled char_at
reads_spelled {s} {from} nothing = let z : from - from ≡ 0 = omega arith in (omega arith, ap (λ n. take n (drop from s)) z)
reads_spelled {s} {from} {to} (next {k = k} {w = w} {ks = ks} q r) =
    let i = reads_spelled r in
    let o = i.0 in
    let e = encode_decode (drop from s) k w q in
    let l : length (encode_of k) + (to - (from + w)) ≡ to - from = let x = e.width in omega arith in
    let z : drop from s ≡ encode_of k ++ drop (from + w) s =
    sym (take-append-drop w (drop from s)) ∙ ap (λ x. x ++ drop w (drop from s)) e.bytes ∙ ap (λ x. encode_of k ++ x) (drop-drop w from s) in (
      omega arith,
      ap (λ n. take n (drop from s)) (sym l)
          ∙ ap (λ x. take (length (encode_of k) + (to - (from + w))) x) z
          ∙ take-append-add (encode_of k) (drop (from + w) s) (to - (from + w))
          ∙ ap (λ x. encode_of k ++ x) i.1,
    )

-- the characters of a word are bytes
low : (k : ℕ) → can_be_in_at_directive k ≡ true → k < 128
unfolding can_be_in_at_directive pick
low k h =
    by-test (eqb k 95) (λ t. let e = eqb-true k 95 t in omega arith) λ t.
    by-test (in_span 97 122 k)
    (λ u. let l = leb-true k 122 (and_right (leb 97 k) (leb k 122) u) in omega arith)
    (λ u. let l = leb-true k 57 (and_right (leb 48 k) (leb k 57) (rw (t, u) at h)) in omega arith)

word_spelled : (ks : Chars) → Run can_be_in_at_directive true ks → spelled ks ≡ ks
unfolding spelled encode_of pick
word_spelled [] none = refl
word_spelled (k ∷ ks) (one h r) =
    rw (lt-ltb k 0x80 (low k h)) (ap (λ x. k ∷ x) (word_spelled ks r))

pub word_bytes : {s : Bytes} {c d : Cursor} {ks : Chars} → Walk s c ks d → Run can_be_in_at_directive true ks → within (range c.at d.at) s ≡ ks
word_bytes {ks = ks} w r = (reads_spelled (walk_reads w)).1 ∙ word_spelled ks r
