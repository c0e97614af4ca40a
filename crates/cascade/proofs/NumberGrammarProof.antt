-- Tag numbers and `layer` tags are read from exactly the texts of the grammar.
use Rattle.std.specs.Prelude.{ℕ, ◌≤◌, ◌≡◌, refl, ◌↔◌, ◌⊎◌, Bool, true, false, [], ◌∷◌, ◌++◌, map, eqb, leb, length, ℤ, pos, ◌-ℤ◌, Float}
use Rattle.std.proofs.Common.{arith, sym, ◌∙◌, ap, ap₂, subst, inl, inr, append-nil, eqb-true, ne_eqb, leb-true}
use Rattle.std.proofs.Math.Bool.{and-false}
use Rattle.std.proofs.Math.Option.{Option, none, some}
use Rattle.std.specs.Float.{nan, inf}
use Rattle.std.proofs.lemmas.Bool.{lt-leb}
use Rattle.base.specs.Bytes.{Bytes, ascii, same}
use Rattle.base.specs.Choice.{by-test, different, and_left, and_right}
use Rattle.base.proofs.Compare.{same_refl, same_true}
use Rattle.cascade.specs.Number.{is_minus, is_plus, is_dot, is_e, is_digit, lower_case, negative, unsigned, digits, after_digits, spelt, whole_number, with_sign, signed_number, in_i64, ranged, as_integer, Decimal, decimals, after_decimals, exponent_of, decimal_from, decimal_of, reads, malformed, value_of, unsigned_number, tag_number}
use Rattle.cascade.specs.NumberGrammar.{all_digits, Sign, absent, plus, minus, Fraction, dot, Exponent, written, Spells, Word, infinite, infinity, not_number, SpellsInteger}

-- ---- digits

digit_low : (b : ℕ) → is_digit b ≡ true → 48 ≤ b
digit_low b h = leb-true 48 b (and_left (leb 48 b) (leb b 57) h)

digit_high : (b : ℕ) → is_digit b ≡ true → b ≤ 57
digit_high b h = leb-true b 57 (and_right (leb 48 b) (leb b 57) h)

-- what does not begin with a digit
unfoldable Ends : Bytes → Type 0
Ends [] = Unit {0}
Ends (b ∷ s) = is_digit b ≡ false

digits_of : (ds r : Bytes) → all_digits ds ≡ true → Ends r → (digits (ds ++ r) ≡ ds) × (after_digits (ds ++ r) ≡ r)
unfolding digits after_digits all_digits Ends
digits_of [] [] a e = (refl, refl)
digits_of [] (b ∷ r) a e = ((rw e), (rw e))
digits_of (d ∷ ds) r a e =
    let h = and_left (is_digit d) (all_digits ds) a in
    let i = digits_of ds r (and_right (is_digit d) (all_digits ds) a) e in
    ((rw (h, i.0)), (rw (h, i.1)))

digits_all : (s : Bytes) → (all_digits (digits s) ≡ true) × (s ≡ digits s ++ after_digits s) × Ends (after_digits s)
unfolding digits after_digits all_digits Ends
digits_all [] = (refl, refl, tt)
digits_all (b ∷ s) =
    by-test (is_digit b)
    (λ h. let i = digits_all s in ((rw (h, h, i.0)), (rw h (ap (λ l. b ∷ l) i.1)), (rw h i.2)))
    (λ h. ((rw h), (rw h), (rw h h)))

whole_read : (d : ℕ) (ds : Bytes) → all_digits (d ∷ ds) ≡ true → whole_number (d ∷ ds) ≡ some (spelt (d ∷ ds))
unfolding whole_number Ends
whole_read d ds a =
    let i = digits_of (d ∷ ds) [] a tt in
    let e : after_digits (d ∷ ds) ≡ [] = ap after_digits (sym (append-nil (d ∷ ds))) ∙ i.1 in
    rw (e, same_refl [])

whole_spelt :
    (s : Bytes) (n : ℕ)
    → whole_number s ≡ some n
    → (d : ℕ) × (ds : Bytes) × (s ≡ d ∷ ds) × (all_digits (d ∷ ds) ≡ true) × (n ≡ spelt (d ∷ ds))
unfolding whole_number
whole_spelt [] n p = different cc
whole_spelt (d ∷ ds) n p =
    by-test (same (after_digits (d ∷ ds)) [])
    (λ h.
    let q = rw h at p in
    let i = digits_all (d ∷ ds) in
    let e = same_true (after_digits (d ∷ ds)) [] h in
    let f : d ∷ ds ≡ digits (d ∷ ds) = i.1 ∙ ap (λ r. digits (d ∷ ds) ++ r) e ∙ append-nil (digits (d ∷ ds)) in
    (d, ds, refl, ap all_digits f ∙ i.0, cc))
    (λ h. let u = rw h at p in different cc)

-- ---- signs

-- what does not begin with a sign
unfoldable Plain : Bytes → Type 0
Plain [] = Unit {0}
Plain (b ∷ s) = (is_minus b ≡ false) × (is_plus b ≡ false)

sign_read : (s t : Bytes) (m : Bool) → Sign s m → Plain t → (negative (s ++ t) ≡ m) × (unsigned (s ++ t) ≡ t)
unfolding negative unsigned Plain
sign_read s [] m absent p = (refl, refl)
sign_read s (b ∷ t) m absent p = (p.0, (rw (p.0, p.1)))
sign_read s t m plus p = (refl, refl)
sign_read s t m minus p = (refl, refl)

sign_spelt : (v : Bytes) → (s : Bytes) × Sign s (negative v) × (v ≡ s ++ unsigned v)
unfolding negative unsigned
sign_spelt [] = ([], absent, refl)
sign_spelt (b ∷ v) =
    by-test (is_minus b)
    (λ p. (45 ∷ [], (rw p minus), (rw (p, eqb-true b 45 p))))
    (λ p.
    by-test (is_plus b)
    (λ q. (43 ∷ [], (rw p plus), (rw (p, q, eqb-true b 43 q))))
    (λ q. ([], (rw p absent), (rw (p, q)))))

-- ---- fraction and exponent

exponent_read : (x : Bytes) (e : ℤ) → Exponent x e → exponent_of x ≡ some e
unfolding exponent_of Plain all_digits
exponent_read x e absent = refl
exponent_read x e (written b s m d ds h g a) =
    let i = and_left (is_digit d) (all_digits ds) a in
    let l = digit_low d i in
    let r = sign_read s (d ∷ ds) m g (ne_eqb d 45 (λ z. omega arith), ne_eqb d 43 (λ z. omega arith)) in
    rw (h, r.0, r.1, whole_read d ds a)

exponent_spelt : (x : Bytes) (e : ℤ) → exponent_of x ≡ some e → Exponent x e
unfolding exponent_of
exponent_spelt [] e p = let q : pos 0 ≡ e = cc in subst (λ y. Exponent [] y) q absent
exponent_spelt (b ∷ s) e p =
    by-test (is_e b)
    (λ h. numbered (whole_number (unsigned s)) refl h (rw h at p))
    (λ h. let u = rw h at p in different cc)
  where
    numbered :
        (o : Option ℕ)
        → whole_number (unsigned s) ≡ o
        → is_e b ≡ true
        → signed_number (negative s) (whole_number (unsigned s)) ≡ some e
        → Exponent (b ∷ s) e
    numbered none q h r = let u = rw q at r in different cc
    numbered (some n) q h r =
        let g = sign_spelt s in
        let w = whole_spelt (unsigned s) n q in
        let i = rw q at r in
        let j : with_sign (negative s) n ≡ e = cc in
        let text : g.0 ++ (w.0 ∷ w.1) ≡ s = ap (λ y. g.0 ++ y) (sym w.2) ∙ sym g.2 in
        let value : with_sign (negative s) (spelt (w.0 ∷ w.1)) ≡ e = ap (with_sign (negative s)) (sym w.4) ∙ j in
        subst (λ y. Exponent (b ∷ y) e) text
        (subst (λ y. Exponent (b ∷ (g.0 ++ (w.0 ∷ w.1))) y) value
        (written b g.0 (negative s) w.0 w.1 h g.1 w.3))

e_is : (b : ℕ) → is_e b ≡ true → (is_dot b ≡ false) × (is_digit b ≡ false)
e_is b h =
    by-test (eqb b 101)
    (λ p. let q = eqb-true b 101 p in (ne_eqb b 46 (λ z. omega arith), (rw (lt-leb b 57 (omega arith), and-false))))
    (λ p.
    let q = eqb-true b 69 (rw p at h) in
    (ne_eqb b 46 (λ z. omega arith), (rw (lt-leb b 57 (omega arith), and-false))))

exponent_ends : (x : Bytes) (e : ℤ) → Exponent x e → Ends x × (decimals x ≡ []) × (after_decimals x ≡ x)
unfolding Ends decimals after_decimals
exponent_ends x e absent = (tt, refl, refl)
exponent_ends x e (written b s m d ds h g a) = let i = e_is b h in (i.1, (rw i.0), (rw i.0))

fraction_read :
    (f fs x : Bytes) (e : ℤ)
    → Fraction f fs
    → Exponent x e
    → Ends (f ++ x) × (decimals (f ++ x) ≡ fs) × (after_decimals (f ++ x) ≡ x)
unfolding Ends decimals after_decimals
fraction_read f fs x e absent g = exponent_ends x e g
fraction_read f fs x e (dot a) g = let i = digits_of fs x a (exponent_ends x e g).0 in (refl, i.0, i.1)

fraction_spelt : (r : Bytes) → (f : Bytes) × Fraction f (decimals r) × (r ≡ f ++ after_decimals r)
unfolding decimals after_decimals
fraction_spelt [] = ([], absent, refl)
fraction_spelt (b ∷ s) =
    by-test (is_dot b)
    (λ p.
    let i = digits_all s in
    (46 ∷ digits s, (rw p (dot i.0)), (rw p (ap₂ ◌∷◌ (eqb-true b 46 p) i.1))))
    (λ p. ([], (rw p absent), (rw p)))

-- ---- decimals

abbrev decimal : Bool → Bytes → Bytes → ℤ → Decimal
decimal s ds fs e = record { minus = s; mantissa = spelt (ds ++ fs); exponent = e -ℤ pos (length fs) }

from_read : (s : Bool) (ds fs : Bytes) (e : ℤ) → (ds ++ fs ≡ [] → ⊥) → decimal_from s ds fs (some e) ≡ some (decimal s ds fs e)
unfolding decimal_from
from_read s [] [] e h = absurd (h refl)
from_read s (d ∷ ds) fs e h = refl
from_read s [] (f ∷ fs) e h = refl

from_spelt :
    (s : Bool) (ds fs : Bytes) (e : ℤ) (n : Decimal)
    → decimal_from s ds fs (some e) ≡ some n
    → (ds ++ fs ≡ [] → ⊥) × (decimal s ds fs e ≡ n)
unfolding decimal_from
from_spelt s [] [] e n p = different cc
from_spelt s (d ∷ ds) fs e n p = (λ q. different cc, cc)
from_spelt s [] (f ∷ fs) e n p = (λ q. different cc, cc)

decimal_read :
    (v : Bytes) (n : Decimal) (s : Spells v n)
    → decimal_of n.minus (s.whole ++ (s.fraction ++ s.exponent)) ≡ some n
decimal_read v n s =
    let f = fraction_read s.fraction s.decimals s.exponent s.power s.fractional s.scaled in
    let d = digits_of s.whole (s.fraction ++ s.exponent) s.digits f.0 in
    rw (d.0, d.1, f.1, f.2, exponent_read s.exponent s.power s.scaled)
    (from_read n.minus s.whole s.decimals s.power s.some
    ∙ ap₂ (λ a b. some (record { minus = n.minus; mantissa = a; exponent = b })) (sym s.mantissa_is) (sym s.exponent_is))

-- ---- the whole text

-- digits and dots are no signs and no letters
abbrev Starts : Bytes → Type 0
Starts t = (b : ℕ) × (r : Bytes) × (t ≡ b ∷ r) × (46 ≤ b) × (b ≤ 57)

starts_digit : (d : ℕ) (ds r : Bytes) → all_digits (d ∷ ds) ≡ true → Starts ((d ∷ ds) ++ r)
unfolding all_digits
starts_digit d ds r a =
    let h = and_left (is_digit d) (all_digits ds) a in
    let l = digit_low d h in
    (d, ds ++ r, refl, omega arith, digit_high d h)

starts_dot : (f fs x : Bytes) → Fraction f fs → (fs ≡ [] → ⊥) → Starts (f ++ x)
starts_dot f fs x absent h = absurd (h refl)
starts_dot f fs x (dot a) h = (46, fs ++ x, refl, omega arith, omega arith)

starts : (ds f fs x : Bytes) → all_digits ds ≡ true → Fraction f fs → (ds ++ fs ≡ [] → ⊥) → Starts (ds ++ (f ++ x))
starts [] f fs x a g h = starts_dot f fs x g h
starts (d ∷ ds) f fs x a g h = starts_digit d ds (f ++ x) a

plain_start : (t : Bytes) → Starts t → Plain t
unfolding Plain
plain_start t s =
    let l = s.3 in
    rw s.2 (ne_eqb s.0 45 (λ z. omega arith), ne_eqb s.0 43 (λ z. omega arith))

no_word : (t : Bytes) (w : ℕ) (ws : Bytes) → Starts t → 58 ≤ w → same (map lower_case t) (w ∷ ws) ≡ false
unfolding same
no_word t w ws s h =
    let l = s.4 in
    rw (s.2, lt-leb 65 s.0 (omega arith), ne_eqb s.0 w (λ z. omega arith))

plain_spelt : (v : Bytes) (n : Decimal) (s : Spells v n) → Starts (s.whole ++ (s.fraction ++ s.exponent))
plain_spelt v n s = starts s.whole s.fraction s.decimals s.exponent s.digits s.fractional s.some

decimal_of_lem : (v : Bytes) (n : Decimal) → Spells v n → decimal_of (negative v) (unsigned v) ≡ some n
decimal_of_lem v n s =
    let t = s.whole ++ (s.fraction ++ s.exponent) in
    let g = sign_read s.sign t n.minus s.signed (plain_start t (plain_spelt v n s)) in
    rw (s.text, g.0, g.1) (decimal_read v n s)

-- a text spells one decimal at most
pub spelt_one : (v : Bytes) (n m : Decimal) → Spells v n → Spells v m → n ≡ m
spelt_one v n m s t = let a = decimal_of_lem v n s in let b = decimal_of_lem v m t in cc

-- a text that spells a decimal is read as that decimal
pub spelt_reads : (v : Bytes) (n : Decimal) → Spells v n → tag_number v ≡ value_of (some n)
unfolding tag_number unsigned_number
spelt_reads v n s =
    let t = s.whole ++ (s.fraction ++ s.exponent) in
    let a = plain_spelt v n s in
    let g = sign_read s.sign t n.minus s.signed (plain_start t a) in
    ap tag_number s.text
    ∙ (rw (
      g.0,
      g.1,
      no_word t 105 (110 ∷ 102 ∷ []) a (omega arith),
      no_word t 105 (110 ∷ 102 ∷ 105 ∷ 110 ∷ 105 ∷ 116 ∷ 121 ∷ []) a (omega arith),
      no_word t 110 (97 ∷ 110 ∷ []) a (omega arith),
      decimal_read v n s,
    ))

-- a word is read as its value
plain_word : (t : Bytes) (w : ℕ) (ws : Bytes) → map lower_case t ≡ w ∷ ws → 58 ≤ w → Plain t
unfolding Plain
plain_word [] w ws e h = tt
plain_word (b ∷ t) w ws e h =
    let q : lower_case b ≡ w = cc in (
      ne_eqb b 45 (λ z. let p : lower_case 45 ≡ w = ap lower_case (sym z) ∙ q in omega arith),
      ne_eqb b 43 (λ z. let p : lower_case 43 ≡ w = ap lower_case (sym z) ∙ q in omega arith),
    )

pub word_reads : (v : Bytes) (x : Float) → Word v x → tag_number v ≡ reads x
unfolding tag_number unsigned_number same
word_reads v x (infinite s t m g e) =
    let r = sign_read s t m g (plain_word t 105 (110 ∷ 102 ∷ []) e (omega arith)) in
    rw (r.0, r.1, e)
word_reads v x (infinity s t m g e) =
    let r = sign_read s t m g (plain_word t 105 (110 ∷ 102 ∷ 105 ∷ 110 ∷ 105 ∷ 116 ∷ 121 ∷ []) e (omega arith)) in
    rw (r.0, r.1, e)
word_reads v x (not_number s t m g e) =
    let r = sign_read s t m g (plain_word t 110 (97 ∷ 110 ∷ []) e (omega arith)) in
    rw (r.0, r.1, e)

-- what is read as a decimal spells it
decimal_spelt : (v : Bytes) (n : Decimal) → decimal_of (negative v) (unsigned v) ≡ some n → Spells v n
unfolding decimal_from
decimal_spelt v n p = go (exponent_of (after_decimals (after_digits (unsigned v)))) refl
  where
    rest : Bytes
    rest = after_digits (unsigned v)

    go : (o : Option ℤ) → exponent_of (after_decimals rest) ≡ o → Spells v n
    go none q = let u = rw q at p in different cc
    go (some e) q =
        let g = sign_spelt v in
        let i = digits_all (unsigned v) in
        let f = fraction_spelt rest in
        let d = from_spelt (negative v) (digits (unsigned v)) (decimals rest) e n (rw q at p) in
        record {
          sign = g.0;
          whole = digits (unsigned v);
          fraction = f.0;
          decimals = decimals rest;
          exponent = after_decimals rest;
          power = e;
          text = g.2 ∙ ap (λ y. g.0 ++ y) (i.1 ∙ ap (λ y. digits (unsigned v) ++ y) f.2);
          signed = subst (λ b. Sign g.0 b) (ap (λ y. y.minus) d.1) g.1;
          digits = i.0;
          fractional = f.1;
          scaled = exponent_spelt (after_decimals rest) e q;
          some = d.0;
          mantissa_is = sym (ap (λ y. y.mantissa) d.1);
          exponent_is = sym (ap (λ y. y.exponent) d.1);
        }

-- every text spells a decimal, is a word, or is malformed
pub numbers_only_lem : (v : Bytes) → ((n : Decimal) × Spells v n) ⊎ (((x : Float) × Word v x) ⊎ (tag_number v ≡ malformed))
unfolding tag_number unsigned_number value_of
numbers_only_lem v =
    by-test (same l (ascii "inf"))
    (λ p.
    inr
    (inl (
      inf (negative v),
      subst
          (λ y. Word y (inf (negative v)))
          (sym g.2)
          (infinite g.0 (unsigned v) (negative v) g.1 (same_true l (ascii "inf") p)),
    )))
    (λ p.
    by-test (same l (ascii "infinity"))
    (λ q.
    inr
    (inl (
      inf (negative v),
      subst
          (λ y. Word y (inf (negative v)))
          (sym g.2)
          (infinity g.0 (unsigned v) (negative v) g.1 (same_true l (ascii "infinity") q)),
    )))
    (λ q.
    by-test (same l (ascii "nan"))
    (λ r.
    inr
    (inl (
      nan,
      subst
          (λ y. Word y nan)
          (sym g.2)
          (not_number g.0 (unsigned v) (negative v) g.1 (same_true l (ascii "nan") r)),
    )))
    (λ r. go (decimal_of (negative v) (unsigned v)) refl p q r)))
  where
    l : Bytes
    l = map lower_case (unsigned v)

    g : (s : Bytes) × Sign s (negative v) × (v ≡ s ++ unsigned v)
    g = sign_spelt v

    go :
        (o : Option Decimal)
        → decimal_of (negative v) (unsigned v) ≡ o
        → same l (ascii "inf") ≡ false
        → same l (ascii "infinity") ≡ false
        → same l (ascii "nan") ≡ false
        → ((n : Decimal) × Spells v n) ⊎ (((x : Float) × Word v x) ⊎ (tag_number v ≡ malformed))
    go none d p q r = inr (inr (rw (p, q, r, d)))
    go (some n) d p q r = inl (n, decimal_spelt v n d)

-- ---- the tag `layer`

pub integer_exactly : (v : Bytes) (i : ℤ) → (as_integer v ≡ some i) ↔ SpellsInteger v i
unfolding as_integer ranged Plain all_digits
integer_exactly v i = (there, back)
  where
    kept : (j : ℤ) → ranged (some j) ≡ some i → (j ≡ i) × (in_i64 i ≡ true)
    kept j p =
        by-test (in_i64 j)
        (λ h. let q = rw h at p in let e : j ≡ i = cc in (e, (rw (← e) h)))
        (λ h. let u = rw h at p in different cc)

    found : (o : Option ℕ) → whole_number (unsigned v) ≡ o → as_integer v ≡ some i → SpellsInteger v i
    found none q p = let u = rw q at p in different cc
    found (some n) q p =
        let g = sign_spelt v in
        let w = whole_spelt (unsigned v) n q in
        let k = kept (with_sign (negative v) n) (rw q at p) in
        record {
          sign = g.0;
          minus = negative v;
          first = w.0;
          others = w.1;
          text = g.2 ∙ ap (λ y. g.0 ++ y) w.2;
          signed = g.1;
          digits = w.3;
          value = sym k.0 ∙ ap (with_sign (negative v)) w.4;
          in_range = k.1;
        }

    there : as_integer v ≡ some i → SpellsInteger v i
    there p = found (whole_number (unsigned v)) refl p

    back : SpellsInteger v i → as_integer v ≡ some i
    back s =
        let l = digit_low s.first (and_left (is_digit s.first) (all_digits s.others) s.digits) in
        let g =
        sign_read s.sign (s.first ∷ s.others) s.minus s.signed
        (ne_eqb s.first 45 (λ z. omega arith), ne_eqb s.first 43 (λ z. omega arith)) in
        rw (s.text, g.0, g.1, whole_read s.first s.others s.digits, ← s.value, s.in_range)
