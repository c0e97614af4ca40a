-- Decimal digits: from the last one on as the code compares them, and what they spell.
use Rattle.std.proofs.Common.{◌≡◌, ℕ, zero, suc, ◌+◌, ◌-◌, ◌*◌, ◌/◌, ◌%◌, ◌<◌, ◌≤◌, false, ◌&&◌, eqb, ltb, [], ◌∷◌, ◌++◌, length, get_or, take, sym, refl, ap, ◌∙◌, ap₂, div-add-mod', arith, length-append, length-take, take-suc, ltb-false, ltb-true, le-ltb, lt-ltb, eq-eqb, ne_eqb}
use native.Mathlib.Nat.{add-sub_cancel_left}
use mathlib.Core.Bool.{and-true, and-false}
use mathlib.Core.List.{foldl, foldl-append}
use Rattle.base.specs.Bytes.{Bytes, same}
use Rattle.base.specs.Choice.{pick, by-test}
use Rattle.base.proofs.Compare.{same_lengths}
use Rattle.cascade.specs.Number.{spelt}
use Rattle.sheet.specs.Digits.{digits_in, natural_digits}

-- the bound does not matter
tenth : (n f : ℕ) → n < suc f → 10 ≤ n → n / 10 < f
tenth n f h l = omega (arith, div-add-mod' n 10)

bound : (f g n : ℕ) → n < f → n < g → digits_in f (ltb n 10) n ≡ digits_in g (ltb n 10) n
unfolding digits_in pick
bound zero g n h k = absurd (omega arith)
bound (suc f) zero n h k = absurd (omega arith)
bound (suc f) (suc g) n h k =
    by-test (ltb n 10)
    (λ t. rw t)
    (λ t.
    let l = ltb-false n 10 t in
    rw t (ap (λ (r : Bytes). r ++ ((48 + n % 10) ∷ [])) (bound f g (n / 10) (tenth n f h l) (tenth n g k l))))

pub natural_one : (n : ℕ) → n < 10 → natural_digits n ≡ (48 + n) ∷ []
unfolding natural_digits digits_in pick
natural_one n h = rw (lt-ltb n 10 h)

pub natural_more : (n : ℕ) → 10 ≤ n → natural_digits n ≡ natural_digits (n / 10) ++ ((48 + n % 10) ∷ [])
unfolding natural_digits digits_in pick
natural_more n h =
    rw (le-ltb n 10 h)
    (ap (λ (r : Bytes). r ++ ((48 + n % 10) ∷ [])) (bound n (suc (n / 10)) (n / 10) (tenth n n (omega arith) h) (omega arith)))

-- the digits spell the number
spelt_in : (f n : ℕ) → n < f → spelt (digits_in f (ltb n 10) n) ≡ n
unfolding digits_in pick spelt
spelt_in zero n h = absurd (omega arith)
spelt_in (suc f) n h =
    by-test (ltb n 10)
    (λ t. rw t (omega arith))
    (λ t.
    let l = ltb-false n 10 t in
    let i : foldl (λ (n b : ℕ). n * 10 + (b - 48)) 0 (digits_in f (ltb (n / 10) 10) (n / 10)) ≡ n / 10 =
    spelt_in f (n / 10) (tenth n f h l) in
    rw (
      t,
      foldl-append (λ (n b : ℕ). n * 10 + (b - 48)) 0 (digits_in f (ltb (n / 10) 10) (n / 10)) ((48 + n % 10) ∷ []),
      i,
      add-sub_cancel_left 48 (n % 10),
    )
    (div-add-mod' n 10))

pub natural_spelt : (n : ℕ) → spelt (natural_digits n) ≡ n
unfolding natural_digits
natural_spelt n = spelt_in (suc n) n (omega arith)

-- ---- from the last digit on

same_last : (a b : Bytes) (x y : ℕ) → same (a ++ (x ∷ [])) (b ++ (y ∷ [])) ≡ (same a b && eqb x y)
unfolding same
same_last [] [] x y = and-true (eqb x y)
same_last [] (c ∷ []) x y = and-false (eqb x c)
same_last [] (c ∷ d ∷ b) x y = and-false (eqb x c)
same_last (c ∷ []) [] x y = and-false (eqb c y)
same_last (c ∷ d ∷ a) [] x y = and-false (eqb c y)
same_last (c ∷ a) (d ∷ b) x y = by-test (eqb c d) (λ h. rw h (same_last a b x y)) (λ h. rw h)

module _ (v : Bytes) (i n : ℕ) where
  pub natural_end : i ≤ 0 → false ≡ same (take i v) (natural_digits n)
  natural_end h =
      let z : i ≡ 0 = omega arith in
      rw z (sym (same_lengths [] (natural_digits n) (λ e. by-test (ltb n 10)
      (λ t. let q = ap length (natural_one n (ltb-true n 10 t)) in omega arith)
      (λ t.
      let q = ap length (natural_more n (ltb-false n 10 t)) ∙ length-append (natural_digits (n / 10)) ((48 + n % 10) ∷ []) in
      omega arith))))

  module _ (l : i ≤ length v) where
    pub natural_long : (i ≡ 1 → ⊥) → n < 10 → false ≡ same (take i v) (natural_digits n)
    natural_long h s =
        rw (natural_one n s)
        (sym (same_lengths (take i v) ((48 + n) ∷ []) (λ e. omega (arith, length-take i v))))

    module _ (p : 0 < i) where
      last_of : take i v ≡ take (i - 1) v ++ (get_or v (i - 1) 0 ∷ [])
      last_of =
          let e : i ≡ suc (i - 1) = omega arith in
          ap (λ (k : ℕ). take k v) e ∙ take-suc v (i - 1) 0 (omega arith)

      pub natural_last : i ≡ 1 → n < 10 → eqb (get_or v (i - 1) 0) (48 + n) ≡ same (take i v) (natural_digits n)
      unfolding same
      natural_last h s =
          let z : i - 1 ≡ 0 = omega arith in
          sym
          (ap₂ same (last_of ∙ ap (λ (k : ℕ). take k v ++ (get_or v (i - 1) 0 ∷ [])) z) (natural_one n s)
          ∙ and-true (eqb (get_or v (i - 1) 0) (48 + n)))

      step :
          10 ≤ n
          → same (take i v) (natural_digits n) ≡ (same (take (i - 1) v) (natural_digits (n / 10)) && eqb (get_or v (i - 1) 0) (48 + n % 10))
      step s = ap₂ same last_of (natural_more n s) ∙ same_last (take (i - 1) v) (natural_digits (n / 10)) (get_or v (i - 1) 0) (48 + n % 10)

      pub natural_differ : 10 ≤ n → (get_or v (i - 1) 0 ≡ 48 + n % 10 → ⊥) → false ≡ same (take i v) (natural_digits n)
      natural_differ s h =
          sym
          (step s
          ∙ (rw (ne_eqb (get_or v (i - 1) 0) (48 + n % 10) h)
          (and-false (same (take (i - 1) v) (natural_digits (n / 10))))))

      pub natural_next :
          10 ≤ n
          → get_or v (i - 1) 0 ≡ 48 + n % 10
          → same (take (i - 1) v) (natural_digits (n / 10)) ≡ same (take i v) (natural_digits n)
      natural_next s h =
          sym
          (step s
          ∙ (rw (eq-eqb (get_or v (i - 1) 0) (48 + n % 10) h) (and-true (same (take (i - 1) v) (natural_digits (n / 10))))))

-- ---- of no number

pub same_none : (v : Bytes) → same v [] ≡ eqb (length v) 0
unfolding same
same_none [] = refl
same_none (b ∷ v) = sym (ne_eqb (length (b ∷ v)) 0 (λ z. omega arith))
