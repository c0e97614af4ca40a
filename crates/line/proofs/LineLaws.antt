-- Lines put in parts are written whole; the digits of a number, and the words of the maps.
use Prim.Native.Nat.{ℕ, ◌+◌, ◌*◌, ◌/◌, ◌%◌, ◌≤◌, ◌<◌, min}
use native.Mathlib.Numerals.{add-one}
use native.Mathlib.Omega.{arith}
use mathlib.Core.Path.{◌≡◌, refl, sym, ◌∙◌, ap, ap₂, subst}
use mathlib.Core.List.{List, [], ◌∷◌, ◌++◌, append_assoc}
use lib.ListN.{length, get_or, set, take, drop, length-append, drop_of_length-le}
use lib.Seq.{drop-cons, set_at}
use borrow.Author.Tests.{lt-ltb, le-ltb}
use Rattle.base.specs.Bytes.{Bytes}
use Rattle.base.specs.Choice.{if_true, if_false}
use Rattle.base.specs.Refusal.{numbers_of}
use Rattle.base.specs.declared.refusal.Refusal.{Refusal}
use Rattle.decode.specs.Decode.{name_at}
use Rattle.sheet.specs.Digits.{natural_digits}
use Rattle.digits.proofs.Written.{natural_one, natural_more}
use Rattle.walk.specs.Selectors.{layer_in}
use Rattle.line.specs.Lines.{blank_number, layer_line, property_line, refusal_line, written}
use Rattle.line.specs.Put.{put, put_all}

pair : {n m : ℕ} {x y : Bytes} → n ≡ m → x ≡ y → ◌≡◌ {A = ℕ × Bytes} (n, x) (m, y)
pair e f = ap₂ (λ (k : ℕ) (z : Bytes). (k, z)) e f

-- ---- one byte, and bytes

pub put_room : (n b : ℕ) (out : Bytes) → n < length out → ◌≡◌ {A = ℕ × Bytes} (n + 1, set out n b) (put (n, out) b)
unfolding put
put_room n b out h = if_true _ _ _ (lt-ltb n (length out) h) refl

pub put_full : (n b : ℕ) (out : Bytes) → length out ≤ n → ◌≡◌ {A = ℕ × Bytes} (n, out) (put (n, out) b)
unfolding put
put_full n b out h = if_false _ _ _ (le-ltb n (length out) h) refl

pub put_end : (p : ℕ × Bytes) (s : Bytes) (i : ℕ) → length s ≤ i → p ≡ put_all p (drop i s)
unfolding put_all
put_end p s i h = rw (drop_of_length-le s h)

pub put_more :
    (p q : ℕ × Bytes) (s : Bytes) (i : ℕ)
    → i < length s
    → q ≡ put p (get_or s i 0)
    → put_all q (drop (i + 1) s) ≡ put_all p (drop i s)
unfolding put_all
put_more p q s i h e = rw (e, add-one, drop-cons s i 0 h)

pub put_one : {q : ℕ × Bytes} (p : ℕ × Bytes) (b : ℕ) → q ≡ put p b → q ≡ put_all p (b ∷ [])
unfolding put_all
put_one p b e = e

pub put_next : {q r : ℕ × Bytes} (p : ℕ × Bytes) (b : ℕ) (s : Bytes) → q ≡ put p b → r ≡ put_all q s → r ≡ put_all p (b ∷ s)
unfolding put_all
put_next p b s e f = f ∙ ap (λ (q : ℕ × Bytes). put_all q s) e

put_append : (p : ℕ × Bytes) (a b : Bytes) → put_all p (a ++ b) ≡ put_all (put_all p a) b
unfolding put_all
put_append p [] b = refl
put_append p (x ∷ a) b = put_append (put p x) a b

-- in parts
pub put_join : {q r : ℕ × Bytes} (p : ℕ × Bytes) (a b : Bytes) → q ≡ put_all p a → r ≡ put_all q b → r ≡ put_all p (a ++ b)
put_join p a b e f = f ∙ ap (λ (q : ℕ × Bytes). put_all q b) e ∙ sym (put_append p a b)

-- ---- written whole

put_behind :
    (a out l : Bytes)
    → put_all (length a, a ++ out) l
    ≡ (length a + min (length l) (length out), a ++ (take (length out) l ++ drop (length l) out))
unfolding put_all put
put_behind a [] [] = pair (omega arith) refl
put_behind a (x ∷ out) [] = pair (omega arith) refl
put_behind a [] (b ∷ l) =
    let s : length (a ++ []) ≤ length a = omega (arith, length-append a []) in
    ap (λ (p : ℕ × Bytes). put_all p l) (sym (put_full (length a) b (a ++ []) s))
    ∙ put_behind a [] l
    ∙ pair (omega arith) (ap (λ (r : Bytes). a ++ r) (past l))
  where
    past : (l : Bytes) → take 0 l ++ drop (length l) [] ≡ take 0 (b ∷ l) ++ drop (length (b ∷ l)) []
    past [] = refl
    past (y ∷ l) = refl
put_behind a (x ∷ out) (b ∷ l) =
    let s : length a < length (a ++ (x ∷ out)) = omega (arith, length-append a (x ∷ out)) in
    let n : length (a ++ (b ∷ [])) ≡ length a + 1 = length-append a (b ∷ []) in
    let r : Bytes = take (length out) l ++ drop (length l) out in
    ap (λ (p : ℕ × Bytes). put_all p l)
    (sym (put_room (length a) b (a ++ (x ∷ out)) s)
    ∙ pair (sym n) (set_at a x out b (length a) refl ∙ sym (append_assoc a (b ∷ []) out)))
    ∙ put_behind (a ++ (b ∷ [])) out l
    ∙ pair (omega arith) (append_assoc a (b ∷ []) r)

pub put_whole : {p : ℕ × Bytes} (out l : Bytes) → p ≡ put_all (0, out) l → p ≡ written l out
put_whole out l e = e ∙ put_behind [] out l ∙ pair (omega arith) refl

-- ---- digits

pub digits_one : {q : ℕ × Bytes} (p : ℕ × Bytes) (x : ℕ) → x < 10 → q ≡ put p (48 + x % 10) → q ≡ put_all p (natural_digits x)
digits_one p x h e =
    let m : x % 10 ≡ x = omega arith in
    put_one p (48 + x) (e ∙ ap (λ (k : ℕ). put p (48 + k)) m) ∙ ap (put_all p) (sym (natural_one x h))

pub digits_more :
    {q r : ℕ × Bytes} (p : ℕ × Bytes) (x : ℕ)
    → 10 ≤ x
    → q ≡ put_all p (natural_digits (x / 10))
    → r ≡ put q (48 + x % 10)
    → r ≡ put_all p (natural_digits x)
digits_more {q = q} p x h e f =
    put_join p (natural_digits (x / 10)) ((48 + x % 10) ∷ []) e (put_one q (48 + x % 10) f)
    ∙ ap (put_all p) (sym (natural_more x h))

-- ---- the lines

module _ {p q r : ℕ × Bytes} (out : Bytes) where
  pub layer_done :
      (bundle : Bytes) (selectors t : List ℕ) (i w : ℕ)
      → p ≡ put_all (0, out) (108 ∷ 97 ∷ 121 ∷ 101 ∷ 114 ∷ 32 ∷ [])
      → w ≡ get_or t (i * 131) 0
      → q ≡ put_all p (layer_in bundle selectors w)
      → r ≡ put q 10
      → r ≡ written (layer_line (layer_in bundle selectors (get_or t (i * 131) 0))) out
  layer_done bundle selectors t i w e u f g =
      let l = layer_in bundle selectors w in
      put_whole out (layer_line l)
      (put_join (0, out) (108 ∷ 97 ∷ 121 ∷ 101 ∷ 114 ∷ 32 ∷ []) (l ++ (10 ∷ [])) e (put_join p l (10 ∷ []) f (put_one q 10 g)))
      ∙ ap (λ (s : ℕ). written (layer_line (layer_in bundle selectors s)) out) u

  pub property_done :
      (bundle : Bytes) (properties : List ℕ) (n m : ℕ) (name : Bytes)
      → m ≡ n
      → name ≡ name_at bundle properties m
      → p ≡ put_all (0, out) name
      → q ≡ put_all p (blank_number m)
      → r ≡ put q 10
      → r ≡ written (property_line (name_at bundle properties n) n) out
  property_done bundle properties n m name z l e f g =
      put_whole out (property_line name m)
      (put_join (0, out) name (blank_number m ++ (10 ∷ [])) e (put_join p (blank_number m) (10 ∷ []) f (put_one q 10 g)))
      ∙ ap (λ (k : Bytes). written (property_line k m) out) l
      ∙ ap (λ (k : ℕ). written (property_line (name_at bundle properties k) k) out) z

-- numbers, each behind a blank, and a newline
pub numbers : List ℕ → Bytes
numbers [] = 10 ∷ []
numbers (x ∷ xs) = blank_number x ++ numbers xs

pub numbers_more :
    {q : ℕ × Bytes} (p : ℕ × Bytes) (xs : List ℕ) (e : Refusal) (i : ℕ)
    → xs ≡ numbers_of e
    → i < 5
    → q ≡ put_all p (blank_number (get_or xs i 0))
    → put_all q (numbers (drop (i + 1) xs)) ≡ put_all p (numbers (drop i xs))
unfolding numbers
numbers_more p xs e i u h f =
    let l : i < length xs = subst (λ (n : ℕ). i < n) (sym (ap length u)) h in
    let k : drop i xs ≡ get_or xs i 0 ∷ drop (i + 1) xs = rw (add-one, drop-cons xs i 0 l) in
    put_join p (blank_number (get_or xs i 0)) (numbers (drop (i + 1) xs)) f refl
    ∙ ap (λ (t : List ℕ). put_all p (numbers t)) (sym k)

pub refusal_done :
    {p r : ℕ × Bytes} (q : ℕ × Bytes) (out : Bytes) (e : Refusal) (xs : List ℕ) (i : ℕ)
    → xs ≡ numbers_of e
    → 5 ≤ i
    → p ≡ put_all (0, out) (114 ∷ 101 ∷ 102 ∷ 117 ∷ 115 ∷ 101 ∷ 100 ∷ [])
    → put_all q (numbers (drop i xs)) ≡ put_all p (numbers xs)
    → r ≡ put q 10
    → r ≡ written (refusal_line e) out
unfolding numbers
refusal_done {p = p} q out e xs i u h e0 e1 e2 =
    let ys : List ℕ = numbers_of e in
    let f : put_all q (numbers (drop i ys)) ≡ put_all p (numbers ys) = ap (λ (t : List ℕ). put_all q (numbers (drop i t))) (sym u) ∙ e1 ∙ ap (λ (t : List ℕ). put_all p (numbers t)) u in
    put_whole out (refusal_line e)
    (put_join (0, out) (114 ∷ 101 ∷ 102 ∷ 117 ∷ 115 ∷ 101 ∷ 100 ∷ []) (numbers ys) e0
    (put_one q 10 e2 ∙ ap (λ (t : List ℕ). put_all q (numbers t)) (sym (drop_of_length-le ys h)) ∙ f))
