-- In the exact case a tag number is the f64 nearest to the decimal's value, ties to even: both operands are exact and one operation rounds.
use Rattle.std.specs.Prelude.{ℕ, zero, suc, ◌*◌, ◌^◌, ◌<◌, ◌≤◌, ◌≡◌, refl, Bool, true, false, ◌&&◌, not, cond, T, eqb, leb, ltb, ℤ, pos, negsuc, Float}
use Rattle.std.proofs.Common.{mul_comm, mul-pos, mul-one, one-mul, zero-mul, zero-lt-suc, arith, sym, ◌∙◌, ap, ap₂, subst, eqb→eq, lit<, le-leb, eqb-true, ltb-true, leb-true}
use Rattle.std.proofs.Math.Nat.{mul-mul-mul_comm, one-le-pow}
use Rattle.std.proofs.Math.Option.{some}
use Rattle.std.proofs.Math.Dec.{eqb-suc-zero}
use Rattle.std.proofs.lemmas.Bool.{eqb-false}
use Rattle.std.specs.Float.{nan, inf, fin, Format, binary64}
use Rattle.std.specs.Float.Ieee.{up, down, round, of_int, neg, mul, div, unlike}
use Rattle.std.specs.Float.Ieee.Exact.{HasValue}
use Rattle.std.specs.Float.Ieee.Back.{round_whole}
use Rattle.std.specs.Float.Ieee.Fits.{up_pos, down_pos}
use Rattle.std.specs.Float.Ieee.Scale.{round_same}
use Rattle.base.specs.Choice.{by-test, and_left, and_right}
use Rattle.cascade.specs.Number.{whole, signed, scaled, reads, out_of_range, Decimal, value_of}

pub unlike_plus : (s : Bool) → unlike s false ≡ s
unlike_plus true = refl
unlike_plus false = refl

pub neg_value : (x : Float) (s : Bool) (a c : ℕ) → HasValue x s a c → HasValue (neg x) (not s) a c
unfolding neg
neg_value nan s a c v = v
neg_value (inf t) s a c v = v
neg_value (fin t m e) s a c v = (ap not v.0, v.1)

pub mul_value :
    (f : Format) (x y : Float) (s t : Bool) (a c b d : ℕ)
    → 0 < c
    → 0 < d
    → HasValue x s a c
    → HasValue y t b d
    → mul f x y ≡ round f (unlike s t) (a * b) (c * d)
unfolding mul
mul_value f nan y s t a c b d C D v w = absurd v
mul_value f (inf s') y s t a c b d C D v w = absurd v
mul_value f (fin s' m e) nan s t a c b d C D v w = absurd w
mul_value f (fin s' m e) (inf t') s t a c b d C D v w = absurd w
mul_value f (fin s' m e) (fin t' n k) s t a c b d C D v w =
    ap₂ (λ (x y : Bool). round f (unlike x y) (m * up e * (n * up k)) (down e * down k)) v.0 w.0
    ∙ round_same f (unlike s t) (m * up e * (n * up k)) (down e * down k) (a * b) (c * d) (mul-pos (down_pos e) (down_pos k)) (mul-pos C D)
    (mul-mul-mul_comm (m * up e) (n * up k) c d ∙ ap₂ (λ (x y : ℕ). x * y) v.1 w.1 ∙ mul-mul-mul_comm a (down e) b (down k))

pub div_value :
    (f : Format) (x y : Float) (s t : Bool) (a c b d : ℕ)
    → 0 < c
    → 0 < d
    → 0 < b
    → HasValue x s a c
    → HasValue y t b d
    → div f x y ≡ round f (unlike s t) (a * d) (c * b)
unfolding div
div_value f nan y s t a c b d C D B v w = absurd v
div_value f (inf s') y s t a c b d C D B v w = absurd v
div_value f (fin s' m e) nan s t a c b d C D B v w = absurd w
div_value f (fin s' m e) (inf t') s t a c b d C D B v w = absurd w
div_value f (fin s' m e) (fin t' zero k) s t a c b d C D B v w =
    let z : 0 ≡ b * down k = sym (simp zero-mul) ∙ w.1 in
    absurd (omega (arith, mul-pos B (down_pos k), z))
div_value f (fin s' m e) (fin t' (suc n) k) s t a c b d C D B v w =
    rw (eqb-suc-zero n)
    (ap₂ (λ (x y : Bool). round f (unlike x y) (m * up e * down k) (suc n * up k * down e)) v.0 w.0
    ∙ round_same f (unlike s t) (m * up e * down k) (suc n * up k * down e) (a * d) (c * b)
    (mul-pos (mul-pos (omega arith) (up_pos k)) (down_pos e)) (mul-pos C B)
    (mul-mul-mul_comm (m * up e) (down k) c b
    ∙ ap₂ (λ (x y : ℕ). x * y) v.1 (mul_comm (down k) b ∙ sym w.1 ∙ mul_comm (suc n * up k) d)
    ∙ mul-mul-mul_comm a (down e) d (suc n * up k)
    ∙ ap (λ (x : ℕ). a * d * x) (mul_comm (down e) (suc n * up k))))

-- the powers of ten up to 10 ^ 22 are exact
abbrev is_ten : ℕ → Float → Bool
is_ten k (fin false m e) = eqb (m * up e * 1) (10 ^ k * down e)
is_ten k x = false

ten_value : (k : ℕ) (x : Float) → T (is_ten k x) → HasValue x false (10 ^ k) 1
ten_value k (fin false m e) t = (refl, eqb→eq (m * up e * 1) (10 ^ k * down e) t)
ten_value k x t = absurd t

unfoldable tens : ℕ → Bool
tens zero = is_ten 0 (whole (10 ^ 0))
tens (suc n) = is_ten (suc n) (whole (10 ^ suc n)) && tens n

tens_to : (n k : ℕ) → k ≤ n → tens n ≡ true → HasValue (whole (10 ^ k)) false (10 ^ k) 1
unfolding tens
tens_to zero k h e = let z : k ≡ 0 = omega arith in rw z (ten_value 0 (whole (10 ^ 0)) (subst T (sym e) tt))
tens_to (suc n) k h e =
    by-test (eqb k (suc n))
    (λ q.
    rw (eqb-true k (suc n) q)
    (ten_value (suc n) (whole (10 ^ suc n))
    (subst T (sym (and_left (is_ten (suc n) (whole (10 ^ suc n))) (tens n) e)) tt)))
    (λ q. let d = eqb-false k (suc n) q in tens_to n k (omega arith) (and_right (is_ten (suc n) (whole (10 ^ suc n))) (tens n) e))

ten_exact : (k : ℕ) → k ≤ 22 → HasValue (whole (10 ^ k)) false (10 ^ k) 1
unfolding tens of_int
ten_exact k h = tens_to 22 k h refl

signed_exact : (s : Bool) (d : ℕ) → d < 2 ^ 53 → HasValue (signed s d) s d 1
unfolding of_int
signed_exact true d h = neg_value (round binary64 false d 1) false d 1 (round_whole binary64 false d (omega arith))
signed_exact false d h = round_whole binary64 false d (omega arith)

-- ± d × 10 ^ k, and ± d / 10 ^ k
pub times_nearest :
    (s : Bool) (d k : ℕ)
    → d < 2 ^ 53
    → k ≤ 22
    → scaled s d (pos k) ≡ reads (round binary64 s (d * 10 ^ k) 1)
unfolding scaled
times_nearest s d k h l =
    rw (le-leb k 22 l)
    (ap reads
    (mul_value binary64 (signed s d) (whole (10 ^ k)) s false d 1 (10 ^ k) 1 (lit< tt) (lit< tt) (signed_exact s d h)
    (ten_exact k l)
    ∙ ap (λ (t : Bool). round binary64 t (d * 10 ^ k) 1) (unlike_plus s)))

pub over_nearest :
    (s : Bool) (d k : ℕ)
    → d < 2 ^ 53
    → suc k ≤ 22
    → scaled s d (negsuc k) ≡ reads (round binary64 s d (10 ^ suc k))
unfolding scaled
over_nearest s d k h l =
    rw (le-leb (suc k) 22 l)
    (ap reads
    (div_value binary64 (signed s d) (whole (10 ^ suc k)) s false d 1 (10 ^ suc k) 1 (lit< tt) (lit< tt)
    (one-le-pow (suc k) 10 (zero-lt-suc 9)) (signed_exact s d h) (ten_exact (suc k) l)
    ∙ simp (unlike_plus s, mul-one, one-mul)))

-- The whole of it: what a decimal reads as, nearest to its value in the exact case, a signed zero, or out of range.
abbrev pub nearest : Bool → ℕ → ℤ → Float
nearest s d (pos k) = round binary64 s (d * 10 ^ k) 1
nearest s d (negsuc k) = round binary64 s d (10 ^ suc k)

abbrev pub in_reach : ℤ → Bool
in_reach (pos k) = leb k 22
in_reach (negsuc k) = leb (suc k) 22

zero_signed : (s : Bool) → signed s 0 ≡ round binary64 s 0 1
unfolding of_int neg
zero_signed true = refl
zero_signed false = refl

scaled_nearest :
    (s : Bool) (d : ℕ) (e : ℤ)
    → d < 2 ^ 53
    → scaled s d e ≡ cond (in_reach e) (reads (nearest s d e)) out_of_range
unfolding scaled
scaled_nearest s d (pos k) h =
    by-test (leb k 22) (λ q. times_nearest s d k h (leb-true k 22 q) ∙ (rw q)) (λ q. rw (scaled, q))
scaled_nearest s d (negsuc k) h =
    by-test (leb (suc k) 22) (λ q. over_nearest s d k h (leb-true (suc k) 22 q) ∙ (rw q)) (λ q. rw (scaled, q))

pub value_is :
    (n : Decimal)
    → value_of (some n) ≡ cond (eqb n.mantissa 0) (reads (round binary64 n.minus 0 1))
    (cond (ltb n.mantissa (2 ^ 53) && in_reach n.exponent)
    (reads (nearest n.minus n.mantissa n.exponent)) out_of_range)
unfolding value_of
value_is n =
    by-test (eqb n.mantissa 0)
    (λ p. rw (p, zero_signed n.minus))
    (λ p.
    by-test (ltb n.mantissa (2 ^ 53))
    (λ q. rw (p, q) (scaled_nearest n.minus n.mantissa n.exponent (ltb-true n.mantissa (2 ^ 53) q)))
    (λ q. rw (p, q)))
