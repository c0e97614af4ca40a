-- Digits into a number, each step rounded once.
use Rattle.std.specs.Prelude.{ℕ, suc, ◌/◌, ◌%◌, Bool, true, false, eqb, pos, Float, length}
use Rattle.std.specs.Float.{binary64}
use Rattle.std.specs.Float.Ieee.{of_bits, of_int, add, mul, div, neg}
use Rattle.base.specs.Bytes.{Bytes}
use Rattle.base.specs.Choice.{pick}
use Rattle.base.specs.Turns.{Turn, more, done, turns}
use Rattle.cursor.specs.Class.{to_digit}
use Rattle.cursor.specs.Cursor.{bump, next_char}
use Rattle.cursor.specs.declared.Cursor.{Cursor}
use Rattle.cursor.specs.declared.number.Sum.{Sum}
use Rattle.cursor.specs.declared.number.Digits.{Digits}
use Rattle.base.specs.Option.{on_option, on_result2}

abbrev pub one : Float
one = of_bits binary64 0x3ff0_0000_0000_0000

abbrev pub ten : Float
ten = of_bits binary64 0x4024_0000_0000_0000

-- two roundings: ten times, and the digit more
unfoldable pub add_digit : Float → ℕ → Float
add_digit x d = add binary64 (mul binary64 ten x) (of_int binary64 (pos d))

-- 10 to the n: result × base on a set bit, from the low bit on, then base × base while bits remain
pub record Power : Type 0 where
  pub result : Float
  pub base : Float
  pub left : ℕ

abbrev pub power : Float → Float → ℕ → Power
power r b n = record { result = r; base = b; left = n }

unfoldable pub times_odd : ℕ → Float → Float → Float
times_odd n r b = pick (eqb (n % 2) 1) (mul binary64 r b) r

abbrev pub pow_turn : Power → Turn Power Float
pow_turn p =
    pick (eqb (p.left / 2) 0)
    (done (times_odd p.left p.result p.base))
    (more (power (times_odd p.left p.result p.base) (mul binary64 p.base p.base) (p.left / 2)))

unfoldable pub pow_ten : ℕ → Float
pow_ten n = turns pow_turn one (suc n) (power one ten n)

-- the digits before the dot and after it so far, how many stand after it, and whether it was read
abbrev pub sum : Float → Float → ℕ → Bool → Sum
sum x y n d = record { whole = x; fraction = y; places = n; dot = d }

unfoldable pub digit_added : Sum → ℕ → Sum
digit_added x d =
    pick x.dot
    (sum x.whole (add_digit x.fraction d) (bump x.places) true)
    (sum (add_digit x.whole d) x.fraction x.places false)

abbrev pub dotted : Sum → Sum
dotted x = sum x.whole x.fraction x.places true

unfoldable pub takes_dot : Sum → ℕ → Bool
takes_dot x k = pick x.dot false (eqb k 46)

abbrev pub digits : Sum → Cursor → Digits
digits x c = record { sum = x; end = c }

abbrev pub digits_turn : Bytes → Digits → Turn Digits Digits
digits_turn s x =
    on_result2 (next_char s x.end) (λ d. done x) λ k d.
    on_option (to_digit k 10)
    (pick (takes_dot x.sum k) (more (digits (dotted x.sum) d)) (done x))
    λ v. more (digits (digit_added x.sum v) d)

unfoldable pub read_digits : Bytes → Cursor → Sum → Digits
read_digits s c x = turns (digits_turn s) (digits x c) (suc (length s)) (digits x c)

-- whole part + fraction digits / 10^n
unfoldable pub size : Sum → Float
size x = pick (eqb x.places 0) x.whole (add binary64 x.whole (div binary64 x.fraction (pow_ten x.places)))

unfoldable pub sign : Bool → Float
sign minus = pick minus (neg one) one

unfoldable pub value : Sum → Bool → Float
value x minus = mul binary64 (sign minus) (size x)
