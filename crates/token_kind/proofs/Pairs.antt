-- The search in the table of pairs, and the sign that it leads to.
use Prim.Native.Nat.{ℕ}
use mathlib.Core.Path.{◌≡◌}
use Rattle.std.specs.Prelude.{None}
use Rattle.base.specs.Bytes.{ascii}
use Rattle.base.specs.Choice.{pick, by-test}
use Rattle.base.specs.Option.{on_option}
use Rattle.token_kind.specs.Signs.{is_pair, place_of_pair, sign_of_pair, first_pair, get_two_char_simple_token}

-- the sign at the place of a pair is the sign of the first entry with that pair
pub sign_first : (a b : ℕ) → on_option (place_of_pair a b) None sign_of_pair ≡ get_two_char_simple_token a b
unfolding get_two_char_simple_token first_pair place_of_pair sign_of_pair on_option pick
sign_first a b =
    by-test (is_pair a b (ascii "!=")) (λ p. simp p) λ p.
    by-test (is_pair a b (ascii "<=")) (λ q. simp (p, q)) λ q.
    by-test (is_pair a b (ascii ">=")) (λ r. simp (p, q, r)) λ r.
    by-test (is_pair a b (ascii "=~")) (λ t. simp (p, q, r, t)) λ t.
    by-test (is_pair a b (ascii "::")) (λ u. simp (p, q, r, t, u)) λ u. simp (p, q, r, t, u)
