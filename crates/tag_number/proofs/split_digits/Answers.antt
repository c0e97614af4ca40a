use Prim.Native.Nat.{ℕ}
use native.Mathlib.Omega.{arith}
use mathlib.Core.Path.{◌∙◌, ap}
use lib.ListN.{take, drop}
use Rattle.tag_number.proofs.Texts.{digits_length, digits_taken, digits_dropped}
use Rattle.tag_number.proofs.split_digits.Goals as goal

pub split_at-requires : goal.split_at-requires
split_at-requires c = let e = digits_length c.args.v.now in omega (arith, c.digit_count.ensures)

pub returns-clause-first : goal.returns-clause-first
returns-clause-first c = c.split_at.ensures.front ∙ ap (λ (n : ℕ). take n c.args.v.now) c.digit_count.ensures ∙ digits_taken c.args.v.now

pub returns-clause-rest : goal.returns-clause-rest
returns-clause-rest c = c.split_at.ensures.back ∙ ap (λ (n : ℕ). drop n c.args.v.now) c.digit_count.ensures ∙ digits_dropped c.args.v.now
