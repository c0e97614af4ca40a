use native.Mathlib.Omega.{arith}
use mathlib.Core.Path.{refl, sym}
use Rattle.base.proofs.Loops.{going_start, going_more, going_done}
use Rattle.base.specs.Choice.{via}
use Rattle.token_zoom.proofs.Digits.{digit_on}
use Rattle.token_zoom.specs.Zoom.{read_hex_digits}
use Rattle.token_zoom.proofs.read_hex_digits.Goals as goal
use Rattle.base.specs.Option.{option_none, option_some}

pub loop-digit-init : goal.loop-digit-init
unfolding read_hex_digits
loop-digit-init c = going_start _ _ _ _ _ (omega arith)

pub returns : goal.returns
returns c = going_done _ _ _ _ _ _ c.loop-digit.invariant (sym (option_none _ _ _ (via c.read_digit.ensures c.in_default.is) refl))

pub loop-digit-smaller : goal.loop-digit-smaller
loop-digit-smaller c = search digit_on

pub loop-digit-preserved : goal.loop-digit-preserved
loop-digit-preserved c = going_more _ _ _ _ _ _ _ c.loop-digit.invariant (sym (option_some _ _ _ (via c.read_digit.ensures c.in-Some.is) (rw (sym c.bump-count.ensures) (rw (sym c.hex_added-value.ensures) refl)))) (search digit_on)
