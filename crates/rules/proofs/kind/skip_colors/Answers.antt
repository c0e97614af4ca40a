use Rattle.rules.proofs.KindLaws.{skip_none, skip_last, skip_more}
use Rattle.input.proofs.TokenLaws.{sign_same}
use Rattle.grammar.specs.Token.{right_brace}
use Rattle.input.proofs.Fuel.{mandatory_moves}
use Rattle.base.specs.Choice.{via}
use native.Mathlib.Omega.{arith}
use mathlib.Core.Path.{◌∙◌}
use Rattle.rules.proofs.kind.skip_colors.Goals as goal
use Rattle.base.proofs.Options.{handed_on}

pub loop-t-init : goal.loop-t-init
loop-t-init c = (omega arith, λ r q. q)

pub returns-in_err-t : goal.returns-in_err-t
returns-in_err-t c = rw (handed_on _ c.from_residual.ensures) (c.loop-t.invariant.1 _ (skip_none _ _ _ _ (via c.read_mandatory_token.ensures c.in_err-t.was)))

pub returns-then-eq : goal.returns-then-eq
returns-then-eq c = c.loop-t.invariant.1 _ (skip_last _ _ _ _ (via c.read_mandatory_token.ensures c.in_ok-t.was) (sign_same _ right_brace _ ∙ via c.eq.ensures c.if-eq.true) c.loop-t.invariant.0)

pub loop-t-smaller : goal.loop-t-smaller
loop-t-smaller c = mandatory_moves _ _ _ _ _ _ (via c.read_mandatory_token.ensures c.in_ok-t.was)

pub loop-t-preserved : goal.loop-t-preserved
loop-t-preserved c = let h = via c.read_mandatory_token.ensures c.in_ok-t.was in (omega (arith, mandatory_moves _ _ _ _ _ _ h, c.loop-t.invariant.0), λ r q. c.loop-t.invariant.1 r (skip_more _ _ _ _ r h (sign_same _ right_brace _ ∙ via c.eq.ensures c.if-eq.false) q))
