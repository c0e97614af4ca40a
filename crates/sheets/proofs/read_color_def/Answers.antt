use Rattle.std.proofs.Common.{◌∙◌}
use Rattle.input.proofs.TokenLaws.{colon_expected, semicolon_expected}
use mathlib.Core.Path.{refl}
use native.Mathlib.Omega.{arith}
use Rattle.base.specs.Choice.{via}
use Rattle.keep.proofs.Laws.{no_token, got, another, beyond, widen}
use Rattle.keep.specs.Answers.{Reads, refuses}
use Rattle.sheets.proofs.read_color_def.Goals as goal
use Rattle.base.proofs.Options.{handed_on}

pub returns-in_err-d-clause-read : goal.returns-in_err-d-clause-read
returns-in_err-d-clause-read c = rw (handed_on _ c.from_residual.ensures) (another (Reads _ _ _ _ _) _ _ _ _ _ _ (via (c.expect.ensures ∙ colon_expected _ _ _) c.in_err-d.was) (refuses refl))

pub returns-in_err-t-clause-read : goal.returns-in_err-t-clause-read
returns-in_err-t-clause-read c = rw (handed_on _ c.from_residual-in_err-t.ensures) (beyond (Reads _ _ _ _ _) _ _ _ _ _ _ (via (c.expect.ensures ∙ colon_expected _ _ _) c.in_ok-d.was) (λ m1. no_token (Reads _ _ _ _ _) _ _ _ _ _ (via c.read_mandatory_token.ensures c.in_err-t.was) (refuses refl)))

pub returns-in_err-g-clause-read : goal.returns-in_err-g-clause-read
returns-in_err-g-clause-read c = rw (handed_on _ c.from_residual-in_err-g.ensures) (beyond (Reads _ _ _ _ _) _ _ _ _ _ _ (via (c.expect.ensures ∙ colon_expected _ _ _) c.in_ok-d.was) (λ m1. got (Reads _ _ _ _ _) _ _ _ _ _ (via c.read_mandatory_token.ensures c.in_ok-t.was) (λ m2. another (Reads _ _ _ _ _) _ _ _ _ _ _ (via (c.expect-2.ensures ∙ semicolon_expected _ _ _) c.in_err-g.was) (refuses refl))))

pub returns-clause-read : goal.returns-clause-read
returns-clause-read c = beyond (Reads _ _ _ _ _) _ _ _ _ _ _ (via (c.expect.ensures ∙ colon_expected _ _ _) c.in_ok-d.was) (λ m1. got (Reads _ _ _ _ _) _ _ _ _ _ (via c.read_mandatory_token.ensures c.in_ok-t.was) (λ m2. beyond (Reads _ _ _ _ _) _ _ _ _ _ _ (via (c.expect-2.ensures ∙ semicolon_expected _ _ _) c.in_ok-g.was) (λ m3. widen (omega arith) (c.store_definition.ensures.read))))
