use Rattle.std.proofs.Common.{refl, ap, ◌∙◌}
use Rattle.std.specs.Prelude.{Err}
use Rattle.base.specs.Choice.{if_true, if_false}
use Rattle.base.proofs.Options.{handed_on}
use Rattle.valid.proofs.Judged.{judged_err, judged_ok}
use Rattle.drawing.proofs.Drawing.judged.Goals as goal

pub returns-in_err-judge : goal.returns-in_err-judge
returns-in_err-judge c =
    let j = judged_err _ _ c.judge.ensures c.in_err-judge.was in
    if_false _ _ _ j.0 (handed_on _ c.from_residual.ensures ∙ ap Err j.1)

pub returns : goal.returns
returns c = if_true _ _ _ (judged_ok _ _ c.judge.ensures c.in_ok-judge.was).0 refl
