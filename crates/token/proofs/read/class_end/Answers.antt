-- The loop of class_end, by what the test says of each character.
use native.Mathlib.Omega.{arith}
use mathlib.Core.Path.{refl, sym, ◌∙◌}
use Rattle.base.proofs.Loops.{going_start, going_more, going_done}
use Rattle.base.specs.Choice.{if_false, if_true, via}
use Rattle.cursor.proofs.Onward.{next_on}
use Rattle.base.specs.Option.{result_err, result_ok}
use Rattle.token.proofs.read.class_end.Goals.{in-Ok+then-not-goes_on, in_default}
use Rattle.token.proofs.read.class_end.Goals as goal

pub loop-ch-init : goal.loop-ch-init
loop-ch-init g c = λ p e. going_start _ _ _ _ _ (omega arith)

pub returns : goal.returns
returns g c =
    elim c.match-next_char.branch [
      | in_default w ↦ λ p e. going_done _ _ _ _ _ _ (c.loop-ch.invariant p e) (sym (result_err _ _ _ (via c.next_char.ensures w.in_default.is) refl))
      | in-Ok+then-not-goes_on w ↦ λ p e. going_done _ _ _ _ _ _ (c.loop-ch.invariant p e) (sym (result_ok _ _ _ (via c.next_char.ensures w.in-Ok.is) (if_false _ _ _ (sym (e _ _ w.goes_on.ensures) ∙ w.if-not-goes_on.true) refl)))
    ]

pub loop-ch-smaller : goal.loop-ch-smaller
loop-ch-smaller g c = search next_on

pub loop-ch-preserved : goal.loop-ch-preserved
loop-ch-preserved g c = λ p e. going_more _ _ _ _ _ _ _ (c.loop-ch.invariant p e) (sym (result_ok _ _ _ (via c.next_char.ensures c.in-Ok.is) (if_true _ _ _ (sym (e _ _ c.goes_on.ensures) ∙ c.if-not-goes_on.false) refl))) (search next_on)
