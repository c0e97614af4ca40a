use mathlib.Core.Path.{sym}
use Rattle.base.specs.Choice.{if_true, via}
use Rattle.base.specs.Option.{result_ok}
use Rattle.cursor.specs.Class.{can_be_in_at_directive}
use Rattle.token.specs.Read.{at_directive_end, read_at_directive}
use Rattle.token.proofs.read.read_at_directive.Goals as goal

pub returns-in-Ok : goal.returns-in-Ok
unfolding at_directive_end read_at_directive
returns-in-Ok c = result_ok _ _ _ (via c.next_char.ensures c.in-Ok.is) (rw (sym c.can_be_in_at_directive.ensures) (if_true _ _ _ c.if-can_be_in_at_directive.true (rw (sym (c.class_end.ensures can_be_in_at_directive (λ ch r h. h))) c.read_directive.ensures)))
