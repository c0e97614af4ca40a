use Rattle.utf8.proofs.Going.{at_start, at_bad, at_end, at_next, char_fits, char_less}
use Rattle.utf8.proofs.is_utf8.Goals as goal

pub loop-w-init : goal.loop-w-init
loop-w-init c = at_start _

pub returns-in-Bad : goal.returns-in-Bad
returns-in-Bad c = search at_bad

pub returns-in-End : goal.returns-in-End
returns-in-End c = search at_end

pub overflow_add-at : goal.overflow_add-at
overflow_add-at c = search char_fits

pub loop-w-smaller : goal.loop-w-smaller
loop-w-smaller c = search char_less

pub loop-w-preserved : goal.loop-w-preserved
loop-w-preserved c = search at_next
