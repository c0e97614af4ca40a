use mathlib.Core.Path.{◌≡◌}
use lib.ListN.{drop}
use Rattle.base.specs.Table.{stored}
use Rattle.answer_words.proofs.store_words.Given as goal

-- what is left to be stored, behind what was
abbrev pub invariant-loop-i : goal.invariant-loop-i
invariant-loop-i l = stored l.out l.i (drop l.i l.words) ≡ stored l.initial.out 0 l.words
