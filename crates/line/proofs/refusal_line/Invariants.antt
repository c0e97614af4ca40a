-- What the loop of refusal_line keeps: the numbers that are left take the line to what all take it to, in the same buffer.
use lib.ListN.{drop}
use mathlib.Core.Path.{◌≡◌}
use Rattle.line.specs.Put.{put_all}
use Rattle.line.proofs.LineLaws.{numbers}
use Rattle.line.proofs.refusal_line.Given as goal

abbrev pub invariant-loop-x : goal.invariant-loop-x
invariant-loop-x l =
    let start = l.initial.line in
    (put_all (l.line.n, l.line.out.now) (numbers (drop l.x-index l.x-items)) ≡ put_all (start.n, start.out.now) (numbers l.x-items))
    × (l.line.out.ghost_name ≡ start.out.ghost_name)
