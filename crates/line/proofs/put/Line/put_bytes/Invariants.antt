-- What the loop of put_bytes keeps: the bytes that are left take the line to what all take it to, in the same buffer.
use lib.ListN.{drop}
use Rattle.line.specs.Put.{put_all}
use mathlib.Core.Path.{◌≡◌}
use Rattle.line.proofs.put.Line.put_bytes.Given as goal

abbrev pub invariant-loop-b : goal.invariant-loop-b
invariant-loop-b l =
    (put_all (l.self.n, l.self.out.now) (drop l.b-index l.s) ≡ put_all (l.initial.self.n, l.initial.self.out.now) l.s)
    × (l.self.out.ghost_name ≡ l.initial.self.out.ghost_name)
