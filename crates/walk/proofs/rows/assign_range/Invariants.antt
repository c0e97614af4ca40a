-- What the loop of assign_range keeps: where it stands in the row.
use Rattle.decode.specs.Decode.{name_at}
use Rattle.walk.proofs.RowLaws.{Filling}
use Rattle.walk.proofs.rows.assign_range.Given as goal

abbrev pub invariant-loop-p : goal.invariant-loop-p
invariant-loop-p l = Filling (name_at l.tables.bundle.now l.tables.properties.now) l.initial.row l.count l.fn.ps.from l.fn.ps.to l.row l.n l.p
