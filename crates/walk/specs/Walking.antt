-- What a walk is given, and what it reads of that: the names of properties and layers, and the verdicts on selectors.
use Rattle.std.specs.Prelude.{ℕ}
use Rattle.std.specs.Borrow.{GName, Bor}
use Rattle.base.specs.Bytes.{Bytes}
use Rattle.cascade.specs.Match.{Verdict}
use Rattle.decode.specs.Decode.{name_at}
use Rattle.walk.specs.Selectors.{layer_in, verdict_in}
use Rattle.table.specs.declared.Tables.{Tables}
use Rattle.entity.specs.declared.Entity.{Entity}
use Rattle.walk.specs.declared.Walk.{Walk}

abbrev pub names : Walk → ℕ → Bytes
names w = name_at w.tables.now.bundle.now w.tables.now.properties.now

abbrev pub layers : Walk → ℕ → Bytes
layers w = layer_in w.tables.now.bundle.now w.tables.now.selectors.now

abbrev pub verdicts : Walk → ℕ → Verdict
verdicts w =
    verdict_in w.tables.now.bundle.now w.tables.now.selectors.now w.tables.now.tests.now w.tables.now.numbers.now w.zoom w.entity.bytes.now
    w.entity.range

-- what a walk keeps from its start to its end: all but the table of maps, which stays the one that it was lent
abbrev pub Given : Type 0
Given = Bor Tables × ℕ × Entity × GName

abbrev pub given : Walk → Given
given w = (w.tables, w.zoom, w.entity, w.rows.ghost_name)
