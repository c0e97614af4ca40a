use Prim.Native.Nat.{◌-◌}
use mathlib.Core.Path.{◌≡◌}
use Rattle.decode.specs.Decode.{places}
use Rattle.canvas.specs.Canvas.{first_color}
use Rattle.canvas.proofs.first_color.Given as goal

abbrev pub invariant-loop-p : goal.invariant-loop-p
invariant-loop-p l = first_color l.tables.bundle.now l.tables.properties.now l.tables.numbers.now l.name (places l.p (l.fn.range.to - l.p)) ≡ first_color l.tables.bundle.now l.tables.properties.now l.tables.numbers.now l.name (places l.fn.range.from (l.fn.range.to - l.fn.range.from))
