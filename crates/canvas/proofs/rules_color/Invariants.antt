use Prim.Native.Nat.{◌-◌}
use mathlib.Core.Path.{◌≡◌}
use Rattle.decode.specs.Decode.{places}
use Rattle.canvas.specs.Canvas.{rules_color}
use Rattle.canvas.proofs.rules_color.Given as goal

abbrev pub invariant-loop-r : goal.invariant-loop-r
invariant-loop-r l = rules_color l.tables.bundle.now l.tables.rules.now l.tables.selectors.now l.tables.properties.now l.tables.numbers.now l.name (places l.r (l.total - l.r))
    ≡ rules_color l.tables.bundle.now l.tables.rules.now l.tables.selectors.now l.tables.properties.now l.tables.numbers.now l.name (places 0 l.total)
