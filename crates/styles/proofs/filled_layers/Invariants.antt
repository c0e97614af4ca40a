use Prim.Native.Nat.{◌≤◌}
use Rattle.styles.proofs.StylesLaws.{StyledTo}
use Rattle.styles.proofs.filled_layers.Given as goal

abbrev pub invariant-loop-i : goal.invariant-loop-i
invariant-loop-i l = (l.count ≤ l.i) × StyledTo l.tables.bundle.now l.tables.selectors.now l.tables.properties.now l.tables.numbers.now l.maps l.fn.m l.kind l.layer l.settings l.i l.count l.layers
