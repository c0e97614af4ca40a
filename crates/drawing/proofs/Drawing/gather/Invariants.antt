use Prim.Native.Nat.{◌-◌, ◌≤◌}
use mathlib.Core.Path.{◌≡◌}
use mathlib.Core.List.{[]}
use lib.ListN.{length, take}
use Rattle.drawing.proofs.GatherLaws.{Left}
use Rattle.drawing.proofs.Drawing.gather.Given as goal

abbrev pub invariant-loop-range : goal.invariant-loop-range
invariant-loop-range l = let t = l.self.tables.now in (length l.keys ≡ length l.initial.keys) ×
    (l.m ≤ length l.keys) ×
    (l.place.place ≤ l.at) ×
    (l.at ≤ length l.s) ×
    (l.place.multipolygons ≡ l.multipolygons) ×
    Left t.bundle.now t.rules.now t.selectors.now t.tests.now t.properties.now t.numbers.now l.self.total l.self.zoom l.self.for_labels (length l.initial.keys) l.sort l.place.multipolygons l.s
    [] l.at l.place.place (take l.m l.keys)

abbrev pub decreases-loop-range : goal.decreases-loop-range
decreases-loop-range l = length l.s - l.at
