use Prim.Native.Nat.{◌≤◌}
use mathlib.Core.Path.{◌≡◌}
use mathlib.Core.List.{[]}
use lib.ListN.{length, take}
use Rattle.drawing.proofs.KeyLaws.{push_left, push_all}
use Rattle.drawing.proofs.Drawing.push_layers.Given as goal

abbrev pub invariant-loop-i : goal.invariant-loop-i
invariant-loop-i l = let t = l.self.tables.now in (l.k ≤ length l.keys) ×
    (length l.keys ≡ length l.initial.keys) ×
    (push_left t.bundle.now t.selectors.now t.properties.now t.numbers.now l.self.for_labels l.place.multipolygons l.place.place l.entity.range.kind l.entity.range.id l.layer l.maps l.fn.m (length l.initial.keys) (take l.k l.keys) l.i l.k ≡
    push_all t.bundle.now t.selectors.now t.properties.now t.numbers.now l.self.for_labels l.place.multipolygons l.place.place l.entity.range.kind l.entity.range.id l.layer l.maps l.fn.m (length l.initial.keys) [])
