use mathlib.Core.Path.{◌∙◌, ap}
use mathlib.Core.List.{[]}
use native.Mathlib.Omega.{arith}
use lib.ListN.{length, take, length-set}
use lib.Seq.{length-take-le}
use Rattle.drawing.proofs.KeyLaws.{push_all, push_start, push_end, push_skip, push_stop, keys_next}
use Rattle.drawing.proofs.Drawing.push_layers.Goals as goal

pub loop-i-init : goal.loop-i-init
loop-i-init c = let a = c.args in let t = a.self.now.tables.now in (
  omega arith,
  omega arith,
  push_start t.bundle.now t.selectors.now t.properties.now t.numbers.now a.self.now.for_labels
      a.place.multipolygons a.place.place a.entity.range.kind a.entity.range.id c.tag_layer-layer.result a.maps.now a.m (length a.keys.now) [],
)

pub loop-i-preserved-then-not-is_styled : goal.loop-i-preserved-then-not-is_styled
loop-i-preserved-then-not-is_styled c = let a = c.args in let t = a.self.now.tables.now in
    let l = c.loop-i in (
      l.invariant.0,
      l.invariant.1,
      push_skip t.bundle.now t.selectors.now t.properties.now t.numbers.now a.self.now.for_labels
          a.place.multipolygons a.place.place a.entity.range.kind a.entity.range.id c.tag_layer-layer.result a.maps.now a.m (length a.keys.now)
          (take l.k l.keys) l.i l.k _ l.invariant.2 (omega (arith, c.loop-i-test.true, c.m.view_is)) _
          c.is_styled.ensures c.if-not-is_styled.true,
    )

pub returns-then-keys-k : goal.returns-then-keys-k
returns-then-keys-k c = let a = c.args in let t = a.self.now.tables.now in
    let l = c.loop-i in record {
      keys_after = push_stop t.bundle.now t.selectors.now t.properties.now t.numbers.now a.self.now.for_labels
          a.place.multipolygons a.place.place a.entity.range.kind a.entity.range.id c.tag_layer-layer.result a.maps.now a.m (length a.keys.now)
          (take l.k l.keys) l.i l.k _ l.invariant.2 (omega (arith, c.loop-i-test.true, c.m.view_is)) _
          c.is_styled.ensures c.if-not-is_styled.false
          (omega (arith, c.if-keys-k.true, l.invariant.1, length-take-le l.k l.keys l.invariant.0)) _ c.plain.ensures
          ∙ ap
          (λ l.
          push_all t.bundle.now t.selectors.now t.properties.now t.numbers.now a.self.now.for_labels
          a.place.multipolygons a.place.place a.entity.range.kind a.entity.range.id l a.maps.now a.m (length a.keys.now) [])
          c.tag_layer-layer.ensures;
      IsBounded = tt;
    }

pub loop-i-preserved : goal.loop-i-preserved
loop-i-preserved c = let a = c.args in let t = a.self.now.tables.now in
    let l = c.loop-i in (
      simp length-set (omega (arith, c.if-keys-k.false)),
      simp length-set l.invariant.1,
      keys_next t.bundle.now t.selectors.now t.properties.now t.numbers.now a.self.now.for_labels
          a.place.multipolygons a.place.place a.entity.range.kind a.entity.range.id c.tag_layer-layer.result a.maps.now a.m (length a.keys.now)
          l.keys l.i l.k _ l.invariant.2 (omega (arith, c.loop-i-test.true, c.m.view_is)) _
          c.is_styled.ensures c.if-not-is_styled.false c.if-keys-k.false _ c.key.ensures,
    )

pub returns : goal.returns
returns c = let a = c.args in let t = a.self.now.tables.now in
    let l = c.loop-i in record {
      keys_after = push_end t.bundle.now t.selectors.now t.properties.now t.numbers.now a.self.now.for_labels
          a.place.multipolygons a.place.place a.entity.range.kind a.entity.range.id c.tag_layer-layer.result a.maps.now a.m (length a.keys.now)
          (take l.k l.keys) l.i l.k _ l.invariant.2 (omega (arith, c.loop-i-test.false, c.m.view_is))
          (omega (arith, l.invariant.0, l.invariant.1, length-take-le l.k l.keys l.invariant.0))
          ∙ ap
          (λ l.
          push_all t.bundle.now t.selectors.now t.properties.now t.numbers.now a.self.now.for_labels
          a.place.multipolygons a.place.place a.entity.range.kind a.entity.range.id l a.maps.now a.m (length a.keys.now) [])
          c.tag_layer-layer.ensures;
      IsBounded = omega (arith, l.invariant.0, l.invariant.1);
    }
