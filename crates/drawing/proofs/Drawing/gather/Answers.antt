use mathlib.Core.Path.{refl, sym, ◌∙◌, subst, ap}
use mathlib.Core.List.{[]}
use Prim.Native.Nat.{◌-◌}
use native.Mathlib.Omega.{arith}
use lib.ListN.{length, take, drop}
use borrow.Rule.Slice.PartMut.{same_len_mid}
use Rattle.base.proofs.Options.{handed_on, ok_is}
use Rattle.base.specs.Choice.{via}
use Rattle.drawing.specs.Gather.{IsBounded, gather_of}
use Rattle.drawing.proofs.GatherLaws.{next_end, told_stopped, told_now, part_length, behind_stopped, behind_now, gather_start, gather_bad, gather_end, gather_stopped, gather_more}
use Rattle.drawing.proofs.Drawing.gather.Goals as goal

pub loop-range-init : goal.loop-range-init
loop-range-init c = let a = c.args in let t = a.self.now.tables.now in (
  refl,
  omega arith,
  omega arith,
  omega arith,
  refl,
  gather_start t.bundle.now t.rules.now t.selectors.now t.tests.now t.properties.now t.numbers.now a.self.now.total a.self.now.zoom
      a.self.now.for_labels (length a.keys.now) a.sort a.multipolygons a.s.now [],
)

pub returns-in_err-range-clause-keys_after : goal.returns-in_err-range-clause-keys_after
returns-in_err-range-clause-keys_after c = let a = c.args in let t = a.self.now.tables.now in
    let l = c.loop-range in
    told_stopped _ _ _ _ refl (handed_on _ c.from_residual.ensures)
    ∙ gather_bad t.bundle.now t.rules.now t.selectors.now t.tests.now t.properties.now t.numbers.now a.self.now.total a.self.now.zoom
    a.self.now.for_labels (length a.keys.now) a.sort l.place.multipolygons a.s.now []
    l.at l.place.place (take l.m l.keys) l.invariant.5 _ c.next_entity.ensures _ c.in_err-range.was
    ∙ ap (λ b. gather_of t.bundle.now t.rules.now t.selectors.now t.tests.now t.properties.now t.numbers.now a.self.now.total a.self.now.zoom
    a.self.now.for_labels (length a.keys.now) a.sort b a.s.now []) l.invariant.4

pub returns-clause-keys_after : goal.returns-clause-keys_after
returns-clause-keys_after c = let a = c.args in let t = a.self.now.tables.now in
    let l = c.loop-range in
    gather_end t.bundle.now t.rules.now t.selectors.now t.tests.now t.properties.now t.numbers.now a.self.now.total a.self.now.zoom
    a.self.now.for_labels (length a.keys.now) a.sort l.place.multipolygons a.s.now []
    l.at l.place.place (take l.m l.keys) l.invariant.5 _ c.next_entity.ensures (ok_is c.in_ok-range.was c.in_default.is)
    ∙ ap (λ b. gather_of t.bundle.now t.rules.now t.selectors.now t.tests.now t.properties.now t.numbers.now a.self.now.total a.self.now.zoom
    a.self.now.for_labels (length a.keys.now) a.sort b a.s.now []) l.invariant.4

pub returns-in_err-m-clause-keys_after : goal.returns-in_err-m-clause-keys_after
returns-in_err-m-clause-keys_after c = let a = c.args in let t = a.self.now.tables.now in
    let l = c.loop-range in
    told_stopped _ _ _ _ refl (handed_on _ c.from_residual-in_err-m.ensures)
    ∙ gather_stopped t.bundle.now t.rules.now t.selectors.now t.tests.now t.properties.now t.numbers.now a.self.now.total a.self.now.zoom
    a.self.now.for_labels (length a.keys.now) a.sort l.place.multipolygons a.s.now []
    l.at l.place.place (take l.m l.keys) l.invariant.5 _ c.next_entity.ensures _
    (ok_is c.in_ok-range.was c.in-Some.is) _
    (rw (sym l.invariant.0)
    (behind_stopped l.keys l.m l.invariant.1 _ _ (told_stopped _ _ _ _ c.push_entity.ensures.keys_after c.in_err-m.was)))
    ∙ ap (λ b. gather_of t.bundle.now t.rules.now t.selectors.now t.tests.now t.properties.now t.numbers.now a.self.now.total a.self.now.zoom
    a.self.now.for_labels (length a.keys.now) a.sort b a.s.now []) l.invariant.4

pub loop-range-smaller : goal.loop-range-smaller
loop-range-smaller c = let a = c.args in let l = c.loop-range in
    let h = next_end a.sort l.place.multipolygons a.s.now l.at l.place.place _
    (via c.next_entity.ensures (ok_is c.in_ok-range.was c.in-Some.is)) in
    omega (arith, h.0, h.1, h.2)

pub loop-range-preserved : goal.loop-range-preserved
loop-range-preserved c = let a = c.args in let t = a.self.now.tables.now in let l = c.loop-range in
    let h = next_end a.sort l.place.multipolygons a.s.now l.at l.place.place _
    (via c.next_entity.ensures (ok_is c.in_ok-range.was c.in-Some.is)) in
    let b = subst (IsBounded (length (take (length l.keys - l.m) (drop l.m l.keys)))) c.in_ok-m.was c.push_entity.ensures.IsBounded in
    let same = same_len_mid l.m (length l.keys - l.m) l.keys c.push_entity.new.keys c.push_entity.auto.keys in (
      same ∙ l.invariant.0,
      omega (arith, b, same, part_length l.keys l.m l.invariant.1),
      omega (arith, h.0, l.invariant.2),
      h.1,
      l.invariant.4,
      gather_more t.bundle.now t.rules.now t.selectors.now t.tests.now t.properties.now t.numbers.now a.self.now.total a.self.now.zoom
          a.self.now.for_labels (length a.keys.now) a.sort l.place.multipolygons a.s.now []
          l.at l.place.place (take l.m l.keys) l.invariant.5 _ c.next_entity.ensures _
          (ok_is c.in_ok-range.was c.in-Some.is) _
          (rw (sym l.invariant.0)
          (behind_now l.keys l.m l.invariant.1 _ c.push_entity.new.keys _ _
          (told_now _ _ _ _ c.push_entity.ensures.keys_after c.in_ok-m.was) (omega (arith, b, c.push_entity.auto.keys)))),
    )
