use mathlib.Core.Path.{◌≡◌, refl, sym, ◌∙◌, subst, ap}
use native.Mathlib.Omega.{arith}
use lib.ListN.{length, replicate, length-replicate}
use lib.Seq.{length-take-le}
use Rattle.std.specs.Prelude.{ℕ, [], Result}
use Rattle.base.specs.declared.refusal.Refusal.{Refusal}
use Rattle.base.proofs.Options.{handed_on}
use Rattle.valid.proofs.Judged.{judged_err, judged_ok}
use Rattle.order.specs.Keys.{zero_key}
use Rattle.drawing.specs.Gather.{IsBounded, gathered}
use Rattle.drawing.proofs.GatherLaws.{told_stopped, told_now}
use Rattle.drawing.proofs.GatherLaws as gather
use Rattle.drawing.proofs.DrawLaws.{zeros, part_length, gathered_by, counted_within, gathered_behind, both_long, areas_broken, ways_refused, areas_refused, areas_listed}
use Rattle.drawing.proofs.StreamLaws.{behind_refused, behind_keys, taken_behind}
use Rattle.drawing.proofs.style_areas.Goals.{After-fill}
use Rattle.drawing.proofs.style_areas.Goals as goal

-- the list, cleared
module _ (c : After-fill) where
  cleared : c.fill.new.self ≡ replicate (length c.args.list.now) 0
  cleared = c.fill.ensures.after (λ y e. e)

  as_long : length c.fill.new.self ≡ length c.args.list.now
  as_long = ap length cleared ∙ length-replicate (length c.args.list.now) 0

pub returns-in_err-drawing : goal.returns-in_err-drawing
returns-in_err-drawing c = let a = c.args in let t = a.tables.now in
    let f = cleared (goal.at.returns-in_err-drawing c).After-fill in
    let j = judged_err _ _ c.judged.ensures c.in_err-drawing.was in
    ap (λ (q : Result ℕ Refusal). (q, c.fill.new.self)) (handed_on _ c.from_residual.ensures)
    ∙ areas_broken t.bundle.now t.rules.now t.selectors.now t.tests.now t.properties.now t.numbers.now a.n a.zoom
    a.settings (length a.list.now)
    j.0 _ j.1 _ f a.ways.now a.multipolygons.now

pub returns-in_err-w : goal.returns-in_err-w
returns-in_err-w c = let a = c.args in let t = a.tables.now in
    let j = judged_ok _ _ c.judged.ensures c.in_ok-drawing.was in
    let f = cleared (goal.at.returns-in_err-w c).After-fill in
    let s = as_long (goal.at.returns-in_err-w c).After-fill in
    ap (λ (q : Result ℕ Refusal). (q, c.fill.new.self)) (handed_on _ c.from_residual-in_err-w.ensures)
    ∙ ways_refused t.bundle.now t.rules.now t.selectors.now t.tests.now t.properties.now t.numbers.now a.n a.zoom
    a.settings (length a.list.now)
    j.0
    (length c.fill.new.self) s
    _ (part_length zero_key c.room_of.result c.room_of.ensures.most ∙ c.room_of.ensures.room) _ refl
    a.ways.now a.multipolygons.now _ (ap (gathered_by _ _ _ a.ways.now []) j.1) _
    (told_stopped _ _ _ _ c.gather.ensures.keys_after c.in_err-w.was) _ f

pub write_list-requires : goal.write_list-requires
write_list-requires c = let a = c.args in
    let f = cleared (goal.at.write_list-requires c).After-fill in
    let s = as_long (goal.at.write_list-requires c).After-fill in
    let n = part_length zero_key c.room_of.result c.room_of.ensures.most in
    let w = c.in_ok-w.w in
    let h = counted_within _ c.gather.new.keys _ _ c.gather.ensures.IsBounded c.in_ok-w.was c.gather.auto.keys in
    let g = gather.part_length c.gather.new.keys w h in
    let b = counted_within _ c.gather-2.new.keys _ _ c.gather-2.ensures.IsBounded c.in_ok-m.was c.gather-2.auto.keys in
    let l = both_long c.gather.new.keys w h c.gather-2.new.keys c.in_ok-m.m b c.gather-2.auto.keys in
    (omega (arith, l), omega (arith, l, b, c.gather-2.auto.keys, n, g, c.gather.auto.keys), omega (arith, l, b, c.gather-2.auto.keys, n, g, c.gather.auto.keys, c.room_of.ensures.fits), zeros _ _ f s)

pub returns-in_err-m : goal.returns-in_err-m
returns-in_err-m c = let a = c.args in let t = a.tables.now in
    let j = judged_ok _ _ c.judged.ensures c.in_ok-drawing.was in
    let f = cleared (goal.at.returns-in_err-m c).After-fill in
    let s = as_long (goal.at.returns-in_err-m c).After-fill in
    let n = part_length zero_key c.room_of.result c.room_of.ensures.most in
    let w = c.in_ok-w.w in
    let h = counted_within _ c.gather.new.keys _ _ c.gather.ensures.IsBounded c.in_ok-w.was c.gather.auto.keys in
    ap (λ (q : Result ℕ Refusal). (q, c.fill.new.self)) (handed_on _ c.from_residual-in_err-m.ensures)
    ∙ areas_refused t.bundle.now t.rules.now t.selectors.now t.tests.now t.properties.now t.numbers.now a.n a.zoom
    a.settings (length a.list.now)
    j.0
    (length c.fill.new.self) s
    _ (n ∙ c.room_of.ensures.room) _ refl
    a.ways.now a.multipolygons.now _ (ap (gathered_by _ _ _ a.ways.now []) j.1) _
    (told_now _ _ _ _ c.gather.ensures.keys_after c.in_ok-w.was)
    _ (c.gather.auto.keys ∙ n ∙ c.room_of.ensures.room) _
    (gathered_behind c.gather.new.keys w h _ _ a.multipolygons.now _ _ j.1)
    _ (behind_refused _ _ _ (told_stopped _ _ _ _ c.gather-2.ensures.keys_after c.in_err-m.was)) _ f

pub returns : goal.returns
returns c = let a = c.args in let t = a.tables.now in
    let j = judged_ok _ _ c.judged.ensures c.in_ok-drawing.was in
    let f = cleared (goal.at.returns c).After-fill in
    let s = as_long (goal.at.returns c).After-fill in
    let n = part_length zero_key c.room_of.result c.room_of.ensures.most in
    let w = c.in_ok-w.w in
    let h = counted_within _ c.gather.new.keys _ _ c.gather.ensures.IsBounded c.in_ok-w.was c.gather.auto.keys in
    let b = counted_within _ c.gather-2.new.keys _ _ c.gather-2.ensures.IsBounded c.in_ok-m.was c.gather-2.auto.keys in
    let l = both_long c.gather.new.keys w h c.gather-2.new.keys c.in_ok-m.m b c.gather-2.auto.keys in
    areas_listed t.bundle.now t.rules.now t.selectors.now t.tests.now t.properties.now t.numbers.now a.n a.zoom
    a.settings (length a.list.now)
    j.0
    (length c.fill.new.self) s
    _ (n ∙ c.room_of.ensures.room) _ refl
    a.ways.now a.multipolygons.now _ (ap (gathered_by _ _ _ a.ways.now []) j.1) _
    (told_now _ _ _ _ c.gather.ensures.keys_after c.in_ok-w.was)
    _ (c.gather.auto.keys ∙ n ∙ c.room_of.ensures.room) _
    (gathered_behind c.gather.new.keys w h _ _ a.multipolygons.now _ _ j.1)
    _
    (behind_keys _ _ _ (told_now _ _ _ _ c.gather-2.ensures.keys_after c.in_ok-m.was)
    ∙ ap gathered (sym (taken_behind c.gather.new.keys c.gather-2.new.keys _ w c.in_ok-m.m h b)))
    _ _ (length-take-le w c.gather.new.keys h) l _ c.write_list.ensures

pub offset_bounds-free-w : goal.offset_bounds-free-w
offset_bounds-free-w c =
    let d = subst (IsBounded _) c.in_ok-w.was c.gather.ensures.IsBounded in
    omega (arith, d, c.gather.auto.keys, part_length zero_key c.room_of.result c.room_of.ensures.most, c.room_of.ensures.most)

pub overflow_add-k : goal.overflow_add-k
overflow_add-k c =
    let d = subst (IsBounded _) c.in_ok-w.was c.gather.ensures.IsBounded in
    let g = gather.part_length c.gather.new.keys c.in_ok-w.w (omega (arith, d, c.gather.auto.keys)) in
    let b = subst (IsBounded _) c.in_ok-m.was c.gather-2.ensures.IsBounded in
    omega (arith, d, b, g, c.gather.auto.keys, part_length zero_key c.room_of.result c.room_of.ensures.most, c.room_of.ensures.most)
