use mathlib.Core.Path.{◌≡◌, refl, ◌∙◌, ap}
use native.Mathlib.Omega.{arith}
use lib.ListN.{length, replicate, length-replicate}
use lib.Seq.{length-take-le}
use Rattle.std.specs.Prelude.{ℕ, [], Result}
use Rattle.base.specs.declared.refusal.Refusal.{Refusal}
use Rattle.base.proofs.Options.{handed_on}
use Rattle.valid.proofs.Judged.{judged_err, judged_ok}
use Rattle.order.specs.Keys.{zero_key}
use Rattle.drawing.proofs.GatherLaws.{told_stopped, told_now}
use Rattle.drawing.proofs.DrawLaws.{zeros, part_length, gathered_by, counted_within, nodes_broken, nodes_refused, nodes_listed}
use Rattle.drawing.proofs.style_entities.Goals.{After-fill}
use Rattle.drawing.proofs.style_entities.Goals as goal

-- the list, cleared
module _ (c : After-fill) where
  cleared : c.fill.new.self ≡ replicate (length c.args.list.now) 0
  cleared = c.fill.ensures.after (λ y e. e)

  as_long : length c.fill.new.self ≡ length c.args.list.now
  as_long = ap length cleared ∙ length-replicate (length c.args.list.now) 0

pub returns-in_err-drawing : goal.returns-in_err-drawing
returns-in_err-drawing c = let a = c.args in let t = a.tables.now in
    let f = cleared (goal.at.returns-in_err-drawing c).After-fill in
    let j = judged_err _ _ c.judged.ensures c.in_err-drawing.was in
    ap (λ (q : Result ℕ Refusal). (q, c.fill.new.self)) (handed_on _ c.from_residual.ensures)
    ∙ nodes_broken t.bundle.now t.rules.now t.selectors.now t.tests.now t.properties.now t.numbers.now a.n a.zoom
    a.settings (length a.list.now)
    j.0 _ j.1 _ f a.nodes.now

pub write_list-requires : goal.write_list-requires
write_list-requires c = let r = c.room_of in let a = c.args in
    let f = cleared (goal.at.write_list-requires c).After-fill in
    let s = as_long (goal.at.write_list-requires c).After-fill in
    let b = counted_within _ c.gather.new.keys _ _ c.gather.ensures.IsBounded c.in_ok-k.was c.gather.auto.keys in
    let l = length-take-le c.in_ok-k.k c.gather.new.keys b in
    let n = part_length zero_key r.result r.ensures.most in
    (omega arith, omega (arith, l, b, c.gather.auto.keys, n), omega (arith, l, b, c.gather.auto.keys, n, r.ensures.fits), zeros _ _ f s)

pub returns-in_err-k : goal.returns-in_err-k
returns-in_err-k c = let a = c.args in let t = a.tables.now in
    let j = judged_ok _ _ c.judged.ensures c.in_ok-drawing.was in
    let f = cleared (goal.at.returns-in_err-k c).After-fill in
    let s = as_long (goal.at.returns-in_err-k c).After-fill in
    ap (λ (q : Result ℕ Refusal). (q, c.fill.new.self)) (handed_on _ c.from_residual-in_err-k.ensures)
    ∙ nodes_refused t.bundle.now t.rules.now t.selectors.now t.tests.now t.properties.now t.numbers.now a.n a.zoom
    a.settings (length a.list.now)
    j.0
    (length c.fill.new.self) s
    _ (part_length zero_key c.room_of.result c.room_of.ensures.most ∙ c.room_of.ensures.room) _ refl
    a.nodes.now _ (ap (gathered_by _ _ _ a.nodes.now []) j.1) _
    (told_stopped _ _ _ _ c.gather.ensures.keys_after c.in_err-k.was) _ f

pub returns : goal.returns
returns c = let a = c.args in let t = a.tables.now in
    let j = judged_ok _ _ c.judged.ensures c.in_ok-drawing.was in
    let s = as_long (goal.at.returns c).After-fill in
    let b = counted_within _ c.gather.new.keys _ _ c.gather.ensures.IsBounded c.in_ok-k.was c.gather.auto.keys in
    let l = length-take-le c.in_ok-k.k c.gather.new.keys b in
    nodes_listed t.bundle.now t.rules.now t.selectors.now t.tests.now t.properties.now t.numbers.now a.n a.zoom
    a.settings (length a.list.now)
    j.0
    (length c.fill.new.self) s
    _ (part_length zero_key c.room_of.result c.room_of.ensures.most ∙ c.room_of.ensures.room) _ refl
    a.nodes.now _ (ap (gathered_by _ _ _ a.nodes.now []) j.1) _
    (told_now _ _ _ _ c.gather.ensures.keys_after c.in_ok-k.was) _ l _ c.write_list.ensures
