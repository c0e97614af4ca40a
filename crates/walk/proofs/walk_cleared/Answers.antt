use Rattle.walk.proofs.WalkLaws.{zeroed, walk_many, walk_done, finish_refused, finish_going}
use lib.ListN.{length}
use native.Mathlib.Omega.{arith}
use borrow.Author.Rules.{rules}
use mathlib.Core.Path.{◌∙◌, ap, ap₂}
use Rattle.std.specs.Prelude.{ℕ, List, Ok, Err}
use Rattle.walk.proofs.walk_cleared.Goals as goal

pub returns-then-total-gt16384 : goal.returns-then-total-gt16384
returns-then-total-gt16384 c = let a = c.args in
    walk_many a.tables.now.bundle.now a.tables.now.rules.now a.tables.now.selectors.now a.tables.now.tests.now a.tables.now.properties.now
    a.tables.now.numbers.now a.total a.zoom a.entity.bytes.now a.entity.range a.place.multipolygons a.place.place
    c.if-total-gt16384.true _ c.plain.ensures _ c.requires

pub returns-in-Ok : goal.returns-in-Ok
returns-in-Ok c = let a = c.args in
    ap₂ (λ (m : ℕ) (t : List ℕ). (Ok m, t)) c.made.ensures (search rules)
    ∙ walk_done a.tables.now.bundle.now a.tables.now.rules.now a.tables.now.selectors.now a.tables.now.tests.now a.tables.now.properties.now
    a.tables.now.numbers.now a.total a.zoom a.entity.bytes.now a.entity.range a.place.multipolygons a.place.place
    c.if-total-gt16384.false _ c.requires _ c.rules.ensures.rules _
    (finish_going a.place.multipolygons a.place.place _ _ _ _ c.in-Ok.is)

pub returns-in-Err : goal.returns-in-Err
returns-in-Err c = let a = c.args in
    ap (λ t. (Err c.refuse.result, t)) (search rules)
    ∙ walk_done a.tables.now.bundle.now a.tables.now.rules.now a.tables.now.selectors.now a.tables.now.tests.now a.tables.now.properties.now
    a.tables.now.numbers.now a.total a.zoom a.entity.bytes.now a.entity.range a.place.multipolygons a.place.place
    c.if-total-gt16384.false _ c.requires _ c.rules.ensures.rules _
    (finish_refused a.place.multipolygons a.place.place _ _ _ _ _ _ c.in-Err.is c.refuse.ensures
    (zeroed (length c.rules.new.self.rows.now) _ (c.fill.ensures.after (λ y e. e)) (omega arith)))
