use Rattle.std.proofs.Common.{rules, ap, ◌∙◌}
use Rattle.std.specs.Prelude.{get_or, Some}
use Rattle.table.specs.Value.{value_at}
use Rattle.walk.proofs.RowLaws.{below_some}
use Rattle.style.specs.Get.{property_in}
use Rattle.style.proofs.GetLaws.{place_none, place_some}
use Rattle.style.proofs.Row.get.Goals as goal

pub bounds-numbers-i : goal.bounds-numbers-i
bounds-numbers-i c = (below_some _ _ _ _ c.find_name.ensures c.in_ok-i.was).1

pub offset_bounds-numbers-i : goal.offset_bounds-numbers-i
offset_bounds-numbers-i c = search (rules, (below_some _ _ _ _ c.find_name.ensures c.in_ok-i.was).1)

pub returns-in_err-i : goal.returns-in_err-i
unfolding property_in
returns-in_err-i c = let a = c.args in let t = a.self.tables.now in
    c.from_residual.ensures
    ∙ place_none _ _ (λ i. value_at t.properties.now t.numbers.now (get_or a.self.numbers.now i 0)) _ c.find_name.ensures c.in_err-i.was

pub returns : goal.returns
unfolding property_in
returns c = let a = c.args in let t = a.self.tables.now in
    ap Some c.property_value.ensures
    ∙ place_some _ _ (λ i. value_at t.properties.now t.numbers.now (get_or a.self.numbers.now i 0)) _ c.find_name.ensures c.in_ok-i.i c.in_ok-i.was
