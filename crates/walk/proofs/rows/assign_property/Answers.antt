use Prim.Native.Nat.{◌≤◌}
use native.Mathlib.Omega.{arith}
use lib.ListN.{length-take}
use borrow.Author.Rules.{rules}
use Rattle.decode.specs.Decode.{name_at}
use Rattle.walk.proofs.RowLaws.{place_within, assigned_at}
use Rattle.walk.proofs.rows.assign_property.Goals.{After-unwrap_or-at}
use Rattle.walk.proofs.rows.assign_property.Goals as goal

pub slice_bounds-find_name-end-2 : goal.slice_bounds-find_name-end-2
slice_bounds-find_name-end-2 c = let a = c.args in omega (arith, length-take a.count a.row.now)

at_most : (c : After-unwrap_or-at) → c.unwrap_or-at.result ≤ c.args.count
at_most c = let a = c.args in
    place_within (name_at a.tables.now.bundle.now a.tables.now.properties.now) a.p a.row.now a.count _ (omega arith) _
    c.name_of-name.ensures _ c.find_name.ensures c.unwrap_or-at.ensures

pub offset_bounds-row-at : goal.offset_bounds-row-at
offset_bounds-row-at c = search (rules, at_most c)

pub bounds-row-at : goal.bounds-row-at
bounds-row-at c = search (rules, at_most c)

pub overflow_add-at : goal.overflow_add-at
overflow_add-at c = search (rules, at_most c)

pub returns : goal.returns
returns c = let r = let a = c.args in
    assigned_at (name_at a.tables.now.bundle.now a.tables.now.properties.now) a.p a.row.now a.count _ (omega arith) _
    c.name_of-name.ensures _ c.find_name.ensures c.unwrap_or-at.ensures _ c.max.ensures in record { used = r.0; assigned = r.1 }
