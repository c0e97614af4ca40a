use Prim.Native.Nat.{◌*◌}
use native.Mathlib.Omega.{arith}
use mathlib.Core.Path.{refl, ◌∙◌, ap}
use lib.ListN.{set}
use Rattle.cascade.specs.Clause.{star}
use Rattle.walk.specs.Run.{seek}
use Rattle.walk.specs.Walking.{layers}
use Rattle.walk.specs.declared.Walk.{Walk}
use Rattle.walk.proofs.LayerLaws.{new_copied, new_bare, copied_within}
use Rattle.walk.proofs.RowLaws.{below_some, below_out}
use Rattle.walk.proofs.Walk.make.Goals as goal
use Rattle.walk.proofs.Walk.make.Goals.{in-Some, in_default}

pub returns-clause-row : goal.returns-clause-row
returns-clause-row c =
    let w = c.args.self.now in
    let n = c.n.inside.n in
    let place = seek (layers w) w.rows.now star 0 w.count in
    elim c.match-find_named.branch [
      | in-Some x ↦
          let j = x.j.inside.n in
          let found = below_some w.count place x.in-Some.j c.find_named.result c.find_named.ensures x.in-Some.is in
          ap (λ (v : Walk). set v.rows.now (n * 131) c.args.s) x.self-is
          ∙ rw (← c.n.view_is)
          (new_copied (layers w) w.rows.now n c.args.s j (rw (c.n.view_is, x.j.view_is) found.0) _ (omega (arith, found.1))
          (x.copy_within.ensures.after ∙ copied_within w.rows.now (j * 131) (n * 131) _ 131 (omega arith) (omega (arith, found.1)) (omega arith)))
      | in_default x ↦
          let past = below_out w.count place c.find_named.result c.find_named.ensures x.in_default.is in
          ap (λ (v : Walk). set v.rows.now (n * 131) c.args.s) x.self-is
          ∙ rw (← c.n.view_is) (new_bare (layers w) w.rows.now n c.args.s (seek (layers w) w.rows.now star 0 n) refl (rw c.n.view_is past))
    ]
