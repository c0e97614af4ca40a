use Prim.Native.Nat.{◌+◌}
use native.Mathlib.Omega.{arith}
use mathlib.Core.Path.{◌≡◌, ap, ◌∙◌}
use Rattle.std.proofs.Common.{rules, tests}
use Rattle.std.proofs.lemmas.Iterator.{first_from_Range, serves_from_Range}
use Rattle.base.specs.Choice.{via}
use Rattle.keep.specs.Lent.{place_from}
use Rattle.keep.proofs.KeepLaws.{Named, Unnamed, place_found}
use Rattle.keep.proofs.find_color.Goals as goal

pub returns : goal.returns
returns c =
    let a = c.args in
    let w = c.part-wanted.result.now in
    let e : 0 + a.n ≡ a.n = omega arith in
    place_found a.bundle.now w a.colors.now c.find.result 0 a.n
    (rw e (first_from_Range _ _ _ _ (Named a.bundle.now w a.colors.now) (Unnamed a.bundle.now w a.colors.now) c.find.ensures.ran
    (λ x q k. search (rules, tests))
    (λ x q k. (search rules, search (rules, tests)))))
    ∙ ap (λ w. place_from a.bundle.now w a.colors.now 0 a.n) c.part-wanted.ensures
