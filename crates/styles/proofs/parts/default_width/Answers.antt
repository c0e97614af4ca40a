use mathlib.Core.Path.{refl}
use Rattle.walk.proofs.RowLaws.{below_some, below_out}
use Rattle.styles.proofs.StylesLaws.{width_there, width_none}
use Rattle.styles.proofs.parts.default_width.Goals as goal

pub returns-in-None : goal.returns-in-None
returns-in-None c = let a = c.args in
    width_none a.tables.now.bundle.now a.tables.now.selectors.now a.tables.now.properties.now a.tables.now.numbers.now a.maps.now a.n _
    refl (below_out _ _ _ c.layer_place.ensures c.in-None.is)

pub returns-in-Some : goal.returns-in-Some
returns-in-Some c = let a = c.args in
    let w = c.number.ensures in
    let p = below_some _ _ _ _ c.layer_place.ensures c.in-Some.is in
    width_there a.tables.now.bundle.now a.tables.now.selectors.now a.tables.now.properties.now a.tables.now.numbers.now a.maps.now a.n _
    p.0 p.1 _
    c.at.ensures.numbers _ (rw c.at.ensures.of_tables at w) _ c.width_or_zero.ensures
