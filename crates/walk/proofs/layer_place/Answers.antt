use mathlib.Core.Path.{◌∙◌, sym}
use Rattle.walk.proofs.WalkLaws.{place_many, place_few}
use Rattle.walk.specs.Selectors.{layer_in}
use Rattle.walk.proofs.layer_place.Goals as goal

pub returns-then-n-gt32 : goal.returns-then-n-gt32
returns-then-n-gt32 c = let a = c.args in
    place_many (layer_in a.tables.now.bundle.now a.tables.now.selectors.now) a.maps.now a.n a.name.now c.if-n-gt32.true

pub returns-in_err-i : goal.returns-in_err-i
returns-in_err-i c = let a = c.args in
    c.from_residual.ensures ∙ place_few (layer_in a.tables.now.bundle.now a.tables.now.selectors.now) a.maps.now a.n a.name.now c.if-n-gt32.false _
    (sym c.in_err-i.was ∙ c.find_named.ensures)

pub returns : goal.returns
returns c = let a = c.args in
    place_few (layer_in a.tables.now.bundle.now a.tables.now.selectors.now) a.maps.now a.n a.name.now c.if-n-gt32.false _
    (rw c.i.view_is (sym c.in_ok-i.was ∙ c.find_named.ensures))
