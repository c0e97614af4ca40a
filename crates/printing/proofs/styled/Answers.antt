use native.Mathlib.Omega.{arith}
use mathlib.Core.Path.{◌≡◌}
use Rattle.base.proofs.Options.{handed_on}
use lib.ListN.{length}
use Rattle.printing.specs.Plate.{room}
use Rattle.printing.proofs.PlateLaws.{zeroed, room_of, room_is, styled_not, styled_refused, styled_maps}
use Rattle.printing.proofs.styled.Goals.{After-load}
use Rattle.printing.proofs.styled.Goals as goal

long_enough : (c : After-load) → room_of c.args.buffers.now ≡ room
long_enough c = room_is c.args.buffers.now (omega arith) (omega arith) (omega arith) (omega arith) (omega arith) (omega arith)

pub returns-in_err-n : goal.returns-in_err-n
returns-in_err-n c = let a = c.args in
    styled_not a.bundle.now a.entity.now a.zoom a.b _ (long_enough (goal.at.returns-in_err-n c).After-load)
    _ _ _ _ _ c.load.ensures c.in_err-n.was
    (zeroed 0 (length a.buffers.now.maps) 4323 _ (c.fill.ensures.after (λ y e. e)) (omega arith))
    (handed_on _ c.from_residual.ensures)

pub returns-in_err-k : goal.returns-in_err-k
returns-in_err-k c = let a = c.args in
    styled_refused a.bundle.now a.entity.now a.zoom a.b _ (long_enough (goal.at.returns-in_err-k c).After-load)
    _ _ _ _ _ _ _ _ _ _ _ _ c.load.ensures c.in_ok-n.was c.from.ensures
    c.property_maps.ensures.maps_after c.in_err-k.was _ (handed_on _ c.from_residual-in_err-k.ensures)

pub returns : goal.returns
returns c = let a = c.args in
    styled_maps a.bundle.now a.entity.now a.zoom a.b _ (long_enough (goal.at.returns c).After-load)
    _ _ _ _ _ _ _ _ _ _ _ _ c.load.ensures c.in_ok-n.was c.from.ensures
    c.property_maps.ensures.maps_after c.in_ok-k.was
