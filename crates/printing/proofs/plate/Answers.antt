use mathlib.Core.Path.{ap}
use Rattle.printing.proofs.PlateLaws.{plate_bad, plate_framed}
use Rattle.printing.specs.Plate.{held_in}
use Rattle.printing.specs.declared.Buffers.{Buffers}
use Rattle.printing.proofs.plate.Goals as goal

pub returns-in-None : goal.returns-in-None
returns-in-None c =
    let call = c.parts in
    plate_bad c.args.input.now call.result call.ensures _ _ _ c.in-None.is (ap held_in c.blank.ensures) (ap (λ (t : Buffers). t.maps) c.blank.ensures) c.plain.ensures

pub returns-in-Some : goal.returns-in-Some
returns-in-Some c =
    let call = c.parts in
    plate_framed c.args.input.now call.result call.ensures _ _ _ _ _ _ c.in-Some.is c.part.ensures c.part-in-Some.ensures c.styled.ensures
