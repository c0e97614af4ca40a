use lib.Ieee.{of_bits, of_int}
use Rattle.style.specs.Style.{casing_multiplier}
use Rattle.style.proofs.casing_multiplier.Goals as goal

pub returns-in-Josm : goal.returns-in-Josm
unfolding casing_multiplier of_bits of_int
returns-in-Josm c = simp c.in-Josm.is

pub returns-in-MapsMe : goal.returns-in-MapsMe
unfolding casing_multiplier of_bits of_int
returns-in-MapsMe c = simp c.in-MapsMe.is
