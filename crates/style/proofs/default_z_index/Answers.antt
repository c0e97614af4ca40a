use lib.Ieee.{of_bits, of_int}
use borrow.Author.Tests.{ne_eqb}
use Rattle.base.specs.Choice.{pick}
use Rattle.style.specs.Style.{default_z}
use Rattle.style.proofs.default_z_index.Goals as goal

pub returns-in-0 : goal.returns-in-0
unfolding default_z pick of_bits of_int
returns-in-0 c = rw c.in-0.is

pub returns-in-2 : goal.returns-in-2
unfolding default_z pick of_bits of_int
returns-in-2 c = rw c.in-2.is

pub returns-in_default : goal.returns-in_default
unfolding default_z pick of_bits of_int
returns-in_default c = let k = c.args.kind in
    rw (
      ne_eqb k 0 c.in_default.in_default-own.rest.0.1,
      ne_eqb k 2 c.in_default.in_default-own.rest.1,
    )
