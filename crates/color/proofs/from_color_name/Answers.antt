use Rattle.std.proofs.Common.{rules, arith}
use Rattle.std.proofs.lemmas.Grind.{common_steps}
use Rattle.color.specs.Named.{color_named}
use Rattle.color.proofs.from_color_name.Goals as goal

pub returns : goal.returns
unfolding color_named
returns c = first_of (search rules, grind (arith, common_steps))
