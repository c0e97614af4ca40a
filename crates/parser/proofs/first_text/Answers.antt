use Rattle.parser.specs.Load.{first_text}
use Rattle.base.specs.Choice.{via}
use mathlib.Core.Path.{refl}
use Rattle.parser.proofs.first_text.Goals as goal
use Rattle.base.specs.Option.{option_none, option_some}

pub returns-in-None : goal.returns-in-None
unfolding first_text
returns-in-None c = option_none _ _ _ (via c.text_at.ensures c.in-None.is) refl

pub returns-in-Some : goal.returns-in-Some
unfolding first_text
returns-in-Some c = option_some _ _ _ (via c.text_at.ensures c.in-Some.is) refl
