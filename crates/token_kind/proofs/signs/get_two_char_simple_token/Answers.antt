use mathlib.Core.Path.{◌∙◌}
use Rattle.base.specs.Choice.{via}
use Rattle.base.specs.Option.{option_none, option_some}
use Rattle.token_kind.proofs.Pairs.{sign_first}
use Rattle.token_kind.specs.Signs.{sign_of_pair}
use Rattle.token_kind.proofs.signs.get_two_char_simple_token.Goals as goal

pub returns : goal.returns
returns c = option_some _ _ _ (via c.place_of_pair.ensures c.in_ok-place_of_pair.was) c.sign_of_pair.ensures ∙ sign_first _ _

pub returns-in_err-place_of_pair : goal.returns-in_err-place_of_pair
returns-in_err-place_of_pair c = option_none _ _ sign_of_pair (via c.place_of_pair.ensures c.in_err-place_of_pair.was) c.from_residual.ensures ∙ sign_first _ _
