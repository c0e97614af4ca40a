use mathlib.Core.Path.{refl}
use Rattle.base.specs.Choice.{via}
use Rattle.token_zoom.proofs.Digits.{tens_fit, level_fits}
use Rattle.token_zoom.specs.Zoom.{read_zoom_level}
use Rattle.token_zoom.proofs.read_zoom_level.Goals as goal
use Rattle.base.specs.Option.{option_none, option_some}

pub overflow_mul-result : goal.overflow_mul-result
overflow_mul-result c = search tens_fit

pub overflow_add-result : goal.overflow_add-result
overflow_add-result c = search level_fits

pub returns-in-None : goal.returns-in-None
unfolding read_zoom_level
returns-in-None c = option_none _ _ _ (via c.read_digit.ensures c.in-None.is) refl

pub returns-in-None-read_digit : goal.returns-in-None-read_digit
unfolding read_zoom_level
returns-in-None-read_digit c = option_some _ _ _ (via c.read_digit.ensures c.in-Some.is) (option_none _ _ _ (via c.read_digit-in-Some.ensures c.in-None-read_digit.is) refl)

pub returns-in-Some-read_digit : goal.returns-in-Some-read_digit
unfolding read_zoom_level
returns-in-Some-read_digit c = option_some _ _ _ (via c.read_digit.ensures c.in-Some.is) (option_some _ _ _ (via c.read_digit-in-Some.ensures c.in-Some-read_digit.is) refl)
