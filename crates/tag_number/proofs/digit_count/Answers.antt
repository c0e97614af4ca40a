use borrow.Author.Tests.{tests}
use mathlib.Core.Bool.{not}
use mathlib.Core.Path.{◌∙◌, ap}
use lib.ListN.{length}
use Rattle.std.proofs.Common.{rules}
use Rattle.std.proofs.lemmas.Iterator.{YieldsList-from_slice}
use Rattle.std.proofs.lemmas.Iterator.Search.{position_from_yields_List}
use Rattle.std.specs.Prelude.{unwrap_or}
use Rattle.cascade.specs.Number.{is_digit}
use Rattle.tag_number.proofs.Texts.{count_position}
use Rattle.tag_number.proofs.digit_count.Goals as goal

pub returns : goal.returns
returns c = c.unwrap_or.ensures ∙ ap (λ o. unwrap_or o (length c.args.v.now)) (position_from_yields_List (λ b. not (is_digit b)) _ _ _ c.position.ensures.ran (YieldsList-from_slice c.args.v.now cc) (λ x b q k. search (rules, tests))) ∙ count_position c.args.v.now
