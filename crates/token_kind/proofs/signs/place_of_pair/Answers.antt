use borrow.Author.Tests.{tests}
use Rattle.std.proofs.Common.{rules}
use Rattle.std.proofs.lemmas.Iterator.{YieldsList-from_slice}
use Rattle.std.proofs.lemmas.Iterator.Search.{position_from_yields_List}
use Rattle.token_kind.specs.Signs.{is_pair, pairs, place_of_pair}
use Rattle.token_kind.proofs.signs.place_of_pair.Goals as goal

pub returns : goal.returns
unfolding place_of_pair
returns c = position_from_yields_List (is_pair c.args.fst c.args.snd) _ _ _ c.position.ensures.ran (YieldsList-from_slice pairs cc) (λ x b q k. search (rules, tests))
