use Rattle.std.proofs.Common.{refl, ◌∙◌, rules, tests}
use Rattle.std.proofs.lemmas.Iterator.Consumers.{YieldsList-from_first}
use Rattle.std.proofs.lemmas.Iterator.Search.{all_from_yields_List}
use Rattle.group.specs.Pair.{pairs_at, entries_at, pairs_left}
use Rattle.group.proofs.Runs.{pair_utf8, all_pairs_utf8}
use Rattle.group.proofs.Pairs.are_utf8.Goals as goal

pub returns : goal.returns
unfolding entries_at
returns c =
    all_from_yields_List (pair_utf8 c.args.self.s.now) c.all.new.self _ _ c.all.ensures.ran
    (YieldsList-from_first (λ x. x) pairs_left _ refl) (λ x b q k. search (rules, tests))
    ∙ all_pairs_utf8 c.args.self.s.now (pairs_at c.args.self.count c.args.self.s.now c.args.self.at)
