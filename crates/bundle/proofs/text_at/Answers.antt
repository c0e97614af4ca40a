use Rattle.std.proofs.Common.{◌∙◌, sym, ap}
use Rattle.std.proofs.lemmas.Iterator.Adapters.{option_map_id}
use Rattle.std.proofs.lemmas.Iterator.Consumers.{YieldsList-from_first, nth_from_yields_List}
use Rattle.group.specs.Pair.{pairs_left}
use Rattle.group.proofs.Runs.{nth_is}
use Rattle.bundle.specs.Bundle.{ranges_of}
use Rattle.bundle.proofs.text_at.Goals as goal

pub returns : goal.returns
unfolding ranges_of
returns c =
    sym (option_map_id c.nth.result)
    ∙ nth_from_yields_List c.nth.result c.nth.new.self c.args.k c.nth.ensures.ran (YieldsList-from_first (λ x. x) pairs_left _ (ap pairs_left c.texts.ensures))
    ∙ nth_is (ranges_of c.args.bundle.now) c.args.k
