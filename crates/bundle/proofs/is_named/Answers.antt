use Rattle.std.proofs.Common.{◌∙◌, refl, rules, tests}
use Rattle.std.proofs.lemmas.Iterator.Consumers.{YieldsList-from_first}
use Rattle.std.proofs.lemmas.Iterator.Search.{any_from_yields_List}
use Rattle.base.specs.Bytes.{same, within}
use Rattle.group.specs.Pair.{pairs_left}
use Rattle.bundle.proofs.Names.{named_in}
use Rattle.bundle.proofs.is_named.Goals as goal

pub returns : goal.returns
returns c =
    any_from_yields_List (λ p. same c.args.name.now (within p.0 c.args.s.now)) c.any.new.self _ _ c.any.ensures.ran
    (YieldsList-from_first (λ x. x) pairs_left _ refl) (λ x b q k. search (rules, tests))
    ∙ named_in c.args.s.now c.args.name.now (pairs_left c.args.texts)
