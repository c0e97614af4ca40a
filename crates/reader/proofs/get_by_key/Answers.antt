use Rattle.std.proofs.Common.{◌∙◌, ap, sym, rules, tests}
use Rattle.std.specs.Option.{option_map}
use Rattle.std.proofs.lemmas.Iterator.Consumers.{YieldsList-from_first}
use Rattle.std.proofs.lemmas.Iterator.Search.{find_from_yields_List}
use Rattle.base.specs.Bytes.{same, within}
use Rattle.group.specs.Pair.{pairs_left}
use Rattle.reader.proofs.Lookup.{value_read}
use Rattle.reader.proofs.get_by_key.Goals as goal

pub returns-in_err-b : goal.returns-in_err-b
returns-in_err-b c =
    c.from_residual.ensures
    ∙ ap (option_map (λ p. p.1)) (sym c.in_err-b.was)
    ∙ value_read c.args.entity.bytes.now c.args.key.now _ c.find.result
    (find_from_yields_List (λ p. same c.args.key.now (within p.0 c.args.entity.bytes.now)) c.find.new.self _ _ c.find.ensures.ran
    (YieldsList-from_first (λ x. x) pairs_left _ (ap pairs_left c.tags-tags.ensures)) (λ x b q k. search (rules, tests)))

pub returns : goal.returns
returns c =
    ap (option_map (λ p. p.1)) (sym c.in_ok-b.was)
    ∙ value_read c.args.entity.bytes.now c.args.key.now _ c.find.result
    (find_from_yields_List (λ p. same c.args.key.now (within p.0 c.args.entity.bytes.now)) c.find.new.self _ _ c.find.ensures.ran
    (YieldsList-from_first (λ x. x) pairs_left _ (ap pairs_left c.tags-tags.ensures)) (λ x b q k. search (rules, tests)))
