use Rattle.std.proofs.Common.{◌∙◌, ap, sym, rules, tests}
use Rattle.std.specs.Option.{option_map}
use Rattle.std.proofs.lemmas.Iterator.{YieldsList-from_slice}
use Rattle.std.proofs.lemmas.Iterator.Search.{find_from_yields_List}
use Rattle.base.specs.Bytes.{same}
use Rattle.color.specs.Named.{row}
use Rattle.color.proofs.Names.{named_found}
use Rattle.color.proofs.first_named.Goals as goal

pub returns-in_err-r : goal.returns-in_err-r
returns-in_err-r c =
    c.from_residual.ensures
    ∙ ap (λ o. option_map (λ e. (row e).color) (option_map (λ e. e.now) o)) (sym c.in_err-r.was)
    ∙ ap (option_map (λ e. (row e).color)) (find_from_yields_List (λ e. same c.args.name.now e.0.now) c.find.new.self _ c.find.result c.find.ensures.ran (YieldsList-from_slice c.args.named.now cc) (λ x b q k. search (rules, tests)))
    ∙ named_found c.args.name.now c.args.named.now

pub returns : goal.returns
returns c =
    ap (λ o. option_map (λ e. (row e).color) (option_map (λ e. e.now) o)) (sym c.in_ok-r.was)
    ∙ ap (option_map (λ e. (row e).color)) (find_from_yields_List (λ e. same c.args.name.now e.0.now) c.find.new.self _ c.find.result c.find.ensures.ran (YieldsList-from_slice c.args.named.now cc) (λ x b q k. search (rules, tests)))
    ∙ named_found c.args.name.now c.args.named.now
