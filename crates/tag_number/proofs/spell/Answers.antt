use borrow.Author.Rules.{rules}
use Rattle.std.proofs.lemmas.Iterator.{YieldsList-from_slice}
use Rattle.std.proofs.lemmas.Iterator.Consumers.{fold_from_yields_List}
use Rattle.tag_number.specs.Grown.{grown, grown_from}
use Rattle.tag_number.proofs.spell.Goals as goal

pub returns : goal.returns
unfolding grown_from
returns c = fold_from_yields_List _ grown c.args.start _ c.fold.ensures.ran (YieldsList-from_slice c.args.v.now cc) (λ a x b q k. search rules)
