use Rattle.keep.proofs.KeepLaws.{color_new, color_again}
use Rattle.base.specs.Choice.{via}
use Rattle.keep.proofs.Store.keep_color.Goals as goal

pub returns-in-None-clause-kept : goal.returns-in-None-clause-kept
returns-in-None-clause-kept c = color_new _ _ _ _ _ (via c.place_of.ensures c.in-None.is) c.add_color.ensures.kept

pub returns-in-Some-clause-kept : goal.returns-in-Some-clause-kept
returns-in-Some-clause-kept c = color_again _ _ _ _ _ (via c.place_of.ensures c.in-Some.is) c.recolor.ensures
