use borrow.Author.Tests.{tests}
use mathlib.Core.Path.{◌∙◌, ap}
use lib.ListN.{length}
use Rattle.std.proofs.Common.{rules}
use Rattle.std.proofs.lemmas.Iterator.{YieldsList-from_slice}
use Rattle.std.proofs.lemmas.Iterator.Search.{position_from_yields_List}
use Rattle.base.specs.Bytes.{same}
use Rattle.decode.specs.Decode.{name_at}
use Rattle.walk.specs.Rows.{below}
use Rattle.walk.proofs.RowLaws.{place_is}
use Rattle.walk.proofs.names.find_name.Goals as goal

pub returns : goal.returns
unfolding below
returns c = let a = c.args in
    position_from_yields_List (λ j. same a.name.now (name_at a.tables.now.bundle.now a.tables.now.properties.now j)) _ _ _ c.position.ensures.ran (YieldsList-from_slice a.row.now cc) (λ x b q k. search (rules, tests))
    ∙ ap (below (length a.row.now)) (place_is (name_at a.tables.now.bundle.now a.tables.now.properties.now) a.name.now a.row.now)
