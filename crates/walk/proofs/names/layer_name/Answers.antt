use mathlib.Core.Path.{sym}
use Rattle.walk.proofs.LayerLaws.{default_layer, named_layer}
use Rattle.walk.proofs.names.layer_name.Goals as goal

pub returns-then-word_of-ne1 : goal.returns-then-word_of-ne1
returns-then-word_of-ne1 c = let a = c.args in
    sym (default_layer a.tables.now.bundle.now a.tables.now.selectors.now a.s _ c.word_of.ensures c.if-word_of-ne1.true)

pub returns : goal.returns
returns c = let a = c.args in
    named_layer a.tables.now.bundle.now a.tables.now.selectors.now a.s _
    c.word_of.ensures
    c.if-word_of-ne1.false _ _
    c.range_of.ensures
    c.part.ensures
