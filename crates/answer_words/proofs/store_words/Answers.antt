use mathlib.Core.Path.{refl, sym, ◌∙◌, ap}
use Rattle.std.proofs.lemmas.List.{drop_more}
use Rattle.std.proofs.Math.ListN.{drop_of_length-le}
use Rattle.base.specs.Table.{stored}
use Rattle.answer_words.proofs.store_words.Goals as goal

pub loop-i-init : goal.loop-i-init
loop-i-init c = refl

pub loop-i-preserved : goal.loop-i-preserved
loop-i-preserved c = let l = c.loop-i in
    rw c.store.ensures (sym (ap (stored l.out l.i) (drop_more c.args.words.now l.i 0 c.loop-i-test.true)) ∙ l.invariant)

pub returns : goal.returns
returns c = let l = c.loop-i in
    sym (ap (stored l.out l.i) (drop_of_length-le c.args.words.now c.loop-i-test.false)) ∙ l.invariant
