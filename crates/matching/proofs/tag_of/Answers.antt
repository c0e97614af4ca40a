use Rattle.group.specs.Pair.{pairs_at}
use Rattle.matching.proofs.Tests.{tag_plain, tag_joined}
use Rattle.matching.proofs.tag_of.Goals as goal

pub returns-then-word_of-eq1 : goal.returns-then-word_of-eq1
returns-then-word_of-eq1 c = tag_joined
    c.args.tables.now.bundle.now
    c.args.tables.now.tests.now
    c.args.entity.bytes.now
    (pairs_at
    c.args.entity.range.count
    c.args.entity.bytes.now
    c.args.entity.range.tags)
    c.args.i _
    c.word_of.ensures _ _ _
    c.range_of.ensures
    c.part-first.ensures _ _ c.range_of-then-word_of-eq1.ensures
    c.part-second.ensures c.if-word_of-eq1.true c.get_by_joined_key.ensures

pub returns : goal.returns
returns c = tag_plain
    c.args.tables.now.bundle.now
    c.args.tables.now.tests.now
    c.args.entity.bytes.now
    (pairs_at
    c.args.entity.range.count
    c.args.entity.bytes.now
    c.args.entity.range.tags)
    c.args.i _
    c.word_of.ensures _ _ _ c.range_of.ensures
    c.part-first.ensures c.if-word_of-eq1.false c.get_by_key.ensures
