use Rattle.std.proofs.Common.{rules, tests}
use Rattle.group.specs.Pair.{entries_at}
use Rattle.entity.proofs.Keys.{keys_sorted}
use Rattle.entity.proofs.keys_rise.Goals as goal

pub returns : goal.returns
unfolding entries_at
returns c = keys_sorted _ _ c.args.tags.s.now (λ p q r f k. search (rules, tests)) c.args.tags c.is_sorted_by.result c.is_sorted_by.ensures.ran
