use Rattle.drawing.proofs.ListLaws.{counted}
use Rattle.drawing.proofs.list.count.Goals as goal

pub returns : goal.returns
returns c = counted c.args.order.now c.count_from.new.order c.count_from-2.new.order c.args.ways c.requires.0 c.count_from.ensures c.count_from-2.ensures
