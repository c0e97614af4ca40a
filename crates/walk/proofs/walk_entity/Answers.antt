use Rattle.walk.proofs.WalkLaws.{zeroed}
use lib.ListN.{length}
use native.Mathlib.Omega.{arith}
use Rattle.walk.proofs.walk_entity.Goals as goal

pub walk_cleared-requires : goal.walk_cleared-requires
walk_cleared-requires c = zeroed (length c.args.maps.now) _ (c.fill.ensures.after (λ y e. e)) (omega arith)
