use Rattle.keep.proofs.KeepLaws.{kept_none, kept_one}
use Rattle.keep.specs.Lent.{add_color_of, color_added}
use Rattle.base.specs.Choice.{via_with}
use Rattle.keep.proofs.Store.add_color.Goals as goal

pub returns-in_err-self-clause-kept : goal.returns-in_err-self-clause-kept
unfolding add_color_of color_added
returns-in_err-self-clause-kept c = rw c.from_residual.ensures (kept_none _ _ _ _ _ _ _ (via_with c.put_color.ensures c.in_err-self.was))

pub returns-clause-kept : goal.returns-clause-kept
unfolding add_color_of color_added
returns-clause-kept c = kept_one _ _ _ _ _ _ _ (via_with c.put_color.ensures c.in_ok-self.was)
