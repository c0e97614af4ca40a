use Rattle.keep.proofs.KeepLaws.{kept_none, kept_one}
use Rattle.keep.specs.Lent.{keep_selector_of, selector_kept}
use Rattle.base.specs.Choice.{via_with}
use Rattle.keep.proofs.Store.keep_selector.Goals as goal

pub returns-in_err-self-clause-kept : goal.returns-in_err-self-clause-kept
unfolding keep_selector_of selector_kept
returns-in_err-self-clause-kept c = rw c.from_residual.ensures (kept_none _ _ _ _ _ _ _ (via_with c.put_selector.ensures c.in_err-self.was))

pub returns-clause-kept : goal.returns-clause-kept
unfolding keep_selector_of selector_kept
returns-clause-kept c = kept_one _ _ _ _ _ _ _ (via_with c.put_selector.ensures c.in_ok-self.was)
