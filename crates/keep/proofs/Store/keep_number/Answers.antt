use Rattle.keep.proofs.KeepLaws.{kept_none, kept_one}
use Rattle.keep.specs.Lent.{keep_number_of, number_kept}
use Rattle.base.specs.Choice.{via_with}
use Rattle.keep.proofs.Store.keep_number.Goals as goal

pub returns-in_err-self-clause-kept : goal.returns-in_err-self-clause-kept
unfolding keep_number_of number_kept
returns-in_err-self-clause-kept c = rw c.from_residual.ensures (kept_none _ _ _ _ _ _ _ (via_with c.put_number.ensures c.in_err-self.was))

pub returns-clause-kept : goal.returns-clause-kept
unfolding keep_number_of number_kept
returns-clause-kept c = kept_one _ _ _ _ _ _ _ (via_with c.put_number.ensures c.in_ok-self.was)
