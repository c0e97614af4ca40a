use Rattle.settings.proofs.SettingLaws.{counts_read}
use Rattle.settings.proofs.counts_at.Goals as goal

pub returns : goal.returns
returns c = counts_read c.args.counts.now _ _ _ _ _ c.count_at.ensures c.count_at-2.ensures c.count_at-3.ensures c.count_at-4.ensures c.count_at-5.ensures
