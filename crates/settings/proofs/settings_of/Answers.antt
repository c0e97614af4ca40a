use Rattle.std.proofs.Common.{◌∙◌}
use Rattle.settings.proofs.SettingLaws.{settings_are}
use Rattle.settings.proofs.settings_of.Goals as goal

pub returns : goal.returns
returns c = settings_are c.args.k c.args.font.now c.args.for_labels c.type_of.ensures (c.copied.ensures ∙ c.first.ensures.value)
