use borrow.Author.Rules.{rules}
use mathlib.Core.Path.{ap, ◌∙◌}
use mathlib.Core.Bool.{not}
use Rattle.tag_number.proofs.Texts.{whole_none, whole_all}
use Rattle.tag_number.proofs.is_whole_text.Goals as goal

pub returns-then-not-is_empty : goal.returns-then-not-is_empty
returns-then-not-is_empty c = whole_all c.args.v.now _ (search rules) c.digit_count.ensures

pub returns-else-not-is_empty : goal.returns-else-not-is_empty
returns-else-not-is_empty c = ap not c.if-not-is_empty.false ∙ whole_none c.args.v.now (search rules)
