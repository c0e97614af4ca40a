use Rattle.tag_number.proofs.Texts.{words_same}
use Rattle.tag_number.proofs.is_word.Goals as goal

pub returns : goal.returns
returns c = words_same _ _ _ c.eq_ignore_ascii_case.ensures.test
