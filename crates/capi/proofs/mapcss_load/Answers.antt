use Rattle.capi.proofs.AnswerLaws.{load_told}
use Rattle.capi.proofs.mapcss_load.Goals as goal

pub returns : goal.returns
returns c = load_told c.load.ensures c.told_load.ensures c.tell.ensures.kind c.tell.ensures.stored_words
