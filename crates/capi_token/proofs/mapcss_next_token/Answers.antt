use mathlib.Core.Path.{◌∙◌, ap}
use lib.ListN.{set}
use Rattle.base.specs.Table.{stored}
use Rattle.capi_token.specs.Told.{told_step, words}
use Rattle.capi_token.specs.declared.Told.{Told}
use Rattle.capi_token.proofs.mapcss_next_token.Goals as goal

pub returns : goal.returns
returns c = let e = c.told_step-told.ensures ∙ ap told_step c.next_token.ensures in record { kind = ap (λ (t : Told). t.payload.kind) e; stored_words = c.store_words.ensures ∙ ap (stored c.args.out.now 0) (c.words.ensures ∙ ap words e); stored_number = c.store.ensures ∙ ap (λ (t : Told). set c.args.number.now 0 t.payload.number) e }
