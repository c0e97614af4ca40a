-- A bundle that is refused is not read; of one that is sound the first text is parsed.
use Rattle.base.proofs.Options.{handed_on}
use Rattle.parser.proofs.LoadLaws.{bad_read, texts_read}
use Rattle.base.specs.Choice.{via}
use Rattle.parser.proofs.read_bundle.Goals as goal

pub returns-in_err-check_bundle-clause-read : goal.returns-in_err-check_bundle-clause-read
returns-in_err-check_bundle-clause-read c = rw (handed_on _ c.from_residual.ensures) (bad_read _ _ _ (via c.check_bundle.ensures c.in_err-check_bundle.was))

pub returns-clause-read : goal.returns-clause-read
returns-clause-read c = texts_read _ _ _ _ _ (via c.check_bundle.ensures c.in_ok-check_bundle.was) c.first_text.ensures c.parse.ensures.read
