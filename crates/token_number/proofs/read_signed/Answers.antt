use Rattle.std.specs.Prelude.{Err}
use mathlib.Core.Path.{ap, ◌∙◌}
use Rattle.std.proofs.Common.{rules}
use Rattle.base.proofs.Options.{handed_on, mapped_ok, mapped_err}
use Rattle.base.specs.Choice.{via}
use Rattle.base.specs.Option.{result_err, result_ok}
use Rattle.token_kind.specs.Reason.{nothing_after_sign, lexer_error}
use Rattle.token_number.specs.Number.{read_signed}
use Rattle.token_number.proofs.read_signed.Goals as goal

pub returns-in_err-ch : goal.returns-in_err-ch
unfolding read_signed
returns-in_err-ch c =
    let m = mapped_err c.next_char.result c.map_err.result _ (lexer_error nothing_after_sign) (λ d e p. search rules) c.map_err.ensures.cases c.in_err-ch.was in
    handed_on _ c.from_residual.ensures ∙ result_err _ _ _ (via c.next_char.ensures m.1.0) (ap Err m.1.1)

pub returns : goal.returns
unfolding read_signed
returns c = result_ok _ _ _ (via c.next_char.ensures (mapped_ok _ _ _ c.map_err.ensures.cases c.in_ok-ch.was)) c.read_unsigned.ensures
