use mathlib.Core.Path.{refl}
use native.Mathlib.Omega.{arith}
use mathlib.Core.List.{[], ◌∷◌}
use Rattle.base.specs.Choice.{via}
use Rattle.input.proofs.TokenLaws.{not_identifier, not_number_lem}
use Rattle.keep.proofs.Laws.{no_token, got, got_as, widen}
use Rattle.keep.specs.Answers.{Reads, refuses}
use Rattle.grammar.specs.View.{on_identifier, on_number}
use Rattle.input.specs.Text.{token_of}
use borrow.Enum.Refused.{opened}
use Rattle.tests.proofs.read_operand.Goals as goal
use Rattle.base.proofs.Options.{handed_on}

pub returns-in_err-t-clause-read : goal.returns-in_err-t-clause-read
unfolding token_of on_identifier on_number
returns-in_err-t-clause-read c = rw (handed_on _ c.from_residual.ensures) (λ op w f. no_token (Reads _ _ _ _ _) _ _ _ _ _ (via c.read_mandatory_token.ensures c.in_err-t.was) (refuses refl))

pub returns-in-Identifier-clause-read : goal.returns-in-Identifier-clause-read
unfolding token_of on_identifier on_number
returns-in-Identifier-clause-read c = λ op w f. got_as (Reads _ _ _ _ _) _ _ _ _ _ (via c.read_mandatory_token.ensures c.in_ok-t.was) c.in-Identifier.is (λ m1. widen (omega arith) (c.read_word_operand.ensures.read op w))

pub returns-in-Number-clause-read : goal.returns-in-Number-clause-read
unfolding token_of on_identifier on_number
returns-in-Number-clause-read c = λ op w f. got_as (Reads _ _ _ _ _) _ _ _ _ _ (via c.read_mandatory_token.ensures c.in_ok-t.was) c.in-Number.is (λ m1. widen (omega arith) (c.read_digits_operand.ensures.read op f))

pub returns-in_default-clause-read : goal.returns-in_default-clause-read
returns-in_default-clause-read c =
    let taken = 1 ∷ 3 ∷ [] in
    let own = opened c.in_default.in_default-own.keys3 in
    λ op w f. got (Reads _ _ _ _ _) _ _ _ _ _ (via c.read_mandatory_token.ensures c.in_ok-t.was) (λ m1. not_identifier _ taken _ own (Reads _ _ _ _ _) _ _ tt (not_number_lem _ taken _ own (Reads _ _ _ _ _) _ _ tt (refuses c.refuse.ensures)))
