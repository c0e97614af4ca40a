use Rattle.std.specs.Prelude.{⊤}
use mathlib.Core.Path.{refl}
use native.Mathlib.Omega.{arith}
use mathlib.Core.List.{[], ◌∷◌}
use Rattle.base.specs.Choice.{via}
use Rattle.input.proofs.TokenLaws.{not_identifier, not_string, not_number_lem, not_color_ref, not_color}
use Rattle.keep.proofs.Laws.{no_token, got, got_as}
use Rattle.properties.specs.Answers.{Values, bad_value}
use Rattle.grammar.specs.View.{is_sign, on_identifier, on_string, on_color, on_color_ref, on_number}
use Rattle.input.specs.Text.{token_of}
use Rattle.grammar.specs.Reader.{read_property_value}
use Rattle.properties.proofs.ValueLaws.{widen_value}
use borrow.Enum.Refused.{opened}
use Rattle.properties.proofs.read_property_value.Goals as goal
use Rattle.base.proofs.Options.{handed_on}

-- what an answer unfolds at a token that is known
unfoldable by_token : ⊤
unfolding read_property_value token_of is_sign on_identifier on_string on_color on_color_ref on_number
by_token = tt

pub returns-in_err-t-clause-read : goal.returns-in_err-t-clause-read
unfolding by_token
returns-in_err-t-clause-read c = rw (handed_on _ c.from_residual.ensures) (λ k h. no_token (Values _ _ _ _ _) _ _ _ _ _ (via c.read_mandatory_token.ensures c.in_err-t.was) (bad_value refl))

pub returns-in-Identifier-clause-read : goal.returns-in-Identifier-clause-read
unfolding by_token
returns-in-Identifier-clause-read c = λ k h. got_as (Values _ _ _ _ _) _ _ _ _ _ (via c.read_mandatory_token.ensures c.in_ok-t.was) c.in-Identifier.is (λ m1. widen_value (omega arith) (c.read_identifier_value.ensures.read k (omega arith)))

pub returns-in-Text-clause-read : goal.returns-in-Text-clause-read
unfolding by_token
returns-in-Text-clause-read c = λ k h. got_as (Values _ _ _ _ _) _ _ _ _ _ (via c.read_mandatory_token.ensures c.in_ok-t.was) c.in-Text.is (λ m1. widen_value (omega arith) (c.end_value.ensures _ _ refl))

pub returns-in-Color-clause-read : goal.returns-in-Color-clause-read
unfolding by_token
returns-in-Color-clause-read c = λ k h. got_as (Values _ _ _ _ _) _ _ _ _ _ (via c.read_mandatory_token.ensures c.in_ok-t.was) c.in-Color.is (λ m1. widen_value (omega arith) (c.end_value-in-Color.ensures _ _ refl))

pub returns-in-ColorRef-clause-read : goal.returns-in-ColorRef-clause-read
unfolding by_token
returns-in-ColorRef-clause-read c = λ k h. got_as (Values _ _ _ _ _) _ _ _ _ _ (via c.read_mandatory_token.ensures c.in_ok-t.was) c.in-ColorRef.is (λ m1. widen_value (omega arith) (c.read_reference.ensures _))

pub returns-in-Number-clause-read : goal.returns-in-Number-clause-read
unfolding by_token
returns-in-Number-clause-read c = λ k h. got_as (Values _ _ _ _ _) _ _ _ _ _ (via c.read_mandatory_token.ensures c.in_ok-t.was) c.in-Number.is (λ m1. widen_value (omega arith) (c.read_numbers_value.ensures.read k (omega arith)))

pub returns-in_default-clause-read : goal.returns-in_default-clause-read
unfolding read_property_value
returns-in_default-clause-read c =
    let taken = 1 ∷ 2 ∷ 3 ∷ 5 ∷ 6 ∷ [] in
    let own = opened c.in_default.in_default-own.keys6 in
    λ k h. got (Values _ _ _ _ _) _ _ _ _ _ (via c.read_mandatory_token.ensures c.in_ok-t.was) (λ m1. not_identifier _ taken _ own (Values _ _ _ _ _) _ _ tt (not_string _ taken _ own (Values _ _ _ _ _) _ _ tt (not_color _ taken _ own (Values _ _ _ _ _) _ _ tt (not_color_ref _ taken _ own (Values _ _ _ _ _) _ _ tt (not_number_lem _ taken _ own (Values _ _ _ _ _) _ _ tt (bad_value c.refuse.ensures))))))
