use mathlib.Core.Path.{refl}
use native.Mathlib.Omega.{arith}
use mathlib.Core.List.{[], ◌∷◌}
use Rattle.base.specs.Choice.{via}
use Rattle.input.proofs.TokenLaws.{not_sign}
use Rattle.keep.proofs.Laws.{no_token, got, got_as, no_way}
use Rattle.properties.specs.Answers.{Values, bad_value, good_value}
use Rattle.grammar.specs.View.{is_sign}
use Rattle.input.specs.Text.{token_of}
use Rattle.grammar.specs.Token.{colon, semi_colon}
use Rattle.properties.proofs.ValueLaws.{widen_value}
use borrow.Enum.Refused.{opened}
use Rattle.properties.proofs.read_word_value.Goals as goal
use Rattle.base.proofs.Options.{handed_on}

pub returns-in_err-t : goal.returns-in_err-t
unfolding token_of is_sign
returns-in_err-t c = rw (handed_on _ c.from_residual.ensures) (λ τ. no_token (Values _ _ _ _ _) _ _ _ _ _ (via c.read_mandatory_token.ensures c.in_err-t.was) (bad_value refl))

pub returns-in-Colon : goal.returns-in-Colon
unfolding token_of is_sign
returns-in-Colon c = λ τ. got_as (Values _ _ _ _ _) _ _ _ _ _ (via c.read_mandatory_token.ensures c.in_ok-t.was) c.in-Colon.is (λ m1. widen_value (omega arith) (c.read_joined_value.ensures τ))

pub returns-in-SemiColon : goal.returns-in-SemiColon
unfolding token_of is_sign
returns-in-SemiColon c = λ τ. got_as (Values _ _ _ _ _) _ _ _ _ _ (via c.read_mandatory_token.ensures c.in_ok-t.was) c.in-SemiColon.is (λ m1. good_value _ _ (omega arith) refl)

pub returns-in_default : goal.returns-in_default
returns-in_default c =
    let taken = 22 ∷ 24 ∷ [] in
    let own = opened c.in_default.in_default-own.keys3 in
    λ τ. got (Values _ _ _ _ _) _ _ _ _ _ (via c.read_mandatory_token.ensures c.in_ok-t.was) (λ m1. no_way (Values _ _ _ _ _) _ _ _ (not_sign _ taken _ own colon tt) (no_way (Values _ _ _ _ _) _ _ _ (not_sign _ taken _ own semi_colon tt) (bad_value c.refuse.ensures)))
