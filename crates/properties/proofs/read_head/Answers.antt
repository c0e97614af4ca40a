use mathlib.Core.Path.{refl}
use native.Mathlib.Omega.{arith}
use mathlib.Core.List.{[], ◌∷◌}
use Rattle.base.proofs.Options.{handed_on}
use Rattle.base.specs.Choice.{via}
use Rattle.input.proofs.TokenLaws.{not_sign, not_identifier}
use Rattle.keep.proofs.Laws.{no_token, got, got_as, no_way}
use Rattle.grammar.specs.View.{is_sign, on_identifier}
use Rattle.input.specs.Text.{token_of}
use Rattle.grammar.specs.Token.{right_brace}
use Rattle.properties.specs.Answers.{Nexts, no_next, at_end, a_next}
use borrow.Enum.Refused.{opened}
use Rattle.properties.proofs.read_head.Goals as goal

pub returns-in_err-t : goal.returns-in_err-t
returns-in_err-t c = rw (handed_on _ c.from_residual.ensures) (λ τ K N. no_token (Nexts _ _ _ _ _ _) _ _ _ _ _ (via c.read_mandatory_token.ensures c.in_err-t.was) (no_next refl))

pub returns-in-Identifier : goal.returns-in-Identifier
unfolding token_of is_sign on_identifier
returns-in-Identifier c = λ τ K N. got_as (Nexts _ _ _ _ _ _) _ _ _ _ _ (via c.read_mandatory_token.ensures c.in_ok-t.was) c.in-Identifier.is (λ m1. a_next _ _ (omega arith))

pub returns-in-RightBrace : goal.returns-in-RightBrace
unfolding token_of is_sign on_identifier
returns-in-RightBrace c = λ τ K N. got_as (Nexts _ _ _ _ _ _) _ _ _ _ _ (via c.read_mandatory_token.ensures c.in_ok-t.was) c.in-RightBrace.is (λ m1. at_end _ (omega arith))

pub returns-in_default : goal.returns-in_default
returns-in_default c =
    let taken = 1 ∷ 12 ∷ [] in
    let own = opened c.in_default.in_default-own.keys3 in
    λ τ K N. got (Nexts _ _ _ _ _ _) _ _ _ _ _ (via c.read_mandatory_token.ensures c.in_ok-t.was) (λ m1. not_identifier _ taken _ own (Nexts _ _ _ _ _ _) _ _ tt (no_way (Nexts _ _ _ _ _ _) _ _ _ (not_sign _ taken _ own right_brace tt) (no_next c.refuse.ensures)))
