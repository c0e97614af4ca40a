use mathlib.Core.Path.{refl}
use native.Mathlib.Omega.{arith}
use mathlib.Core.List.{[], ◌∷◌}
use Rattle.base.proofs.Options.{handed_on}
use Rattle.base.specs.Choice.{via}
use Rattle.input.proofs.TokenLaws.{not_sign}
use Rattle.keep.proofs.Laws.{no_token, got, got_as, no_figure, a_figure, no_way}
use Rattle.grammar.specs.View.{is_sign}
use Rattle.input.specs.Text.{token_of}
use Rattle.grammar.specs.Token.{semi_colon, comma}
use Rattle.properties.specs.Answers.{Nexts, no_next, at_end, a_next}
use borrow.Enum.Refused.{opened}
use Rattle.properties.proofs.read_listed.Goals as goal

pub returns-in_err-t : goal.returns-in_err-t
returns-in_err-t c = rw (handed_on _ c.from_residual.ensures) (λ τ K N. no_token (Nexts _ _ _ _ _ _) _ _ _ _ _ (via c.read_mandatory_token.ensures c.in_err-t.was) (no_next refl))

pub returns-in-SemiColon : goal.returns-in-SemiColon
unfolding token_of is_sign
returns-in-SemiColon c = λ τ K N. got_as (Nexts _ _ _ _ _ _) _ _ _ _ _ (via c.read_mandatory_token.ensures c.in_ok-t.was) c.in-SemiColon.is (λ m1. at_end _ (omega arith))

pub returns-in_err-x-in-Comma : goal.returns-in_err-x-in-Comma
unfolding token_of is_sign
returns-in_err-x-in-Comma c = rw (handed_on _ c.from_residual-in_err-x-in-Comma.ensures) (λ τ K N. got_as (Nexts _ _ _ _ _ _) _ _ _ _ _ (via c.read_mandatory_token.ensures c.in_ok-t.was) c.in-Comma.is (λ m1. no_figure (Nexts _ _ _ _ _ _) _ _ _ _ _ (via c.read_figure.ensures c.in_err-x-in-Comma.was) (no_next refl)))

pub returns-in_ok-x-in-Comma : goal.returns-in_ok-x-in-Comma
unfolding token_of is_sign
returns-in_ok-x-in-Comma c = λ τ K N. got_as (Nexts _ _ _ _ _ _) _ _ _ _ _ (via c.read_mandatory_token.ensures c.in_ok-t.was) c.in-Comma.is (λ m1. a_figure (Nexts _ _ _ _ _ _) _ _ _ _ _ (via c.read_figure.ensures c.in_ok-x-in-Comma.was) (λ m2. a_next _ _ (omega arith)))

pub returns-in_default : goal.returns-in_default
returns-in_default c =
    let taken = 24 ∷ 25 ∷ [] in
    let own = opened c.in_default.in_default-own.keys3 in
    λ τ K N. got (Nexts _ _ _ _ _ _) _ _ _ _ _ (via c.read_mandatory_token.ensures c.in_ok-t.was) (λ m1. no_way (Nexts _ _ _ _ _ _) _ _ _ (not_sign _ taken _ own semi_colon tt) (no_way (Nexts _ _ _ _ _ _) _ _ _ (not_sign _ taken _ own comma tt) (no_next c.refuse.ensures)))
