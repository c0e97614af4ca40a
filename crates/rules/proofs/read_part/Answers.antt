use mathlib.Core.Path.{refl}
use native.Mathlib.Omega.{arith}
use mathlib.Core.List.{[], ◌∷◌}
use Rattle.base.specs.Choice.{via}
use Rattle.input.proofs.TokenLaws.{not_sign, not_zoom_range}
use Rattle.keep.proofs.Laws.{no_token, got, got_as, no_way}
use Rattle.rules.specs.Rules.{Parts, bad_part, is_closing, is_zoom, is_bracket}
use Rattle.grammar.specs.View.{is_sign, on_zoom_range}
use Rattle.input.specs.Text.{token_of}
use Rattle.grammar.specs.Token.{left_brace, comma, left_bracket, colon, double_colon}
use Rattle.rules.proofs.RuleLaws.{widen_part}
use borrow.Enum.Refused.{opened}
use Rattle.rules.proofs.read_part.Goals as goal
use Rattle.base.proofs.Options.{handed_on}

pub returns-in_err-t : goal.returns-in_err-t
unfolding token_of is_sign on_zoom_range
returns-in_err-t c = rw (handed_on _ c.from_residual.ensures) (λ τ w. no_token (Parts _ _ _ _ _) _ _ _ _ _ (via c.read_mandatory_token.ensures c.in_err-t.was) (bad_part refl))

pub returns-in-LeftBrace : goal.returns-in-LeftBrace
unfolding token_of is_sign on_zoom_range
returns-in-LeftBrace c = λ τ w. got_as (Parts _ _ _ _ _) _ _ _ _ _ (via c.read_mandatory_token.ensures c.in_ok-t.was) c.in-LeftBrace.is (λ m1. is_closing _ _ (omega arith))

pub returns-in-Comma : goal.returns-in-Comma
unfolding token_of is_sign on_zoom_range
returns-in-Comma c = λ τ w. got_as (Parts _ _ _ _ _) _ _ _ _ _ (via c.read_mandatory_token.ensures c.in_ok-t.was) c.in-Comma.is (λ m1. is_closing _ _ (omega arith))

pub returns-in-ZoomRange : goal.returns-in-ZoomRange
unfolding token_of is_sign on_zoom_range
returns-in-ZoomRange c = λ τ w. got_as (Parts _ _ _ _ _) _ _ _ _ _ (via c.read_mandatory_token.ensures c.in_ok-t.was) c.in-ZoomRange.is (λ m1. is_zoom _ _ _ (omega arith))

pub returns-in-LeftBracket : goal.returns-in-LeftBracket
unfolding token_of is_sign on_zoom_range
returns-in-LeftBracket c = λ τ w. got_as (Parts _ _ _ _ _) _ _ _ _ _ (via c.read_mandatory_token.ensures c.in_ok-t.was) c.in-LeftBracket.is (λ m1. is_bracket _ (omega arith))

pub returns-in-Colon : goal.returns-in-Colon
unfolding token_of is_sign on_zoom_range
returns-in-Colon c = λ τ w. got_as (Parts _ _ _ _ _) _ _ _ _ _ (via c.read_mandatory_token.ensures c.in_ok-t.was) c.in-Colon.is (λ m1. widen_part (omega arith) (c.read_class.ensures τ w))

pub returns-in-DoubleColon : goal.returns-in-DoubleColon
unfolding token_of is_sign on_zoom_range
returns-in-DoubleColon c = λ τ w. got_as (Parts _ _ _ _ _) _ _ _ _ _ (via c.read_mandatory_token.ensures c.in_ok-t.was) c.in-DoubleColon.is (λ m1. widen_part (omega arith) (c.read_layer.ensures τ w))

pub returns-in_default : goal.returns-in_default
returns-in_default c =
    let taken = 4 ∷ 9 ∷ 11 ∷ 22 ∷ 23 ∷ 25 ∷ [] in
    let own = opened c.in_default.in_default-own.keys7 in
    λ τ w. got (Parts _ _ _ _ _) _ _ _ _ _ (via c.read_mandatory_token.ensures c.in_ok-t.was) (λ m1. no_way (Parts _ _ _ _ _) _ _ _ (not_sign _ taken _ own left_brace tt) (no_way (Parts _ _ _ _ _) _ _ _ (not_sign _ taken _ own comma tt) (not_zoom_range _ taken _ own (Parts _ _ _ _ _) _ _ tt (no_way (Parts _ _ _ _ _) _ _ _ (not_sign _ taken _ own left_bracket tt) (no_way (Parts _ _ _ _ _) _ _ _ (not_sign _ taken _ own colon tt) (no_way (Parts _ _ _ _ _) _ _ _ (not_sign _ taken _ own double_colon tt) (bad_part c.refuse.ensures)))))))
