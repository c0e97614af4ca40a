use Rattle.std.proofs.Common.{◌∙◌}
use Rattle.input.proofs.TokenLaws.{bracket_expected}
use mathlib.Core.Path.{refl}
use native.Mathlib.Omega.{arith}
use mathlib.Core.List.{[], ◌∷◌}
use Rattle.base.specs.Choice.{via}
use Rattle.input.proofs.TokenLaws.{not_sign}
use Rattle.keep.proofs.Laws.{no_token, got, got_as, another, beyond, no_way, widen}
use Rattle.keep.specs.Answers.{Reads, refuses}
use Rattle.tests.proofs.Rows.{unary_row}
use Rattle.grammar.specs.Token.{right_bracket, bang}
use Rattle.grammar.specs.View.{is_sign}
use Rattle.input.specs.Text.{token_of}
use Rattle.sheet.specs.Sheet.{is_false, is_true}
use borrow.Enum.Refused.{opened}
use Rattle.tests.proofs.read_question.Goals as goal
use Rattle.base.proofs.Options.{handed_on}

pub returns-in_err-t-clause-read : goal.returns-in_err-t-clause-read
unfolding token_of is_sign
returns-in_err-t-clause-read c = rw (handed_on _ c.from_residual.ensures) (no_token (Reads _ _ _ _ _) _ _ _ _ _ (via c.read_mandatory_token.ensures c.in_err-t.was) (refuses refl))

pub returns-in_err-f-in-Bang-clause-read : goal.returns-in_err-f-in-Bang-clause-read
unfolding token_of is_sign
returns-in_err-f-in-Bang-clause-read c = rw (handed_on _ c.from_residual-in_err-f-in-Bang.ensures) (got_as (Reads _ _ _ _ _) _ _ _ _ _ (via c.read_mandatory_token.ensures c.in_ok-t.was) c.in-Bang.is (λ m1. another (Reads _ _ _ _ _) _ _ _ _ _ _ (via (c.expect.ensures ∙ bracket_expected _ _ _) c.in_err-f-in-Bang.was) (refuses refl)))

pub returns-in-RightBracket-clause-read : goal.returns-in-RightBracket-clause-read
unfolding token_of is_sign
returns-in-RightBracket-clause-read c = got_as (Reads _ _ _ _ _) _ _ _ _ _ (via c.read_mandatory_token.ensures c.in_ok-t.was) c.in-RightBracket.is (λ m1. widen (omega arith) (c.store_test.ensures.read _ _ (unary_row c.args.text.bundle.now is_true c.args.key c.args.store.now.tally.number)))

pub returns-in_ok-f-in-Bang-clause-read : goal.returns-in_ok-f-in-Bang-clause-read
unfolding token_of is_sign
returns-in_ok-f-in-Bang-clause-read c = got_as (Reads _ _ _ _ _) _ _ _ _ _ (via c.read_mandatory_token.ensures c.in_ok-t.was) c.in-Bang.is (λ m1. beyond (Reads _ _ _ _ _) _ _ _ _ _ _ (via (c.expect.ensures ∙ bracket_expected _ _ _) c.in_ok-f-in-Bang.was) (λ m2. widen (omega arith) (c.store_test-in-Bang.ensures.read _ _ (unary_row c.args.text.bundle.now is_false c.args.key c.args.store.now.tally.number))))

pub returns-in_default-clause-read : goal.returns-in_default-clause-read
returns-in_default-clause-read c =
    let taken = 10 ∷ 20 ∷ [] in
    let own = opened c.in_default.in_default-own.keys3 in
    got (Reads _ _ _ _ _) _ _ _ _ _ (via c.read_mandatory_token.ensures c.in_ok-t.was) (λ m1. no_way (Reads _ _ _ _ _) _ _ _ (not_sign _ taken _ own right_bracket tt) (no_way (Reads _ _ _ _ _) _ _ _ (not_sign _ taken _ own bang tt) (refuses c.refuse.ensures)))
