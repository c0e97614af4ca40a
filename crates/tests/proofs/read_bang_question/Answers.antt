use mathlib.Core.Path.{refl}
use native.Mathlib.Omega.{arith}
use mathlib.Core.List.{[], ◌∷◌}
use Rattle.base.specs.Choice.{via}
use Rattle.input.proofs.TokenLaws.{not_sign}
use Rattle.keep.proofs.Laws.{no_token, got, got_as, no_way, widen}
use Rattle.keep.specs.Answers.{Reads, refuses}
use Rattle.tests.proofs.Rows.{unary_row}
use Rattle.grammar.specs.Token.{right_bracket}
use Rattle.grammar.specs.View.{is_sign}
use Rattle.input.specs.Text.{token_of}
use Rattle.sheet.specs.Sheet.{is_false}
use borrow.Enum.Refused.{opened}
use Rattle.tests.proofs.read_bang_question.Goals as goal
use Rattle.base.proofs.Options.{handed_on}

pub returns-in_err-t-clause-read : goal.returns-in_err-t-clause-read
unfolding token_of is_sign
returns-in_err-t-clause-read c = rw (handed_on _ c.from_residual.ensures) (no_token (Reads _ _ _ _ _) _ _ _ _ _ (via c.read_mandatory_token.ensures c.in_err-t.was) (refuses refl))

pub returns-in-RightBracket-clause-read : goal.returns-in-RightBracket-clause-read
unfolding token_of is_sign
returns-in-RightBracket-clause-read c = got_as (Reads _ _ _ _ _) _ _ _ _ _ (via c.read_mandatory_token.ensures c.in_ok-t.was) c.in-RightBracket.is (λ m1. widen (omega arith) (c.store_test.ensures.read _ _ (unary_row c.args.text.bundle.now is_false c.args.key c.args.store.now.tally.number)))

pub returns-in_default-clause-read : goal.returns-in_default-clause-read
returns-in_default-clause-read c = got (Reads _ _ _ _ _) _ _ _ _ _ (via c.read_mandatory_token.ensures c.in_ok-t.was) (λ m1. no_way (Reads _ _ _ _ _) _ _ _ (not_sign _ (10 ∷ []) _ (opened c.in_default.in_default-own.keys2) right_bracket tt) (refuses c.refuse.ensures))
