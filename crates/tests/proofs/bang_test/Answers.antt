use mathlib.Core.List.{[], ◌∷◌}
use Rattle.input.proofs.TokenLaws.{not_sign}
use Rattle.keep.proofs.Laws.{no_way}
use Rattle.keep.specs.Answers.{Reads, refuses}
use Rattle.tests.proofs.Rows.{unary_row, bang_as}
use Rattle.grammar.specs.Token.{right_bracket, question_mark}
use Rattle.grammar.specs.View.{is_sign}
use Rattle.input.specs.Text.{token_of}
use Rattle.grammar.specs.Reader.{bang_test}
use Rattle.sheet.specs.Sheet.{not_exists}
use borrow.Enum.Refused.{opened}
use Rattle.tests.proofs.bang_test.Goals as goal

pub returns-in-RightBracket-clause-read : goal.returns-in-RightBracket-clause-read
unfolding bang_test token_of is_sign
returns-in-RightBracket-clause-read c = bang_as (Reads _ _ _ _ _) _ _ _ _ _ c.in-RightBracket.is (c.store_test.ensures.read _ _ (unary_row c.args.text.bundle.now not_exists c.args.key c.args.store.now.tally.number))

pub returns-in-QuestionMark-clause-read : goal.returns-in-QuestionMark-clause-read
unfolding bang_test token_of is_sign
returns-in-QuestionMark-clause-read c = bang_as (Reads _ _ _ _ _) _ _ _ _ _ c.in-QuestionMark.is (c.read_bang_question.ensures.read)

pub returns-in_default-clause-read : goal.returns-in_default-clause-read
unfolding bang_test
returns-in_default-clause-read c =
    let taken = 10 ∷ 21 ∷ [] in
    let own = opened c.in_default.in_default-own.keys3 in
    no_way (Reads _ _ _ _ _) _ _ _ (not_sign _ taken _ own right_bracket tt) (no_way (Reads _ _ _ _ _) _ _ _ (not_sign _ taken _ own question_mark tt) (refuses c.refuse.ensures))
