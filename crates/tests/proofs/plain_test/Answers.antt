use Rattle.std.specs.Prelude.{⊤}
use mathlib.Core.Path.{refl}
use mathlib.Core.List.{[], ◌∷◌}
use Rattle.input.proofs.TokenLaws.{not_sign}
use Rattle.keep.proofs.Laws.{no_way}
use Rattle.keep.specs.Answers.{Reads, refuses}
use Rattle.tests.proofs.Rows.{unary_row, no_operator, plain_as}
use Rattle.grammar.specs.Token.{right_bracket, question_mark}
use Rattle.grammar.specs.View.{is_sign}
use Rattle.input.specs.Text.{token_of}
use Rattle.grammar.specs.Reader.{plain_test, to_binary_string_test_type, to_binary_numeric_test_type}
use Rattle.grammar.specs.Input.{on_option}
use Rattle.sheet.specs.Sheet.{equal, not_equal, less, less_or_equal, greater, greater_or_equal, exists}
use borrow.Enum.Refused.{opened}
use Rattle.tests.proofs.plain_test.Goals as goal

-- what a test's answer unfolds at an operator that is known
unfoldable by_operator : ⊤
unfolding plain_test token_of is_sign to_binary_string_test_type to_binary_numeric_test_type on_option
by_operator = tt

pub returns-in-Equal-clause-read : goal.returns-in-Equal-clause-read
unfolding by_operator
returns-in-Equal-clause-read c = plain_as (Reads _ _ _ _ _) _ _ _ _ _ c.in-Equal.is (c.read_operand.ensures.read equal refl refl)

pub returns-in-NotEqual-clause-read : goal.returns-in-NotEqual-clause-read
unfolding by_operator
returns-in-NotEqual-clause-read c = plain_as (Reads _ _ _ _ _) _ _ _ _ _ c.in-NotEqual.is (c.read_operand-in-NotEqual.ensures.read not_equal refl refl)

pub returns-in-Less-clause-read : goal.returns-in-Less-clause-read
unfolding by_operator
returns-in-Less-clause-read c = plain_as (Reads _ _ _ _ _) _ _ _ _ _ c.in-Less.is (c.read_number.ensures.read less refl)

pub returns-in-LessOrEqual-clause-read : goal.returns-in-LessOrEqual-clause-read
unfolding by_operator
returns-in-LessOrEqual-clause-read c = plain_as (Reads _ _ _ _ _) _ _ _ _ _ c.in-LessOrEqual.is (c.read_number-in-LessOrEqual.ensures.read less_or_equal refl)

pub returns-in-Greater-clause-read : goal.returns-in-Greater-clause-read
unfolding by_operator
returns-in-Greater-clause-read c = plain_as (Reads _ _ _ _ _) _ _ _ _ _ c.in-Greater.is (c.read_number-in-Greater.ensures.read greater refl)

pub returns-in-GreaterOrEqual-clause-read : goal.returns-in-GreaterOrEqual-clause-read
unfolding by_operator
returns-in-GreaterOrEqual-clause-read c = plain_as (Reads _ _ _ _ _) _ _ _ _ _ c.in-GreaterOrEqual.is (c.read_number-in-GreaterOrEqual.ensures.read greater_or_equal refl)

pub returns-in-RightBracket-clause-read : goal.returns-in-RightBracket-clause-read
unfolding by_operator
returns-in-RightBracket-clause-read c = plain_as (Reads _ _ _ _ _) _ _ _ _ _ c.in-RightBracket.is (c.store_test.ensures.read _ _ (unary_row c.args.text.bundle.now exists c.args.key c.args.store.now.tally.number))

pub returns-in-QuestionMark-clause-read : goal.returns-in-QuestionMark-clause-read
unfolding by_operator
returns-in-QuestionMark-clause-read c = plain_as (Reads _ _ _ _ _) _ _ _ _ _ c.in-QuestionMark.is (c.read_question.ensures.read)

pub returns-in_default-clause-read : goal.returns-in_default-clause-read
unfolding plain_test
returns-in_default-clause-read c =
    let taken = 10 ∷ 13 ∷ 14 ∷ 15 ∷ 16 ∷ 17 ∷ 18 ∷ 21 ∷ [] in
    let own = opened c.in_default.in_default-own.keys9 in
    no_operator _ taken _ own (Reads _ _ _ _ _) _ _ _ tt tt tt tt tt tt (no_way (Reads _ _ _ _ _) _ _ _ (not_sign _ taken _ own right_bracket tt) (no_way (Reads _ _ _ _ _) _ _ _ (not_sign _ taken _ own question_mark tt) (refuses c.refuse.ensures)))
