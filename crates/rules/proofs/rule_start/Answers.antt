use Rattle.rules.specs.Rules.{Starts, bad_start, body, start_of}
use Rattle.grammar.specs.View.{is_sign, on_identifier}
use Rattle.input.specs.Text.{token_of}
use Rattle.grammar.specs.Reader.{is_colors}
use Rattle.rules.proofs.RuleLaws.{start_as, start_none}
use borrow.Enum.Refused.{opened}
use Rattle.rules.proofs.rule_start.Goals as goal

pub returns-in-LeftBrace : goal.returns-in-LeftBrace
unfolding start_of token_of is_sign on_identifier is_colors
returns-in-LeftBrace c = λ τ B C O K. start_as (Starts _ _ _ _ _) _ _ _ _ _ _ _ c.in-LeftBrace.is (body)

pub returns-in-Identifier : goal.returns-in-Identifier
unfolding start_of token_of is_sign on_identifier is_colors
returns-in-Identifier c = λ τ B C O K. start_as (Starts _ _ _ _ _) _ _ _ _ _ _ _ c.in-Identifier.is (c.word_start.ensures τ B C O K)

pub returns-in_default : goal.returns-in_default
returns-in_default c = λ τ B C O K. start_none (Starts _ _ _ _ _) _ _ _ _ _ _ _ _ (opened c.in_default.in_default-own.keys3) (bad_start c.refuse.ensures)
