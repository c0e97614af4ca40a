use Rattle.std.specs.Prelude.{⊤}
use Rattle.properties.proofs.FormLaws.{form_as, next_as, no_more, Is}
use Rattle.properties.specs.Eval.{sign_form, prop_form, width_form, last_form, form_next}
use Rattle.properties.specs.declared.Form.TheVariants.{Empty, Opening, PropName, PropOpening, WidthName, PropClosing, Increment}
use Rattle.input.proofs.TokenLaws.{not_sign, not_identifier, not_string, not_number_lem, cond_false}
use Rattle.input.specs.Text.{token_of}
use Rattle.grammar.specs.View.{is_sign, on_identifier, on_string, on_number}
use Rattle.grammar.specs.Token.{left_paren, right_paren}
use mathlib.Core.List.{[], ◌∷◌}
use mathlib.Core.Path.{refl}
use borrow.Enum.Refused.{opened}
use Rattle.properties.proofs.eval.form_next.Goals as goal

-- what an answer unfolds at a token that is known
unfoldable by_token : ⊤
unfolding form_next sign_form prop_form width_form last_form token_of is_sign on_identifier on_string on_number
by_token = tt

pub returns-in-Empty-LeftParen : goal.returns-in-Empty-LeftParen
unfolding by_token
returns-in-Empty-LeftParen c = next_as _ c.in-Empty-LeftParen.is-0 (form_as (form_next Empty) _ c.in-Empty-LeftParen.is-1 refl)

pub returns-in-Opening-Identifier : goal.returns-in-Opening-Identifier
unfolding by_token
returns-in-Opening-Identifier c = next_as _ c.in-Opening-Identifier.is-0 (form_as (form_next Opening) _ c.in-Opening-Identifier.is-1 c.word_form.ensures)

pub returns-in-PropName-LeftParen : goal.returns-in-PropName-LeftParen
unfolding by_token
returns-in-PropName-LeftParen c = next_as _ c.in-PropName-LeftParen.is-0 (form_as (form_next PropName) _ c.in-PropName-LeftParen.is-1 refl)

pub returns-in-PropOpening-Text : goal.returns-in-PropOpening-Text
unfolding by_token
returns-in-PropOpening-Text c = next_as _ c.in-PropOpening-Text.is-0 (form_as (form_next PropOpening) _ c.in-PropOpening-Text.is-1 c.word_form-in-PropOpening-Text.ensures)

pub returns-in-WidthName-RightParen : goal.returns-in-WidthName-RightParen
unfolding by_token
returns-in-WidthName-RightParen c = next_as _ c.in-WidthName-RightParen.is-0 (form_as (form_next WidthName) _ c.in-WidthName-RightParen.is-1 refl)

pub returns-in-PropClosing-RightParen : goal.returns-in-PropClosing-RightParen
unfolding by_token
returns-in-PropClosing-RightParen c = next_as _ c.in-PropClosing-RightParen.is-0 (form_as (form_next PropClosing) _ c.in-PropClosing-RightParen.is-1 refl)

pub returns-in-PropClosing-Number : goal.returns-in-PropClosing-Number
unfolding by_token
returns-in-PropClosing-Number c = next_as _ c.in-PropClosing-Number.is-0 (form_as (form_next PropClosing) _ c.in-PropClosing-Number.is-1 refl)

pub returns-in-Increment-RightParen : goal.returns-in-Increment-RightParen
unfolding by_token
returns-in-Increment-RightParen c = next_as _ c.in-Increment-RightParen.is-0 (form_as (form_next (Increment _)) _ c.in-Increment-RightParen.is-1 refl)

pub returns-in_default : goal.returns-in_default
unfolding form_next sign_form
returns-in_default c = next_as _ c.in_default.is-0 (cond_false _ _ _ (not_sign _ (7 ∷ []) _ (opened c.in_default.in_default-own.keys2) left_paren tt) refl)

pub returns-in_default-2 : goal.returns-in_default-2
unfolding form_next prop_form
returns-in_default-2 c = next_as _ c.in_default.is-0 (not_identifier _ (1 ∷ []) _ (opened c.in_default.in_default-own.keys2) (Is _) _ _ tt refl)

pub returns-in_default-3 : goal.returns-in_default-3
unfolding form_next sign_form
returns-in_default-3 c = next_as _ c.in_default.is-0 (cond_false _ _ _ (not_sign _ (7 ∷ []) _ (opened c.in_default.in_default-own.keys2) left_paren tt) refl)

pub returns-in_default-4 : goal.returns-in_default-4
unfolding form_next width_form
returns-in_default-4 c = next_as _ c.in_default.is-0 (not_string _ (2 ∷ []) _ (opened c.in_default.in_default-own.keys2) (Is _) _ _ tt refl)

pub returns-in_default-5 : goal.returns-in_default-5
unfolding form_next sign_form
returns-in_default-5 c = next_as _ c.in_default.is-0 (cond_false _ _ _ (not_sign _ (8 ∷ []) _ (opened c.in_default.in_default-own.keys2) right_paren tt) refl)

pub returns-in_default-6 : goal.returns-in_default-6
unfolding form_next last_form
returns-in_default-6 c =
    let taken = 8 ∷ 3 ∷ [] in
    let own = opened c.in_default.in_default-own.keys3 in
    next_as _ c.in_default.is-0 (cond_false _ _ _ (not_sign _ taken _ own right_paren tt) (not_number_lem _ taken _ own (Is _) _ _ tt refl))

pub returns-in_default-7 : goal.returns-in_default-7
unfolding form_next sign_form
returns-in_default-7 c = next_as _ c.in_default.is-0 (cond_false _ _ _ (not_sign _ (8 ∷ []) _ (opened c.in_default.in_default-own.keys2) right_paren tt) refl)

pub returns-in_default-8 : goal.returns-in_default-8
returns-in_default-8 c = no_more c.args.f _ c.in_default.not-Empty-0 c.in_default.not-Opening-0 c.in_default.not-PropName-0 c.in_default.not-PropOpening-0 c.in_default.not-WidthName-0 c.in_default.not-PropClosing-0 c.in_default.not-Increment-0
