use Rattle.sheets.proofs.SheetLaws.{stepped_wrong, stepped_end, stepped, stepped_as}
use Rattle.sheets.specs.Sheets.{Statements, bad_statement, end_of_text, import_of, color_of, rule_at}
use Rattle.input.proofs.TokenLaws.{not_import, not_color_ref}
use Rattle.input.specs.Text.{token_of, error_at}
use Rattle.grammar.specs.View.{on_import, on_color_ref}
use Rattle.base.specs.Choice.{via}
use Rattle.base.proofs.Options.{handed_on, mapped_ok, mapped_err}
use Rattle.std.proofs.Common.{rules}
use Rattle.std.specs.Prelude.{Ok}
use mathlib.Core.List.{[], ◌∷◌}
use mathlib.Core.Path.{ap, ◌∙◌}
use borrow.Enum.Refused.{opened}
use Rattle.sheets.proofs.read_statement.Goals as goal

pub returns-in_err-map_err : goal.returns-in_err-map_err
returns-in_err-map_err c = λ τ E I C R.
    let m = mapped_err c.next.result c.map_err.result _ (error_at c.args.text.source) (λ d e p. search rules) c.map_err.ensures.cases c.in_err-map_err.was in
    stepped_wrong (Statements _ _ _ _ _ _ _ _) _ _ _ _ _ _ (via c.next.ensures m.1.0) (rw (handed_on _ c.from_residual.ensures) (bad_statement m.1.1))

pub returns-in-End : goal.returns-in-End
returns-in-End c = λ τ E I C R. stepped_end (Statements _ _ _ _ _ _ _ _) _ _ _ _ _ _ (via c.next.ensures (mapped_ok _ _ _ c.map_err.ensures.cases c.in_ok-map_err.was ∙ ap Ok c.in-End.is)) (end_of_text _)

pub returns-in-Took-Import-default-default-default : goal.returns-in-Took-Import-default-default-default
unfolding token_of on_import on_color_ref
returns-in-Took-Import-default-default-default c = λ τ E I C R. stepped_as (Statements _ _ _ _ _ _ _ _) _ _ _ _ _ _ (via c.next.ensures (mapped_ok _ _ _ c.map_err.ensures.cases c.in_ok-map_err.was ∙ ap Ok c.in-Took-Import-default-default-default.is)) c.in-Took-Import-default-default-default.field-0-is (λ m. import_of _ _ m)

pub returns-in-Took-ColorRef-default-default-default : goal.returns-in-Took-ColorRef-default-default-default
unfolding token_of on_import on_color_ref
returns-in-Took-ColorRef-default-default-default c = λ τ E I C R. stepped_as (Statements _ _ _ _ _ _ _ _) _ _ _ _ _ _ (via c.next.ensures (mapped_ok _ _ _ c.map_err.ensures.cases c.in_ok-map_err.was ∙ ap Ok c.in-Took-ColorRef-default-default-default.is)) c.in-Took-ColorRef-default-default-default.field-0-is (λ m. color_of _ _ m)

pub returns-in-Took : goal.returns-in-Took
returns-in-Took c =
    let taken = 0 ∷ 5 ∷ [] in
    let own = opened c.in-Took.in-Took-own'.keys3 in
    λ τ E I C R. stepped (Statements _ _ _ _ _ _ _ _) _ _ _ _ _ _ (via c.next.ensures (mapped_ok _ _ _ c.map_err.ensures.cases c.in_ok-map_err.was ∙ ap Ok c.in-Took.is)) (λ m. not_import _ taken _ own (Statements _ _ _ _ _ _ _ _) _ _ tt (not_color_ref _ taken _ own (Statements _ _ _ _ _ _ _ _) _ _ tt (rule_at _ _ _ m)))
