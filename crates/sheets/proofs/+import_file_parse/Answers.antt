use Rattle.input.proofs.TokenLaws.{semicolon_expected}
use native.Mathlib.Omega.{arith}
use mathlib.Core.Path.{refl, ◌∙◌}
use Rattle.base.specs.Choice.{via}
use Rattle.keep.proofs.Lending.{colors_lend, rules_lend}
use Rattle.base.proofs.Options.{handed_on, ok_is, or_some, or_none, or_err}
use Rattle.sheets.proofs.SheetLaws.{import_another, import_missing, import_deep, import_stopped, import_ended, parse_starts, parse_bad, parse_ends, import_less, import_stops, import_on, color_less, color_stops, color_on, rule_less, rule_stops, rule_on}
use Rattle.sheets.proofs.+import_file_parse.Goals as goal

pub import_file-returns-then-depth-eq0-clause-read : goal.import_file-returns-then-depth-eq0-clause-read
import_file-returns-then-depth-eq0-clause-read t c = import_deep _ _ c.args.name _ _ _ _ (via (c.expect.ensures ∙ semicolon_expected _ _ _) c.in_ok-d.was) c.part.ensures (via c.find_text.ensures (or_some c.ok_or.ensures.ok_part c.in_ok-number.was)) c.if-depth-eq0.true c.refuse_reached-then-depth-eq0.ensures

pub import_file-overflow_sub-depth : goal.import_file-overflow_sub-depth
import_file-overflow_sub-depth t c = omega (arith, c.if-depth-eq0.false)

pub import_file-parse-requires : goal.import_file-parse-requires
import_file-parse-requires t c = (omega (arith, c.decreases, c.if-depth-eq0.false), tt)

pub import_file-returns-in_err-d-clause-read : goal.import_file-returns-in_err-d-clause-read
import_file-returns-in_err-d-clause-read t c = rw (handed_on _ c.from_residual.ensures) (import_another _ _ c.args.name _ _ _ _ (via (c.expect.ensures ∙ semicolon_expected _ _ _) c.in_err-d.was))

pub import_file-returns-in_err-number-clause-read : goal.import_file-returns-in_err-number-clause-read
import_file-returns-in_err-number-clause-read t c = rw (handed_on _ c.from_residual-in_err-number.ensures) (import_missing _ _ c.args.name _ _ _ _ (via (c.expect.ensures ∙ semicolon_expected _ _ _) c.in_ok-d.was) c.part.ensures (via c.find_text.ensures (or_none c.ok_or.ensures.ok_part c.in_err-number.was)) (or_err _ c.ok_or.ensures.value c.in_err-number.was ∙ c.refuse_reached.ensures))

pub import_file-returns-in_err-parse-clause-read : goal.import_file-returns-in_err-parse-clause-read
import_file-returns-in_err-parse-clause-read t c = rw (handed_on _ c.from_residual-in_err-parse.ensures) (import_stopped _ _ c.args.name _ _ _ _ (via (c.expect.ensures ∙ semicolon_expected _ _ _) c.in_ok-d.was) c.part.ensures (via c.find_text.ensures (or_some c.ok_or.ensures.ok_part c.in_ok-number.was)) c.if-depth-eq0.false c.parse.ensures.read c.in_err-parse.was)

pub import_file-returns-clause-read : goal.import_file-returns-clause-read
import_file-returns-clause-read t c = import_ended _ _ c.args.name _ _ _ _ (via (c.expect.ensures ∙ semicolon_expected _ _ _) c.in_ok-d.was) c.part.ensures (via c.find_text.ensures (or_some c.ok_or.ensures.ok_part c.in_ok-number.was)) c.if-depth-eq0.false c.parse.ensures.read c.in_ok-parse.was

pub parse-loop-name-init : goal.parse-loop-name-init
parse-loop-name-init t c = (parse_starts _ _ _ _ c.new-at.ensures, refl)

pub parse-returns-in_err-read_statement-clause-read : goal.parse-returns-in_err-read_statement-clause-read
parse-returns-in_err-read_statement-clause-read t c = rw (handed_on _ c.from_residual.ensures) (parse_bad _ _ _ _ _ _ c.loop-name.invariant.0 c.read_statement.ensures c.in_err-read_statement.was)

pub parse-returns-in-EndOfText-clause-read : goal.parse-returns-in-EndOfText-clause-read
parse-returns-in-EndOfText-clause-read t c = parse_ends _ _ _ _ _ c.loop-name.invariant.0 c.read_statement.ensures (ok_is c.in_ok-read_statement.was c.in-EndOfText.is)

pub parse-import_file-requires : goal.parse-import_file-requires
parse-import_file-requires t c = (omega (arith, c.decreases), tt)

pub parse-returns-in_err-at-in-ImportOf-clause-read : goal.parse-returns-in_err-at-in-ImportOf-clause-read
parse-returns-in_err-at-in-ImportOf-clause-read t c = rw (handed_on _ c.from_residual-in_err-at-in-ImportOf.ensures) (import_stops _ _ _ _ _ _ c.read_statement.ensures (ok_is c.in_ok-read_statement.was c.in-ImportOf.is) c.import_file.ensures.read c.loop-name.invariant.0 c.in_err-at-in-ImportOf.was)

pub parse-loop-name-smaller-in_ok-at-in-ImportOf : goal.parse-loop-name-smaller-in_ok-at-in-ImportOf
parse-loop-name-smaller-in_ok-at-in-ImportOf t c = import_less _ _ _ _ _ c.read_statement.ensures (ok_is c.in_ok-read_statement.was c.in-ImportOf.is) c.import_file.ensures.read c.in_ok-at-in-ImportOf.was

pub parse-loop-name-preserved-in_ok-at-in-ImportOf : goal.parse-loop-name-preserved-in_ok-at-in-ImportOf
parse-loop-name-preserved-in_ok-at-in-ImportOf t c = (import_on _ _ _ _ _ _ c.read_statement.ensures (ok_is c.in_ok-read_statement.was c.in-ImportOf.is) c.import_file.ensures.read c.loop-name.invariant.0 c.in_ok-at-in-ImportOf.was, c.import_file.ensures.lends ∙ c.loop-name.invariant.1)

pub parse-returns-in_err-at-in-ColorOf-clause-read : goal.parse-returns-in_err-at-in-ColorOf-clause-read
parse-returns-in_err-at-in-ColorOf-clause-read t c = rw (handed_on _ c.from_residual-in_err-at-in-ColorOf.ensures) (color_stops _ _ _ _ _ _ c.read_statement.ensures (ok_is c.in_ok-read_statement.was c.in-ColorOf.is) c.read_color_def.ensures.read c.loop-name.invariant.0 c.in_err-at-in-ColorOf.was)

pub parse-loop-name-smaller-in_ok-at-in-ColorOf : goal.parse-loop-name-smaller-in_ok-at-in-ColorOf
parse-loop-name-smaller-in_ok-at-in-ColorOf t c = color_less _ _ _ _ c.read_statement.ensures (ok_is c.in_ok-read_statement.was c.in-ColorOf.is) c.read_color_def.ensures.read c.in_ok-at-in-ColorOf.was

pub parse-loop-name-preserved-in_ok-at-in-ColorOf : goal.parse-loop-name-preserved-in_ok-at-in-ColorOf
parse-loop-name-preserved-in_ok-at-in-ColorOf t c = (color_on _ _ _ _ _ _ c.read_statement.ensures (ok_is c.in_ok-read_statement.was c.in-ColorOf.is) c.read_color_def.ensures.read c.loop-name.invariant.0 c.in_ok-at-in-ColorOf.was, colors_lend c.read_color_def.ensures.beside ∙ c.loop-name.invariant.1)

pub parse-returns-in_err-at-in-RuleAt-clause-read : goal.parse-returns-in_err-at-in-RuleAt-clause-read
parse-returns-in_err-at-in-RuleAt-clause-read t c = rw (handed_on _ c.from_residual-in_err-at-in-RuleAt.ensures) (rule_stops _ _ _ _ _ _ c.read_statement.ensures (ok_is c.in_ok-read_statement.was c.in-RuleAt.is) c.read_rule.ensures.read c.loop-name.invariant.0 c.in_err-at-in-RuleAt.was)

pub parse-loop-name-smaller : goal.parse-loop-name-smaller
parse-loop-name-smaller t c = rule_less _ _ _ _ c.read_statement.ensures (ok_is c.in_ok-read_statement.was c.in-RuleAt.is) c.read_rule.ensures.read c.in_ok-at-in-RuleAt.was

pub parse-loop-name-preserved : goal.parse-loop-name-preserved
parse-loop-name-preserved t c = (rule_on _ _ _ _ _ _ c.read_statement.ensures (ok_is c.in_ok-read_statement.was c.in-RuleAt.is) c.read_rule.ensures.read c.loop-name.invariant.0 c.in_ok-at-in-RuleAt.was, rules_lend c.read_rule.ensures.beside ∙ c.loop-name.invariant.1)
