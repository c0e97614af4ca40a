use mathlib.Core.Path.{refl, sym, ◌∙◌, ap}
use Rattle.base.proofs.Options.{handed_on}
use Rattle.walk.proofs.WalkLaws.{rules_end, rules_stop, rules_next, as_given, same_rows}
use Rattle.std.proofs.Math.Nat.{sub-zero}
use Rattle.walk.proofs.LayerLaws.{told_stop}
use Rattle.walk.specs.Run.{rule_of, rules_of}
use Rattle.walk.specs.Walking.{names, layers, verdicts}
use Rattle.walk.proofs.Walk.rules.Goals as goal

pub loop-r-init : goal.loop-r-init
loop-r-init c = let w = c.args.self.now in
    (ap (rules_of (names w) (layers w) (verdicts w) w.tables.now.rules.now w.rows.now w.count 0) (sub-zero c.args.total), refl)

pub returns-in_err-rule : goal.returns-in_err-rule
returns-in_err-rule c =
    let loop = c.loop-r in
    let w = c.args.self.now in
    record {
      rules = told_stop _ _ _ _ _ refl (handed_on _ c.from_residual.ensures)
          ∙ sym
          (rules_stop _ _ _ w.tables.now.rules.now loop.self.rows.now loop.self.count loop.r c.args.total c.loop-r-test.true _ _ _
          (c.rule.ensures.rule ∙ as_given (λ N L V R. rule_of N L V R loop.self.rows.now loop.self.count loop.r) loop.self w loop.invariant.1)
          _ c.in_err-rule.was)
          ∙ loop.invariant.0;
      same_reference = same_rows c.rule.new.self w (c.rule.ensures.same ∙ loop.invariant.1);
    }

pub loop-r-preserved : goal.loop-r-preserved
loop-r-preserved c =
    let loop = c.loop-r in
    let w = c.args.self.now in (
      sym
          (rules_next _ _ _ w.tables.now.rules.now loop.self.rows.now loop.self.count loop.r c.args.total c.loop-r-test.true _ _ _
          (c.rule.ensures.rule ∙ as_given (λ N L V R. rule_of N L V R loop.self.rows.now loop.self.count loop.r) loop.self w loop.invariant.1)
          _ c.in_ok-rule.was)
          ∙ loop.invariant.0,
      c.rule.ensures.same ∙ loop.invariant.1,
    )

pub returns : goal.returns
returns c =
    let loop = c.loop-r in
    record {
      rules = sym (rules_end _ _ _ c.args.self.now.tables.now.rules.now loop.self.rows.now loop.self.count loop.r c.args.total c.loop-r-test.false) ∙ loop.invariant.0;
      same_reference = same_rows loop.self c.args.self.now loop.invariant.1;
    }
