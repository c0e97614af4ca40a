use mathlib.Core.Path.{refl, sym, ◌∙◌}
use Rattle.base.proofs.Options.{handed_on}
use Rattle.walk.specs.Rows.{numbers_in}
use Rattle.walk.specs.Run.{hit_of}
use Rattle.walk.proofs.LayerLaws.{told_stop}
use Rattle.walk.proofs.WalkLaws.{selectors_end, selectors_stop, selectors_next, rule_is, as_given}
use Rattle.walk.proofs.Walk.rule.Goals as goal

pub loop-s-init : goal.loop-s-init
loop-s-init c = let w = c.args.self.now in (
  rule_is _ _ _ w.tables.now.rules.now w.rows.now w.count c.args.r _ _ _ _ c.word_at-start.ensures
      c.word_at-end.ensures c.word_at-from.ensures c.word_at-to.ensures,
  refl,
)

pub returns-in_err-visit : goal.returns-in_err-visit
returns-in_err-visit c =
    let loop = c.loop-s in
    let w = c.args.self.now in
    record {
      rule = told_stop _ _ _ _ _ refl (handed_on _ c.from_residual.ensures)
          ∙ sym
          (selectors_stop _ _ _ loop.self.rows.now loop.self.count loop.s c.word_at-end.result _ c.loop-s-test.true _ _ _
          (c.visit.ensures.hit ∙ as_given (λ N L V R. hit_of N L V loop.self.rows.now loop.self.count loop.s (numbers_in (record { from = c.word_at-from.result; to = c.word_at-to.result }))) loop.self w loop.invariant.1)
          _ c.in_err-visit.was)
          ∙ loop.invariant.0;
      same = c.visit.ensures.same ∙ loop.invariant.1;
    }

pub loop-s-preserved : goal.loop-s-preserved
loop-s-preserved c =
    let loop = c.loop-s in
    let w = c.args.self.now in (
      sym
          (selectors_next _ _ _ loop.self.rows.now loop.self.count loop.s c.word_at-end.result _ c.loop-s-test.true _ _ _
          (c.visit.ensures.hit ∙ as_given (λ N L V R. hit_of N L V loop.self.rows.now loop.self.count loop.s (numbers_in (record { from = c.word_at-from.result; to = c.word_at-to.result }))) loop.self w loop.invariant.1)
          _ c.in_ok-visit.was)
          ∙ loop.invariant.0,
      c.visit.ensures.same ∙ loop.invariant.1,
    )

pub returns : goal.returns
returns c =
    let loop = c.loop-s in
    record {
      rule = sym (selectors_end _ _ _ loop.self.rows.now loop.self.count loop.s c.word_at-end.result _ c.loop-s-test.false) ∙ loop.invariant.0;
      same = loop.invariant.1;
    }
