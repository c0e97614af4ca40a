use Rattle.properties.proofs.Turns.{goes_start, goes_end, goes_on}
use Rattle.properties.proofs.ValueLaws.{after_refused}
use Rattle.rules.proofs.RuleLaws.{part_moves, part_fails, part_leads, part_on, shown_bare, shown_zoom, shown_test, shown_layer, widen_selector, read_value, after_known}
use Rattle.rules.specs.Rules.{Selects, no_selector}
use Rattle.keep.specs.Lent.{lent_in}
use Rattle.base.specs.Option.{on_result}
use Rattle.keep.proofs.Lending.{tests_beside_selectors}
use Rattle.grammar.specs.Reading.{bare}
use native.Mathlib.Omega.{arith}
use mathlib.Core.Path.{refl, ◌∙◌}
use Rattle.rules.proofs.read_selector.Goals as goal
use Rattle.base.proofs.Options.{handed_on, ok_is}

pub loop-more-init : goal.loop-more-init
loop-more-init c = (λ f y e h. (bare y, (shown_bare y e, goes_start (Selects _ _) _ _ _ _ f h)), refl)

pub returns-in_err-more-clause-read : goal.returns-in_err-more-clause-read
returns-in_err-more-clause-read c = rw (handed_on _ c.from_residual.ensures) (λ f y e h. goes_end (Selects _ _) _ _ _ _ _ _ (c.loop-more.invariant.0 f y e h).1.1 (λ k l. part_fails _ _ _ c.read_part.ensures _ k _ c.in_err-more.was))

pub returns-in_err-e-in-Closing-clause-read : goal.returns-in_err-e-in-Closing-clause-read
unfolding on_result
returns-in_err-e-in-Closing-clause-read c = rw (handed_on _ c.from_residual-in_err-e-in-Closing.ensures) (λ f y e h. let v = c.loop-more.invariant.0 f y e h in goes_end (Selects _ _) _ _ _ _ _ _ v.1.1 (λ k l. part_leads _ _ _ c.read_part.ensures _ k _ (ok_is c.in_ok-more.was c.in-Closing.is) (λ m. widen_selector (omega arith) (rw c.in_err-e-in-Closing.was at c.store_selector.ensures.read c.args.text.bundle.now v.0 c.in-Closing.more v.1.0))))

pub returns-in-Closing-clause-read : goal.returns-in-Closing-clause-read
unfolding on_result
returns-in-Closing-clause-read c = λ f y e h. let v = c.loop-more.invariant.0 f y e h in goes_end (Selects _ _) _ _ _ _ _ _ v.1.1 (λ k l. part_leads _ _ _ c.read_part.ensures _ k _ (ok_is c.in_ok-more.was c.in-Closing.is) (λ m. widen_selector (omega arith) (rw c.in_ok-e-in-Closing.was at c.store_selector.ensures.read c.args.text.bundle.now v.0 c.in-Closing.more v.1.0)))

pub loop-more-smaller-in-Zoom : goal.loop-more-smaller-in-Zoom
loop-more-smaller-in-Zoom c = part_moves _ _ _ c.read_part.ensures (lent_in c.loop-more.store) (ok_is c.in_ok-more.was c.in-Zoom.is)

pub loop-more-preserved-in-Zoom : goal.loop-more-preserved-in-Zoom
loop-more-preserved-in-Zoom c = (λ f y e h. let v = c.loop-more.invariant.0 f y e h in (_, (shown_zoom v.1.0 c.in-Zoom.a c.in-Zoom.b, part_on _ _ _ c.read_part.ensures _ _ _ v.1.1 (ok_is c.in_ok-more.was c.in-Zoom.is) (λ k. refl))), c.loop-more.invariant.1)

pub returns-in_err-at-in-Bracket-clause-read : goal.returns-in_err-at-in-Bracket-clause-read
returns-in_err-at-in-Bracket-clause-read c = rw (handed_on _ c.from_residual-in_err-at-in-Bracket.ensures) (λ f y e h. goes_end (Selects _ _) _ _ _ _ _ _ (c.loop-more.invariant.0 f y e h).1.1 (λ k l. part_leads _ _ _ c.read_part.ensures _ k _ (ok_is c.in_ok-more.was c.in-Bracket.is) (λ m. after_refused (Selects _ _ _ _ _) _ c.read_test.ensures.read c.in_err-at-in-Bracket.was (λ e τ p. no_selector p))))

pub loop-more-smaller-in_ok-at-in-Bracket : goal.loop-more-smaller-in_ok-at-in-Bracket
loop-more-smaller-in_ok-at-in-Bracket c = omega (arith, part_moves _ _ _ c.read_part.ensures (lent_in c.loop-more.store) (ok_is c.in_ok-more.was c.in-Bracket.is), (read_value c.read_test.ensures.read c.in_ok-at-in-Bracket.was).1.1)

pub loop-more-preserved-in_ok-at-in-Bracket : goal.loop-more-preserved-in_ok-at-in-Bracket
loop-more-preserved-in_ok-at-in-Bracket c = (λ f y e h. let v = c.loop-more.invariant.0 f y e h in let u = read_value c.read_test.ensures.read c.in_ok-at-in-Bracket.was in let p = ok_is c.in_ok-more.was c.in-Bracket.is in (_, (shown_test v.1.0 u.0, goes_on (Selects _ _) _ _ _ _ _ _ _ _ v.1.1 (omega (arith, part_moves _ _ _ c.read_part.ensures (lent_in c.loop-more.store) p, u.1.1)) (λ k l t r q. part_leads _ _ _ c.read_part.ensures _ k _ p (λ m. after_known (Selects _ _ _ _ _) _ u.1.0 (widen_selector (omega (arith, m, u.1.1)) q))))), tests_beside_selectors c.read_test.ensures.beside ∙ c.loop-more.invariant.1)

pub loop-more-smaller-in-Class : goal.loop-more-smaller-in-Class
loop-more-smaller-in-Class c = part_moves _ _ _ c.read_part.ensures (lent_in c.loop-more.store) (ok_is c.in_ok-more.was c.in-Class.is)

pub loop-more-preserved-in-Class : goal.loop-more-preserved-in-Class
loop-more-preserved-in-Class c = (λ f y e h. let v = c.loop-more.invariant.0 f y e h in (v.0, (v.1.0, part_on _ _ _ c.read_part.ensures _ _ _ v.1.1 (ok_is c.in_ok-more.was c.in-Class.is) (λ k. refl))), c.loop-more.invariant.1)

pub loop-more-smaller : goal.loop-more-smaller
loop-more-smaller c = part_moves _ _ _ c.read_part.ensures (lent_in c.loop-more.store) (ok_is c.in_ok-more.was c.in-Layer.is)

pub loop-more-preserved : goal.loop-more-preserved
loop-more-preserved c = (λ f y e h. let v = c.loop-more.invariant.0 f y e h in (_, (shown_layer v.1.0 _ c.in-Layer.a, part_on _ _ _ c.read_part.ensures _ _ _ v.1.1 (ok_is c.in_ok-more.was c.in-Layer.is) (λ k. refl))), c.loop-more.invariant.1)
