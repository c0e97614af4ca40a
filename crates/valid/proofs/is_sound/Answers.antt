use Rattle.std.specs.Slice.Iter.{iter_rest}
use mathlib.Core.Path.{◌≡◌, ◌∙◌}
use Rattle.std.proofs.Common.{rules, ap}
use mathlib.Core.Bool.{Bool, true, false}
use borrow.Author.Tests.{tests}
use Rattle.std.proofs.lemmas.Iterator.Adapters.{YieldsList-from_rev_slice}
use Rattle.std.proofs.lemmas.Iterator.Search.{all_from_yields_List}
use Rattle.valid.proofs.Room.{counts_room}
use Rattle.base.specs.Choice.{pick, via, if_true, if_false}
use Rattle.valid.specs.Valid.{all_below, rule_sound, selector_sound, test_sound, tables_sound, entries_sound}
use Rattle.valid.proofs.Entries.{rules_reversed, selectors_reversed, tests_reversed, properties_reversed}
use Rattle.valid.proofs.is_sound.Goals.{Joined-all-2, then-all, else-all, then-all-2, else-all-2}
use Rattle.valid.proofs.is_sound.Goals as goal

-- what the tables before the properties are found to be
module _ (c : Joined-all-2) where
  abbrev rules_good : Bool
  rules_good = all_below (rule_sound c.args.rules.now c.args.n.selectors c.args.n.properties) c.args.n.rules

  abbrev selectors_good : Bool
  selectors_good = all_below (selector_sound c.args.selectors.now c.args.n.tests c.args.bundle) c.args.n.selectors

  abbrev tests_good : Bool
  tests_good = all_below (test_sound c.args.tests.now c.args.numbers.now c.args.n.numbers c.args.bundle) c.args.n.tests

  three_tables : c.if-all-2.value ≡ pick (pick rules_good selectors_good false) tests_good false
  three_tables =
      let room = counts_room _ _ _ _ _ _ (via c.counts_held.ensures c.if-not-counts_held.false) in
      let one : c.all.result ≡ rules_good =
      rules_reversed _ _ room.0 _ c.as_chunks.ensures.front c.as_chunks.ensures.front_len _ _ _ (all_from_yields_List _ _ _ _ c.all.ensures.ran (YieldsList-from_rev_slice _ (ap iter_rest c.rev.ensures.source ∙ c.iter.ensures.rest)) (λ x b q k. search (rules, tests))) in
      let two : c.if-all.value ≡ pick rules_good selectors_good false =
      elim c.if-all.branch [
        | then-all v ↦
            if_true _ _ _ (via one v.if-all.true)
            (v.value-is
            ∙ selectors_reversed _ _ room.1 _ c.as_chunks-2.ensures.front c.as_chunks-2.ensures.front_len _ _ _ (all_from_yields_List _ _ _ _ v.all-then-all.ensures.ran (YieldsList-from_rev_slice _ (ap iter_rest v.rev-then-all.ensures.source ∙ v.iter-then-all.ensures.rest)) (λ x b q k. search (rules, tests))))
        | else-all v ↦ if_false _ _ _ (via one v.if-all.false) (v.value-is ∙ v.if-all.false)
      ] in
      elim c.if-all-2.branch [
        | then-all-2 w ↦
            if_true _ _ _ (via two w.if-all-2.true)
            (w.value-is
            ∙ tests_reversed _ _ room.2 _ c.as_chunks-3.ensures.front c.as_chunks-3.ensures.front_len _ _ _ _ room.4 (all_from_yields_List _ _ _ _ w.all-then-all-2.ensures.ran (YieldsList-from_rev_slice _ (ap iter_rest w.rev-then-all-2.ensures.source ∙ w.iter-then-all-2.ensures.rest)) (λ x b q k. search (rules, tests))))
        | else-all-2 w ↦ if_false _ _ _ (via two w.if-all-2.false) (w.value-is ∙ w.if-all-2.false)
      ]

-- tests that are asked one after another, and the last
and_last : (r s t p : Bool) {v x : Bool} → v ≡ pick (pick r s false) t false → x ≡ pick v p false → x ≡ pick r (pick s (pick t p false) false) false
unfolding pick
and_last true true t p e f = f ∙ ap (λ v. pick v p false) e
and_last true false t p e f = f ∙ ap (λ v. pick v p false) e
and_last false s t p e f = f ∙ ap (λ v. pick v p false) e

pub returns-then-all-3 : goal.returns-then-all-3
unfolding tables_sound entries_sound
returns-then-all-3 c =
    let held = via c.counts_held.ensures c.if-not-counts_held.false in
    if_true _ _ _ held (
    and_last _ _ _ _ (three_tables (goal.at.returns-then-all-3 c).Joined-all-2)
    (if_true _ _ _ c.if-all-3.true
    (properties_reversed _ _ (counts_room _ _ _ _ _ _ held).3 _ c.as_chunks-4.ensures.front c.as_chunks-4.ensures.front_len _ _ _ (all_from_yields_List _ _ _ _ c.all-then-all-3.ensures.ran (YieldsList-from_rev_slice _ (ap iter_rest c.rev-then-all-3.ensures.source ∙ c.iter-then-all-3.ensures.rest)) (λ x b q k. search (rules, tests))))))

pub returns-else-all-3 : goal.returns-else-all-3
unfolding tables_sound entries_sound
returns-else-all-3 c =
    if_true _ _ _ (via c.counts_held.ensures c.if-not-counts_held.false) (
    and_last _ _ _ _ (three_tables (goal.at.returns-else-all-3 c).Joined-all-2)
    (if_false _ _ _ c.if-all-3.false c.if-all-3.false))
