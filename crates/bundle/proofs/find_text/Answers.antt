-- The loop of find_text, by what stands at each place.
use Rattle.std.proofs.Common.{◌∙◌, ap, inl, length, arith}
use Rattle.std.specs.Prelude.{Some}
use Rattle.bundle.specs.Bundle.{find_in, find_of, ranges_of}
use Rattle.group.specs.Pair.{pairs_left}
use Rattle.group.proofs.Runs.{run_length}
use Rattle.bundle.proofs.Names.{find_end, find_here, find_next}
use Rattle.bundle.proofs.find_text.Goals as goal

pub loop-k-init : goal.loop-k-init
unfolding find_of ranges_of
loop-k-init c =
    let t = c.texts.result in
    let h = run_length t.count t.s.now t.at in
    let e = c.into_iter-k-iterator.ensures.into_iter_gives in
    let n = ap (λ x. x.count) e ∙ c.enumerate-k-items.ensures.count in
    let u = ap (λ x. x.iter) e ∙ c.enumerate-k-items.ensures.source in (
      ((tt, tt, inl (omega (arith, n, ap (λ x. length (pairs_left x)) u))), tt),
      ap (λ k. find_in c.args.bundle.now c.args.name.now k (pairs_left c.into_iter-k-iterator.result.iter)) n
          ∙ ap (λ x. find_in c.args.bundle.now c.args.name.now 0 (pairs_left x)) (u ∙ c.texts.ensures),
    )

pub returns-then-same_bytes : goal.returns-then-same_bytes
returns-then-same_bytes c =
    let e = c.in-Some.ensures.steps in
    let it = c.loop-k.k-iterator in
    ap (λ k. Some (k, c.in-Some.b)) e.1
    ∙ find_here c.args.bundle.now c.args.name.now it.count (pairs_left it.iter) _ _ e.0 _ _ c.part.ensures c.same_bytes.ensures c.if-same_bytes.true
    ∙ c.loop-k.invariant.1

pub loop-k-preserved : goal.loop-k-preserved
loop-k-preserved c =
    let e = c.in-Some.ensures.steps in
    let it = c.loop-k.k-iterator in
    let left = pairs_left c.next.new.self.iter in (
      (c.in-Some.ensures.goes.keeps, tt),
      ap (λ k. find_in c.args.bundle.now c.args.name.now k left) e.2
          ∙ find_next c.args.bundle.now c.args.name.now it.count (pairs_left it.iter) _ _ e.0 _ _ c.part.ensures c.same_bytes.ensures c.if-same_bytes.false
          ∙ c.loop-k.invariant.1,
    )

pub returns : goal.returns
returns c =
    let it = c.loop-k.k-iterator in
    find_end c.args.bundle.now c.args.name.now it.count (pairs_left it.iter) c.in-None.ensures.steps.0.0 ∙ c.loop-k.invariant.1
