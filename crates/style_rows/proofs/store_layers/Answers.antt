use Prim.Native.Nat.{◌<◌}
use mathlib.Core.Path.{◌≡◌, refl, ap, sym, ◌∙◌}
use mathlib.Core.List.{List, map}
use native.Mathlib.Omega.{arith}
use mir.Syntax.{w64}
use mir.Val.{to_z, of_z}
use lib.IntN.{pos}
use lib.ListN.{length, take}
use borrow.Author.Rules.{rules}
use Rattle.base.specs.Table.{zero_float, padded, flat}
use Rattle.styles.specs.declared.StyledLayer.{StyledLayer}
use Rattle.styles.specs.Styles.{blank_layer}
use Rattle.style_rows.specs.Rows.{row_words, row_floats, row_layer}
use Rattle.style_rows.proofs.RowLaws.{first_left, all_seen, nothing_yet, stored_as, filled_more, mapped_more}
use Rattle.style_rows.proofs.Widths.{words_width, floats_width}
use Rattle.style_rows.proofs.store_layers.Goals.{In-None}
use Rattle.style_rows.proofs.store_layers.Goals as goal

pub loop-k-init : goal.loop-k-init
loop-k-init c = let a = c.args in
    rw (
      c.into_iter-k-iterator.ensures.into_iter_gives,
      c.enumerate-k-items.ensures.source,
      c.enumerate-k-items.ensures.count,
      c.take.ensures.source,
      c.take.ensures.count,
      c.iter.ensures.rest,
    ) (
      omega arith,
      refl,
      refl,
      nothing_yet 0 (length a.words.now) 1664 (c.fill.ensures.after (λ y e. e)) (omega arith),
      nothing_yet zero_float (length a.floats.now) 192 (c.fill-2.ensures.after (λ y e. e)) (omega arith),
      nothing_yet (pos 0) (length a.layers.now) 32 (c.fill-3.ensures.after (λ y e. e)) (omega arith),
    )

pub loop-k-preserved : goal.loop-k-preserved
loop-k-preserved c = let a = c.args in
    let s = c.in-Some.ensures.steps in
    let k = c.in-Some.k in
    let i₀ = c.loop-k.invariant in
    let i = rw (← s.1) at i₀ in
    let f = first_left a.styled.now k blank_layer (sym i.2 ∙ s.0.0) in
    let b : k < 32 = omega (arith, i.1, s.0.1) in
    let z : to_z w64 (of_z w64 c.layer_number.result) ≡ c.layer_number.result = search rules in
    rw (s.2, ← s.1) (
      omega (arith, f.0),
      omega (arith, i.1, s.0.1),
      f.2,
      filled_more row_words 52 words_width a.styled.now k blank_layer 0 1664 f.0 f.1 i.3 (omega arith)
          (stored_as _ _ c.store_all.ensures c.row_words.ensures),
      filled_more row_floats 6 floats_width a.styled.now k blank_layer zero_float 192 f.0 f.1 i.4 (omega arith)
          (stored_as _ _ c.store_all-in-loop-k.ensures c.row_floats.ensures),
      mapped_more row_layer a.styled.now k blank_layer f.0 f.1 (z ∙ c.layer_number.ensures) (pos 0) 32 i.5 b,
    )

seen : (c : In-None) → take c.loop-k.k-iterator.count c.args.styled.now ≡ take 32 c.args.styled.now
seen c = let i = c.loop-k.invariant in all_seen c.args.styled.now _ _ i.0 i.1 (λ h. sym (ap length i.2) ∙ (c.in-None.ensures.steps.0 h).0)

pub returns-clause-words_after : goal.returns-clause-words_after
returns-clause-words_after c = c.loop-k.invariant.3 ∙ ap (λ (l : List StyledLayer). padded 0 1664 (flat (map row_words l))) (seen c)

pub returns-clause-floats_after : goal.returns-clause-floats_after
returns-clause-floats_after c = c.loop-k.invariant.4 ∙ ap (λ (l : List StyledLayer). padded zero_float 192 (flat (map row_floats l))) (seen c)

pub returns-clause-layers_after : goal.returns-clause-layers_after
returns-clause-layers_after c = c.loop-k.invariant.5 ∙ ap (λ (l : List StyledLayer). padded (pos 0) 32 (map row_layer l)) (seen c)
