use mathlib.Core.Path.{refl, ◌∙◌}
use native.Mathlib.Omega.{arith}
use Rattle.std.proofs.Common.{rules}
use Rattle.std.proofs.lemmas.Iterator.{YieldsList-from_range}
use Rattle.std.proofs.lemmas.Iterator.Search.{any_from_yields_List}
use Rattle.drawing.proofs.KeyLaws.{is_nan_at, nan_among}
use Rattle.drawing.proofs.Drawing.any_nan.Goals as goal

pub returns : goal.returns
returns c = let a = c.args in let t = a.self.now.tables.now in
    any_from_yields_List (is_nan_at t.bundle.now t.selectors.now t.properties.now t.numbers.now a.maps.now a.m a.kind)
    _ _ _ c.any.ensures.ran (YieldsList-from_range 0 c.m.inside.n a.m refl (omega (arith, c.m.view_is)))
    (λ x b q k. search rules)
    ∙ nan_among t.bundle.now t.selectors.now t.properties.now t.numbers.now a.maps.now a.m a.kind 0 a.m
