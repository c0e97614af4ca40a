use mathlib.Core.Path.{refl, ◌∙◌}
use Prim.Native.Nat.{◌-◌}
use Rattle.std.proofs.Common.{rules}
use Rattle.std.proofs.lemmas.Iterator.{YieldsList-from_range}
use Rattle.std.proofs.lemmas.Iterator.Search.{any_from_yields_List}
use Rattle.canvas.proofs.CanvasLaws.{canvas_among}
use Rattle.canvas.proofs.any_canvas.Goals as goal

pub returns : goal.returns
returns c = let r = c.args.range in
    any_from_yields_List _ _ _ _ c.any.ensures.ran (YieldsList-from_range r.from r.to (r.to - r.from) refl refl) (λ x b q k. search rules)
    ∙ canvas_among c.args.selectors.now r.from (r.to - r.from)
