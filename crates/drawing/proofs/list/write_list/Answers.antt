use mathlib.Core.Path.{◌∙◌, ap}
use mathlib.Core.List.{◌++◌}
use Prim.Native.Nat.{ℕ, ◌-◌}
use lib.ListN.{length}
use lib.Seq.{take_at}
use Rattle.decode.specs.Decode.{places}
use Rattle.drawing.proofs.ListLaws.{list_written}
use Rattle.drawing.proofs.DrawLaws.{part_length}
use Rattle.drawing.proofs.list.write_list.Goals as goal

pub returns : goal.returns
returns c = let a = c.args in
    let n = part_length 0 (length a.keys.now) c.requires.1 in
    c.write_entries.ensures
    ∙ list_written a.keys.now a.ways c.requires.0 _ _ (length a.list.now)
    (take_at c.count.new.order _ (length a.keys.now) (c.count.auto.order ∙ n)
    ∙ c.count.ensures
    ∙ ap (λ (k : ℕ). places a.ways (k - a.ways) ++ places 0 a.ways) n)
    c.sort_entries.ensures
