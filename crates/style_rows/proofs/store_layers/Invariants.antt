use Prim.Native.Nat.{◌+◌, ◌≤◌}
use mathlib.Core.List.{map}
use mathlib.Core.Path.{◌≡◌}
use lib.ListN.{length, take, drop}
use lib.IntN.{pos}
use Rattle.base.specs.Table.{zero_float, padded, flat}
use Rattle.style_rows.specs.Rows.{row_words, row_floats, row_layer}
use Rattle.style_rows.proofs.store_layers.Given as goal

abbrev pub invariant-loop-k : goal.invariant-loop-k
invariant-loop-k l = let k = l.k-iterator.count in let xs = take k l.styled in
    (k ≤ length l.styled) ×
    (k + l.k-iterator.iter.n ≡ 32) ×
    (l.k-iterator.iter.iter.rest.now ≡ drop k l.styled) ×
    (l.words ≡ padded 0 1664 (flat (map row_words xs))) ×
    (l.floats ≡ padded zero_float 192 (flat (map row_floats xs))) ×
    (l.layers ≡ padded (pos 0) 32 (map row_layer xs))
