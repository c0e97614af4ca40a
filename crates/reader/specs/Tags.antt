-- A tag's value by its key, over the tags as pairs of ranges.
use Rattle.std.specs.Prelude.{List, [], ◌∷◌, Option, Some, None}
use Rattle.base.specs.declared.Range.{Range}
use Rattle.base.specs.Bytes.{Bytes, same, within}
use Rattle.base.specs.Choice.{pick}
use Rattle.group.specs.Pair.{Ranges}

-- the value of the first tag with a key
unfoldable pub value_in : Bytes → Bytes → List Ranges → Option Range
value_in s key [] = None
value_in s key (p ∷ ps) = pick (same key (within p.0 s)) (Some p.1) (value_in s key ps)
