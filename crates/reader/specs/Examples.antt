-- Tag lookup, computed: two tags, the second key of two parts.
use Rattle.std.specs.Prelude.{◌≡◌, refl, [], ◌∷◌, ◌++◌, map, Option, Some, None}
use Rattle.base.specs.declared.Range.{Range}
use Rattle.base.specs.Bytes.{Bytes, ascii, same}
use Rattle.base.specs.Choice.{pick}
use Rattle.group.specs.Number.{number_from, number_at}
use Rattle.group.specs.Pair.{range, sized_of, part_at, pair_at, pairs_at}
use Rattle.reader.specs.Tags.{value_in}
use Rattle.base.specs.Option.{on_option}

-- a=b and name:de=x
abbrev tags : Bytes
tags = 1 ∷ 97 ∷ 1 ∷ 98 ∷ 7 ∷ (ascii "name:de" ++ (1 ∷ 120 ∷ []))

abbrev found : Bytes → Option Range
found key = value_in tags key (pairs_at 2 tags 0)

pub found_are :
    map found (ascii "a" ∷ (ascii "name" ++ (58 ∷ ascii "de")) ∷ ascii "name" ∷ ascii "b" ∷ [] ∷ [])
    ≡ Some (range 3 4) ∷ Some (range 13 14) ∷ None ∷ None ∷ None ∷ []
unfolding value_in pairs_at pair_at part_at sized_of number_at number_from on_option pick same
found_are = refl
