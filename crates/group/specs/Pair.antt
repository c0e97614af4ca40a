-- Parts that stand behind their length, and runs of pairs of them.
use Rattle.std.specs.Prelude.{ℕ, zero, suc, ◌+◌, ◌-◌, Bool, true, false, List, [], ◌∷◌, ◌++◌, map, leb, length, Option, Some, None}
use Rattle.base.specs.Bytes.{Bytes, within}
use Rattle.base.specs.Choice.{pick}
use Rattle.base.specs.Map.{Entry, Map, entry}
use Rattle.base.specs.declared.Range.{Range}
use Rattle.utf8.specs.Utf8.{is_utf8}
use Rattle.group.specs.declared.Pairs.{Pairs}
use Rattle.group.specs.Number.{number_at, group_of}
use Rattle.base.specs.Option.{on_option, on_option2}

abbrev pub range : ℕ → ℕ → Range
range a b = record { from = a; to = b }

-- so many bytes from a place on, if they are there
unfoldable pub sized_of : Bytes → ℕ → ℕ → Option Range
sized_of s n from =
    pick (leb from (length s)) (pick (leb n (length s - from)) (Some (range from (from + n))) None) None

-- a length as a group number below 2^32, then so many bytes
unfoldable pub part_at : Bytes → ℕ → Option Range
part_at s at = on_option2 (number_at s at 4294967295) None λ n next. sized_of s n next

-- two parts, one behind the other
unfoldable pub pair_at : Bytes → ℕ → Option (Range × Range)
pair_at s at = on_option (part_at s at) None λ a. on_option (part_at s a.to) None λ b. Some (a, b)

-- the place behind a pair
unfoldable pub behind : Bytes → ℕ → Option ℕ
behind s at = on_option2 (pair_at s at) None λ a b. Some b.to

-- so many pairs, one behind the other, as far as they can be read
abbrev pub Ranges : Type 0
Ranges = Range × Range

abbrev pub ranges : Range → Range → Ranges
ranges a b = (a, b)

unfoldable pub pairs_at : ℕ → Bytes → ℕ → List Ranges
pairs_at zero s at = []
pairs_at (suc n) s at = on_option2 (pair_at s at) [] λ a b. ranges a b ∷ pairs_at n s b.to

-- the pairs that an iterator has still to give
abbrev pub pairs_left : Pairs → List Ranges
pairs_left p = pairs_at p.count p.s.now p.at

-- the place behind so many pairs
unfoldable pub skip_of : ℕ → Bytes → ℕ → Option ℕ
skip_of zero s at = Some at
skip_of (suc n) s at = on_option2 (pair_at s at) None λ a b. skip_of n s b.to

abbrev pub end_of : Pairs → Option ℕ
end_of p = skip_of p.count p.s.now p.at

-- pair number k, from 0
unfoldable pub nth_of : List Ranges → ℕ → Option (Range × Range)
nth_of [] k = None
nth_of (p ∷ ps) zero = Some p
nth_of (p ∷ ps) (suc k) = nth_of ps k

-- the bytes that pairs of ranges name
abbrev pub named : Bytes → Ranges → Entry Bytes
named s p = entry (within p.0 s) (within p.1 s)

unfoldable pub entries_at : ℕ → Bytes → ℕ → Map Bytes
entries_at n s at = map (named s) (pairs_at n s at)

-- the bytes that what an iterator has still to give names
abbrev pub entries_left : Pairs → Map Bytes
entries_left p = entries_at p.count p.s.now p.at

-- whether each key and each value is UTF-8
unfoldable pub all_utf8 : Map Bytes → Bool
all_utf8 [] = true
all_utf8 (e ∷ m) = pick (is_utf8 e.key) (pick (is_utf8 e.value) (all_utf8 m) false) false

-- the other way: a part behind its length, and the pairs of a map
unfoldable pub sized_bytes : Bytes → Bytes
sized_bytes x = group_of (length x) ++ x

unfoldable pub pair_bytes : Entry Bytes → Bytes
pair_bytes e = sized_bytes e.key ++ sized_bytes e.value

unfoldable pub map_bytes : Map Bytes → Bytes
map_bytes [] = []
map_bytes (e ∷ m) = pair_bytes e ++ map_bytes m
