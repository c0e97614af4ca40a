-- The input of plate: a zoom byte, a group number, the bundle of that many bytes, one entity; at most 60,000 bytes in all.
use Rattle.std.specs.Prelude.{ℕ, ◌+◌, ltb, get_or, length, Option, Some, None}
use Rattle.base.specs.Bytes.{Bytes}
use Rattle.base.specs.Choice.{pick}
use Rattle.base.specs.declared.Range.{Range}
use Rattle.group.specs.Number.{number_at}
use Rattle.base.specs.Option.{on_option2}

abbrev pub range : ℕ → ℕ → Range
range from to = record { from = from; to = to }

unfoldable pub frame_of : Bytes → Option (ℕ × Range × Range)
frame_of s =
    pick (ltb 60000 (length s)) None
    (on_option2 (number_at s 1 4294967295) None λ n next.
    pick (ltb (length s) (next + n)) None (Some (get_or s 0 0, range next (next + n), range (next + n) (length s))))
