-- A line on its way: how many bytes of it stand in a buffer, and the buffer; the bytes come one after another while there is room.
use Rattle.std.specs.Prelude.{ℕ, ◌+◌, [], ◌∷◌, ltb, length, set}
use Rattle.base.specs.Bytes.{Bytes}
use Rattle.base.specs.Choice.{pick}

unfoldable pub put : ℕ × Bytes → ℕ → ℕ × Bytes
put p b = pick (ltb p.0 (length p.1)) (p.0 + 1, set p.1 p.0 b) p

unfoldable pub put_all : ℕ × Bytes → Bytes → ℕ × Bytes
put_all p [] = p
put_all p (b ∷ s) = put_all (put p b) s
