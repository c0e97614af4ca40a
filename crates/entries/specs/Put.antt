-- Storing an entry behind those that a table holds.
use Rattle.std.specs.Prelude.{ℕ, ◌+◌, ◌*◌, List, ltb, length, Option, Some, None}
use Rattle.base.specs.Choice.{pick}
use Rattle.base.specs.Table.{capacity_of, stored}

-- an entry of so many elements, stored behind the first n, where n is below the capacity
unfoldable pub put_of : {A : Type 0} → ℕ → List A → ℕ → List A → Option ℕ × List A
put_of k t n vs = pick (ltb n (capacity_of k (length t))) (Some (n + 1), stored t (n * k) vs) (None, t)
