-- The properties of a layer, held as their numbers in a row of words: where an assignment goes.
use Rattle.std.specs.Prelude.{ℕ, suc, ◌+◌, ◌*◌, ◌-◌, cond, ltb, get_or, take, drop, Option, Some, None}
use mathlib.Core.List.{List, [], ◌∷◌, foldl}
use Rattle.base.specs.Bytes.{Bytes, same}
use Rattle.cascade.specs.Numbered.{assign}
use Rattle.decode.specs.Decode.{places}
use Rattle.walk.specs.declared.rows.Properties.{Properties}

-- where an assignment to a name goes: the place of that name, else the end
unfoldable pub place_of : (ℕ → Bytes) → List ℕ → Bytes → ℕ
place_of name [] k = 0
place_of name (j ∷ js) k = cond (same k (name j)) 0 (suc (place_of name js k))

-- a place among the first n, and none where a search ends at n
unfoldable pub below : ℕ → ℕ → Option ℕ
below n k = cond (ltb k n) (Some k) None

-- the properties of a rule
abbrev pub numbers_in : Properties → List ℕ
numbers_in ps = places ps.from (ps.to - ps.from)

-- properties assigned one after another
abbrev pub assigns : (ℕ → Bytes) → List ℕ → List ℕ → List ℕ
assigns name = foldl (assign name)

-- the numbers of the properties of layer i of a table of maps
abbrev pub numbers_at : List ℕ → ℕ → List ℕ
numbers_at t i = take (get_or t (i * 131 + 1) 0) (drop (i * 131 + 2) t)
