-- A lent table: its entries, then zeros to its end.
use Rattle.std.specs.Prelude.{ℕ, ◌+◌, ◌-◌, ◌/◌, min, List, [], ◌∷◌, ◌++◌, length, replicate, set, Float}
use Rattle.std.specs.Float.Ieee.{of_bits}
use Rattle.std.specs.Float.{binary64}

-- 0.0
abbrev pub zero_float : Float
zero_float = of_bits binary64 0

-- how many entries of so many elements a table of so many elements takes: none where an entry has none (n / 0 is 0)
unfoldable pub capacity_of : ℕ → ℕ → ℕ
capacity_of stride len = min 16384 (len / stride)

-- elements, then filler up to the length
abbrev pub padded : {A : Type 0} → A → ℕ → List A → List A
padded z len es = es ++ replicate (len - length es) z

-- the elements of an entry, stored one after another from a place on
abbrev pub stored : {A : Type 0} → List A → ℕ → List A → List A
stored t i [] = t
stored t i (v ∷ vs) = stored (set t i v) (i + 1) vs

-- entries of one stride, one after another
abbrev pub flat : {A : Type 0} → List (List A) → List A
flat [] = []
flat (e ∷ es) = e ++ flat es
