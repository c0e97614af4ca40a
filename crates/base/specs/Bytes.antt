-- Byte strings: equality and order as tests, and the part of a list that a range names.
use Rattle.std.specs.Prelude.{ℕ, ◌-◌, ◌<◌, Bool, true, false, ◌&&◌, ◌||◌, List, [], ◌∷◌, eqb, ltb, take, drop}
use Prim.Native.Char.{code}
use Prim.Native.String.{String, [] as []ˢ, ◌∷◌ as ◌∷ˢ◌}
use Rattle.base.specs.declared.Range.{Range}

abbrev pub Bytes : Type 0
Bytes = List ℕ

-- the bytes of an ASCII text
abbrev pub ascii : String → Bytes
ascii []ˢ = []
ascii (c ∷ˢ s) = code c ∷ ascii s

-- each number of a list is a byte
pub data AllBytes : Bytes → Type 0 where
  none : AllBytes []
  next : {b : ℕ} {s : Bytes} → b < 256 → AllBytes s → AllBytes (b ∷ s)

unfoldable pub same : Bytes → Bytes → Bool
same [] [] = true
same [] (y ∷ ys) = false
same (x ∷ xs) [] = false
same (x ∷ xs) (y ∷ ys) = eqb x y && same xs ys

-- the order of a dictionary
unfoldable pub precedes : Bytes → Bytes → Bool
precedes xs [] = false
precedes [] (y ∷ ys) = true
precedes (x ∷ xs) (y ∷ ys) = ltb x y || (eqb x y && precedes xs ys)

abbrev pub between : {A : Type 0} → ℕ → ℕ → List A → List A
between from to s = take (to - from) (drop from s)

abbrev pub within : {A : Type 0} → Range → List A → List A
within r s = between r.from r.to s
