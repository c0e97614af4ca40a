-- The lent table as a list of rows, what it stands for, and when a run over it says what the theory's walk answers.
use Prim.Native.Nat.{ℕ, suc, ◌*◌, ◌-◌, ◌≤◌}
use mathlib.Core.Bool.{cond}
use mathlib.Core.List.{List, [], ◌∷◌, ◌++◌, map}
use lib.ListN.{length, replicate}
use Rattle.base.specs.Bytes.{Bytes, same}
use Rattle.base.specs.Map.{Entry, entry}
use Rattle.cascade.specs.Map.{DistinctKeys}
use Rattle.cascade.specs.Cascade.{Layers}
use Rattle.cascade.specs.Numbered.{spelled}
use Rattle.cascade.specs.Walk.{Answer, refused, layers}
use Rattle.walk.specs.Rows.{assigns}
use Rattle.walk.specs.Run.{Run, stop, going}

-- a layer: the number of the selector that named it, and its properties' numbers
pub record Row : Type 0 where
  pub head : ℕ
  pub numbers : List ℕ

abbrev pub row : ℕ → List ℕ → Row
row h js = record { head = h; numbers = js }

abbrev pub Book : Type 0
Book = List Row

abbrev pub no_row : Row
no_row = row 0 []

-- ---- the words

abbrev pub words : Row → List ℕ
words x = x.head ∷ length x.numbers ∷ (x.numbers ++ replicate (129 - length x.numbers) 0)

unfoldable pub rows_of : Book → List ℕ
rows_of [] = []
rows_of (x ∷ b) = words x ++ rows_of b

-- the rows, then zeros to the end of the table
unfoldable pub encode : Book → List ℕ
encode b = rows_of b ++ replicate (4323 - length b * 131) 0

-- ---- what they stand for

-- no row of more than 128 numbers
unfoldable pub Slim : Book → Type 0
Slim [] = Unit {0}
Slim (x ∷ b) = (length x.numbers ≤ 128) × Slim b

-- a row after a rule's properties
abbrev pub gives : (ℕ → Bytes) → List ℕ → Row → Row
gives name ps x = row x.head (assigns name x.numbers ps)

-- the first row of a name, else the place after them
unfoldable pub layer_place : (ℕ → Bytes) → Bytes → Book → ℕ
layer_place layer l [] = 0
layer_place layer l (x ∷ b) = cond (same l (layer x.head)) 0 (suc (layer_place layer l b))

module _ (name layer : ℕ → Bytes) where
  abbrev pub spell_row : Row → Entry (List (Entry ℕ))
  spell_row x = entry (layer x.head) (map (spelled name) x.numbers)

  abbrev pub spell : Book → Layers ℕ
  spell = map spell_row

  pub record Fine (b : Book) : Type 0 where
    pub few : length b ≤ 32
    pub thin : Slim b
    pub apart : DistinctKeys (spell b)

  -- a run and an answer say the same
  pub data Means : Run → Answer ℕ → Type 0 where
    stops : (k : ℕ) → Means (stop k) (refused k)
    goes : (b : Book) → Fine b → Means (going (length b) (encode b)) (layers (spell b))
