-- Sheets whose properties are numbers into a table: what the numbers stand for, mapped over sheets and answers.
use Rattle.std.specs.Prelude.{ℕ, cond}
use mathlib.Core.List.{List, [], ◌∷◌, map}
use Rattle.base.specs.Bytes.{Bytes, same}
use Rattle.base.specs.Map.{Entry, entry}
use Rattle.sheet.specs.Sheet.{Rule}
use Rattle.cascade.specs.Map.{map_entry}
use Rattle.cascade.specs.Clause.{Clause}
use Rattle.cascade.specs.Cascade.{Hit, Layers}
use Rattle.cascade.specs.Walk.{Answer, refused, layers}

module _ {A B : Type 0} (f : A → B) where
  abbrev pub map_layers : Layers A → Layers B
  map_layers = map (map_entry (map (map_entry f)))

  abbrev pub map_hit : Hit A → Hit B
  map_hit h = record { layer = h.layer; properties = map (map_entry f) h.properties }

  abbrev pub map_clause : Clause A → Clause B
  map_clause c = record { selector = c.selector; assigns = map (map_entry f) c.assigns }

  abbrev pub map_rule : Rule A → Rule B
  map_rule r = record { selectors = r.selectors; properties = map (map_entry f) r.properties }

  abbrev pub map_answer : Answer A → Answer B
  map_answer (refused n) = refused n
  map_answer (layers m) = layers (map_layers m)

-- ---- one layer as the code stores it: the properties' numbers alone

module _ (name : ℕ → Bytes) where
  -- the number of an overwritten name's property is replaced in place
  unfoldable pub assign : List ℕ → ℕ → List ℕ
  assign [] i = i ∷ []
  assign (j ∷ js) i = cond (same (name i) (name j)) (i ∷ js) (j ∷ assign js i)

  abbrev pub spelled : ℕ → Entry ℕ
  spelled i = entry (name i) i
