-- A sheet in the order of the walk: each selector with its rule's properties, rule by rule.
use Rattle.std.specs.Prelude.{List, [], ◌∷◌, ◌++◌, map}
use Rattle.std.proofs.Math.Option.{get_or}
use Rattle.base.specs.Bytes.{Bytes, ascii}
use Rattle.base.specs.Map.{Entry}
use Rattle.sheet.specs.Sheet.{Selector, Rule}

abbrev pub star : Bytes
star = ascii "*"

abbrev pub default_name : Bytes
default_name = ascii "default"

-- without a layer name the layer is `default`
abbrev pub layer_name : Selector → Bytes
layer_name s = get_or s.layer_id default_name

pub record Clause (A : Type 0) : Type 0 where
  pub selector : Selector
  pub assigns : List (Entry A)

module _ {A : Type 0} where
  abbrev pub clause : List (Entry A) → Selector → Clause A
  clause ps s = record { selector = s; assigns = ps }

  unfoldable pub clauses : List (Rule A) → List (Clause A)
  clauses [] = []
  clauses (r ∷ rs) = map (clause r.properties) r.selectors ++ clauses rs
