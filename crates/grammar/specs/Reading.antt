-- What a sheet reads as: rules and colour definitions in order, names with their places, no table and no capacity.
use Rattle.std.specs.Prelude.{ℕ, cond, List, [], ◌∷◌, ◌++◌, Float}
use Rattle.std.proofs.Math.Option.{Option, none, some}
use Rattle.base.specs.Bytes.{Bytes, ascii, same}
use Rattle.color.specs.declared.Color.{Color}
use Rattle.sheet.specs.Sheet.{ObjectType, all, canvas, meta, node, way, area, UnaryTest, TextTest, NumericTest}
use Rattle.grammar.specs.Token.{Name}

-- what a tag is compared with as text: a word, or a whole number, which stands for its decimal digits
pub data Operand : Type 0 where
  plain : Name → Operand
  digits : Float → Operand

pub data Test : Type 0 where
  unary : UnaryTest → Name → Test
  text : TextTest → Name → Operand → Test
  numeric : NumericTest → Name → Float → Test

pub data Value : Type 0 where
  word quoted : Name → Value
  colored : Color → Value
  numbers : List Float → Value
  width_delta : Float → Value

pub record Selector : Type 0 where
  pub object_type : ObjectType
  pub min_zoom : Option ℕ
  pub max_zoom : Option ℕ
  pub tests : List Test
  pub layer_id : Option Name

pub record Property : Type 0 where
  pub name : Name
  pub value : Value

pub record Rule : Type 0 where
  pub selectors : List Selector
  pub properties : List Property

-- what a sheet comes to, imports put in their places
pub data Item : Type 0 where
  rule_item : Rule → Item
  color_item : Name → Color → Item

abbrev pub Reading : Type 0
Reading = List Item

unfoldable pub rules_of : Reading → List Rule
rules_of [] = []
rules_of (rule_item r ∷ js) = r ∷ rules_of js
rules_of (color_item n c ∷ js) = rules_of js

-- ---- making readings

abbrev pub rule : List Selector → List Property → Rule
rule ss ps = record { selectors = ss; properties = ps }

abbrev pub property : Name → Value → Property
property n v = record { name = n; value = v }

abbrev pub bare : ObjectType → Selector
bare t = record { object_type = t; min_zoom = none; max_zoom = none; tests = []; layer_id = none }

-- a later zoom range or layer name replaces the earlier; tests pile up
abbrev pub with_zoom : Selector → Option ℕ → Option ℕ → Selector
with_zoom σ a b = record σ { min_zoom = a; max_zoom = b }

abbrev pub with_test : Selector → Test → Selector
with_test σ t = record σ { tests = σ.tests ++ (t ∷ []) }

abbrev pub with_layer : Selector → Name → Selector
with_layer σ a = record σ { layer_id = some a }

abbrev pub add_selector : Selector → Rule → Rule
add_selector σ r = rule (σ ∷ r.selectors) r.properties

unfoldable pub id_to_object_type : Bytes → Option ObjectType
id_to_object_type a =
    cond (same a (ascii "*")) (some all)
    (cond (same a (ascii "canvas")) (some canvas)
    (cond (same a (ascii "meta")) (some meta)
    (cond (same a (ascii "node")) (some node)
    (cond (same a (ascii "way")) (some way)
    (cond (same a (ascii "line")) (some way)
    (cond (same a (ascii "area")) (some area) none))))))

-- ---- colours

pub record ColorDef : Type 0 where
  pub name : Name
  pub color : Color

-- the colours defined so far, in order of first definition
abbrev pub Colors : Type 0
Colors = List ColorDef

abbrev pub color_def : Name → Color → ColorDef
color_def n c = record { name = n; color = c }

-- a colour defined anew keeps its place and its name, and takes the new value
unfoldable pub define : Colors → Name → Color → Colors
define [] n c = color_def n c ∷ []
define (e ∷ Γ) n c = cond (same n.bytes e.name.bytes) (color_def e.name c ∷ Γ) (e ∷ define Γ n c)

unfoldable pub color_named : Name → Colors → Option Color
color_named n [] = none
color_named n (e ∷ Γ) = cond (same n.bytes e.name.bytes) (some e.color) (color_named n Γ)

unfoldable pub colors_after : Colors → Reading → Colors
colors_after Γ [] = Γ
colors_after Γ (rule_item r ∷ js) = colors_after Γ js
colors_after Γ (color_item n c ∷ js) = colors_after (define Γ n c) js
