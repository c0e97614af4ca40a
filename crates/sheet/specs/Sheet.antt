-- A sheet as a value: its rules, with their selectors, tests and properties, as the Rust's parser.rs has them.
-- It holds bytes and floats, never places in a table or bundle, so two sheets are compared by what they say.
use Rattle.std.specs.Prelude.{ℕ, List, Float}
use Rattle.std.proofs.Math.Option.{Option}
use Rattle.base.specs.Bytes.{Bytes}
use Rattle.base.specs.Map.{Entry}
use Rattle.color.specs.declared.Color.{Color}

-- `*`, `canvas`, `meta`, `node`, `way` and `line`, `area`
pub data ObjectType : Type 0 where
  all canvas meta node way area : ObjectType

-- `[k]`, `[!k]`, `[k?]`, `[!k?]`
pub data UnaryTest : Type 0 where
  exists not_exists is_true is_false : UnaryTest

-- `[k=v]`, `[k!=v]`
pub data TextTest : Type 0 where
  equal not_equal : TextTest

-- `[k<x]`, `[k<=x]`, `[k>x]`, `[k>=x]`
pub data NumericTest : Type 0 where
  less less_or_equal greater greater_or_equal : NumericTest

-- A test of the tag with this key. A text test holds the bytes that it compares with: where the sheet has a number there,
-- as in `[a=2.0]`, whoever makes the test puts the decimal digits of that whole f64 here (`digitsOf` of Digits.antt), "2", and "-0" for `[a=-0]`.
pub data Test : Type 0 where
  unary : UnaryTest → Bytes → Test
  text : TextTest → Bytes → Bytes → Test
  numeric : NumericTest → Bytes → Float → Test

pub data Value : Type 0 where
  identifier string : Bytes → Value
  color : Color → Value
  numbers : List Float → Value
  width_delta : Float → Value

pub record Selector : Type 0 where
  pub object_type : ObjectType
  pub min_zoom : Option ℕ
  pub max_zoom : Option ℕ
  pub tests : List Test
  pub layer_id : Option Bytes

-- A property is an assignment to a name. What it assigns is left open: a value, or a property's number in the sheet's table.
pub record Rule (A : Type 0) : Type 0 where
  pub selectors : List Selector
  pub properties : List (Entry A)
