-- From a reading to the rules of a sheet: names by their bytes, and the number of a text test by its decimal digits.
use Rattle.std.specs.Prelude.{List, map, Float}
use Rattle.std.proofs.Math.Option.{Option, none, some}
use Rattle.base.specs.Bytes.{Bytes}
use Rattle.base.specs.Map.{Entry, entry}
use Rattle.sheet.specs.Sheet.{identifier, string, color, Test as Test', unary as unary', text as text', numeric as numeric', Value as Value', numbers as numbers', width_delta as widthDelta', Selector as Selector', Rule as Rule'}
use Rattle.grammar.specs.Token.{Name}
use Rattle.grammar.specs.Reading.{Operand, plain, digits, Test, unary, text, numeric, Value, word, quoted, colored, numbers, width_delta, Selector, Property, Rule, Reading, rules_of}

-- digitsOf: the decimal digits of a whole number (sheet/specs/Digits.antt)
module _ (digits_for : Float → Bytes) where
  abbrev pub operand_bytes : Operand → Bytes
  operand_bytes (plain a) = a.bytes
  operand_bytes (digits x) = digits_for x

  abbrev pub test_of : Test → Test'
  test_of (unary o a) = unary' o a.bytes
  test_of (text o a b) = text' o a.bytes (operand_bytes b)
  test_of (numeric o a x) = numeric' o a.bytes x

  abbrev pub layer_of : Option Name → Option Bytes
  layer_of none = none
  layer_of (some a) = some a.bytes

  abbrev pub selector_of : Selector → Selector'
  selector_of σ =
      record
      { object_type = σ.object_type; min_zoom = σ.min_zoom; max_zoom = σ.max_zoom; tests = map test_of σ.tests; layer_id = layer_of σ.layer_id }

  abbrev pub value_of : Value → Value'
  value_of (word a) = identifier a.bytes
  value_of (quoted a) = string a.bytes
  value_of (colored c) = color c
  value_of (numbers xs) = numbers' xs
  value_of (width_delta x) = widthDelta' x

  abbrev pub property_of : Property → Entry Value'
  property_of p = entry p.name.bytes (value_of p.value)

  abbrev pub rule_of : Rule → Rule' Value'
  rule_of r = record { selectors = map selector_of r.selectors; properties = map property_of r.properties }

  abbrev pub rules_of_reading : Reading → List (Rule' Value')
  rules_of_reading js = map rule_of (rules_of js)
