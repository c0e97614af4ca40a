-- Small sheets: the worked example of the paper, marked cases of matching, and 8 where a test is reached.
use Rattle.std.specs.Prelude.{ℕ, ◌≡◌, refl, List, [], ◌∷◌, map}
use Rattle.std.proofs.Math.Option.{Option, none, some}
use Rattle.std.specs.Float.Ieee.{lt, eq, le, of_int, neg, mul, div}
use Rattle.base.specs.Bytes.{Bytes, ascii, same}
use Rattle.base.specs.Map.{Entry, entry, lookup, member}
use Rattle.base.specs.Entity.{Entity}
use Rattle.sheet.specs.Sheet.{way, exists, not_exists, is_false, equal, not_equal, greater_or_equal, Test, unary, text, numeric, Selector, Rule}
use Rattle.cascade.specs.Map.{insert}
use Rattle.cascade.specs.Clause.{clauses}
use Rattle.cascade.specs.Number.{negative, unsigned, digits, after_digits, spelt, whole_number, decimals, after_decimals, exponent_of, decimal_from, whole, scaled, value_of, unsigned_number, tag_number}
use Rattle.cascade.specs.Match.{Verdict, pass, fail, out, present, true_value, unary_holds, equals, text_holds, compares, number_verdict, numeric_verdict, test_verdict, tests_verdict, fits_type, applies, verdict}
use Rattle.cascade.specs.Cascade.{reaches, receive, ensure, step}
use Rattle.cascade.specs.Walk.{layers, crowded, walk, property_maps}

-- what a cascade of a small sheet runs through
unfoldable pub cascading : Unit {0}
unfolding same insert lookup member clauses applies fits_type tests_verdict verdict reaches receive ensure step crowded walk property_maps
cascading = tt

-- a rule with one selector, of ways
abbrev pub way_rule : {A : Type 0} → Option Bytes → List Test → List (Entry A) → Rule A
way_rule l ts ps =
    record
    { selectors = record { object_type = way; min_zoom = none; max_zoom = none; tests = ts; layer_id = l } ∷ []; properties = ps }

abbrev pub open_way : List (Entry Bytes) → Entity
open_way ts = record { kind = 1; id = 1; tags = ts }

-- way::*{width:1;} way::c{color:red;} way::*{width:3;}, the properties by their numbers in the sheet
abbrev plate_sheet : List (Rule ℕ)
plate_sheet =
    way_rule (some (ascii "*")) [] (entry (ascii "width") 0 ∷ [])
    ∷ way_rule (some (ascii "c")) [] (entry (ascii "color") 1 ∷ []) ∷ way_rule (some (ascii "*")) [] (entry (ascii "width") 2 ∷ []) ∷ []

pub plate :
    property_maps 13 (open_way []) plate_sheet ≡ layers
    (entry (ascii "*") (entry (ascii "width") 2 ∷ []) ∷ entry (ascii "c")
    (entry (ascii "width") 2 ∷ entry (ascii "color") 1 ∷ []) ∷ [])
unfolding cascading
plate = refl

-- ---- matching: marked cases 8, 10 and 11, what an absent tag and a malformed number do, and 8 only where the test is reached

abbrev zoomed : Option ℕ → List Test → Selector
zoomed lo ts = record { object_type = way; min_zoom = lo; max_zoom = none; tests = ts; layer_id = none }

abbrev x : Bytes → List (Entry Bytes)
x v = entry (ascii "x") v ∷ []

abbrev at_least500 : Test
at_least500 = numeric greater_or_equal (ascii "x") (whole 500)

abbrev judged : List (ℕ × List (Entry Bytes) × Selector × Verdict) → Type 0
judged cs = map (λ c. verdict c.0 (open_way c.1) c.2) cs ≡ map (λ c. c.3) cs

pub matching :
    judged (
    (13, [], zoomed none (unary is_false (ascii "x") ∷ []), pass) ∷
    (13, x (ascii "no"), zoomed none (unary is_false (ascii "x") ∷ []), pass) ∷
    (13, x (ascii "1"), zoomed none (unary is_false (ascii "x") ∷ []), fail) ∷ (13, x (ascii "5e2"), zoomed none (at_least500 ∷ []), pass) ∷
    (13, [], zoomed (some 13) [], pass) ∷ (12, [], zoomed (some 13) [], fail) ∷
    (13, [], zoomed none (at_least500 ∷ []), fail) ∷ (13, x (ascii "high"), zoomed none (at_least500 ∷ []), fail) ∷
    (13, [], zoomed none (text equal (ascii "x") (ascii "2") ∷ []), fail) ∷
    (13, [], zoomed none (text not_equal (ascii "x") (ascii "2") ∷ []), pass) ∷
    (13, x (ascii "2.0"), zoomed none (text equal (ascii "x") (ascii "2") ∷ []), fail) ∷
    (13, x (ascii "1e23"), zoomed none (at_least500 ∷ []), out) ∷
    (12, x (ascii "1e23"), zoomed (some 13) (at_least500 ∷ []), fail) ∷
    (13, x (ascii "1e23"), zoomed none (unary not_exists (ascii "x") ∷ at_least500 ∷ []), fail) ∷
    (13, x (ascii "1e23"), zoomed none (unary exists (ascii "x") ∷ at_least500 ∷ []), out) ∷ []
    )
unfolding same lookup present true_value unary_holds equals text_holds compares number_verdict numeric_verdict test_verdict tests_verdict
    fits_type applies verdict negative unsigned digits after_digits spelt whole_number decimals after_decimals exponent_of decimal_from
    scaled value_of unsigned_number tag_number lt eq le of_int neg mul div
matching = refl
