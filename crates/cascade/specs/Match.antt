-- When a selector matches an entity, and when that is refused with 8.
use Rattle.std.specs.Prelude.{ℕ, ◌≡◌, Bool, true, false, ◌&&◌, ◌||◌, not, cond, List, [], ◌∷◌, ◌++◌, eqb, leb, Float}
use Rattle.std.proofs.Math.Option.{Option, none, some}
use Rattle.std.specs.Float.Ieee.{lt, le}
use Rattle.base.specs.Bytes.{Bytes, ascii, same}
use Rattle.base.specs.Map.{lookup}
use Rattle.base.specs.Entity.{Entity}
use Rattle.sheet.specs.Sheet.{ObjectType, node, way, area, UnaryTest, exists, not_exists, is_true, is_false, TextTest, equal, not_equal, NumericTest, less, less_or_equal, greater, greater_or_equal, Test, unary, text, numeric, Selector}
use Rattle.cascade.specs.Number.{TagNumber, reads, malformed, out_of_range, tag_number}

abbrev pub tag : Entity → Bytes → Option Bytes
tag e k = lookup k e.tags

-- a test holds, fails, or meets a tag number out of range
pub data Verdict : Type 0 where
  pass fail out : Verdict

abbrev pub of_bool : Bool → Verdict
of_bool true = pass
of_bool false = fail

-- ---- one test, on the tag that it names

unfoldable pub present : {A : Type 0} → Option A → Bool
present none = false
present (some v) = true

unfoldable pub true_value : Option Bytes → Bool
true_value none = false
true_value (some v) = same v (ascii "yes") || same v (ascii "true") || same v (ascii "1")

unfoldable pub unary_holds : UnaryTest → Option Bytes → Bool
unary_holds exists o = present o
unary_holds not_exists o = not (present o)
unary_holds is_true o = true_value o
unary_holds is_false o = not (true_value o)

-- an absent tag fails Equal and passes NotEqual
unfoldable pub equals : Bytes → Option Bytes → Bool
equals v none = false
equals v (some w) = same w v

unfoldable pub text_holds : TextTest → Bytes → Option Bytes → Bool
text_holds equal v o = equals v o
text_holds not_equal v o = not (equals v o)

unfoldable pub compares : NumericTest → Float → Float → Bool
compares less x y = lt x y
compares less_or_equal x y = le x y
compares greater x y = lt y x
compares greater_or_equal x y = le y x

-- an absent tag fails numeric tests, and so does a malformed number
unfoldable pub number_verdict : NumericTest → Float → TagNumber → Verdict
number_verdict c y (reads x) = of_bool (compares c x y)
number_verdict c y malformed = fail
number_verdict c y out_of_range = out

unfoldable pub numeric_verdict : NumericTest → Float → Option Bytes → Verdict
numeric_verdict c y none = fail
numeric_verdict c y (some v) = number_verdict c y (tag_number v)

abbrev pub test_key : Test → Bytes
test_key (unary u k) = k
test_key (text q k v) = k
test_key (numeric c k y) = k

unfoldable pub test_verdict : Test → Option Bytes → Verdict
test_verdict (unary u k) o = of_bool (unary_holds u o)
test_verdict (text q k v) o = of_bool (text_holds q v o)
test_verdict (numeric c k y) o = numeric_verdict c y o

abbrev pub verdict_on : Entity → Test → Verdict
verdict_on e t = test_verdict t (tag e (test_key t))

-- ---- a selector

-- `*`, `canvas` and `meta` match no entity
unfoldable pub fits_type : ObjectType → ℕ → Bool
fits_type node k = eqb k 0
fits_type way k = eqb k 1 || eqb k 2
fits_type area k = eqb k 2
fits_type t k = false

-- zoom ends are inclusive
abbrev pub at_least : ℕ → Option ℕ → Bool
at_least z none = true
at_least z (some lo) = leb lo z

abbrev pub at_most : ℕ → Option ℕ → Bool
at_most z none = true
at_most z (some hi) = leb z hi

unfoldable pub applies : ℕ → ℕ → Selector → Bool
applies z kind s = at_least z s.min_zoom && at_most z s.max_zoom && fits_type s.object_type kind

abbrev pub and_then : Verdict → Verdict → Verdict
and_then pass v = v
and_then fail v = fail
and_then out v = out

-- a test is reached if all earlier ones hold
unfoldable pub tests_verdict : Entity → List Test → Verdict
tests_verdict e [] = pass
tests_verdict e (t ∷ ts) = and_then (verdict_on e t) (tests_verdict e ts)

unfoldable pub verdict : ℕ → Entity → Selector → Verdict
verdict z e s = cond (applies z e.kind s) (tests_verdict e s.tests) fail

-- "A test is reached if type and zoom fit and all earlier tests of its selector hold."
pub record Reached (z : ℕ) (e : Entity) (s : Selector) (t : Test) : Type 0 where
  pub fits : applies z e.kind s ≡ true
  pub earlier : List Test
  pub later : List Test
  pub stands : s.tests ≡ earlier ++ (t ∷ later)
  pub hold : tests_verdict e earlier ≡ pass

-- "8 a reached numeric test meets a tag number outside the exact range."
pub record Outside (e : Entity) (t : Test) : Type 0 where
  pub test : NumericTest
  pub bound : Float
  pub bytes : Bytes
  pub numeric_is : t ≡ numeric test (test_key t) bound
  pub tag_is : tag e (test_key t) ≡ some bytes
  pub number_is : tag_number bytes ≡ out_of_range
