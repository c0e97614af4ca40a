-- The drawing order as styler.rs has it: compare_styled_entities, and style_areas, which merges two sorted lists.
use Prim.Native.Nat.{ℕ, compare, Ordering}
use Rattle.std.specs.Prelude.{Bool, true, false, ◌&&◌, not, cond, List, [], eqb, ℤ, pos, negsuc, Float}
use Rattle.std.specs.Bool.{beq}
use Rattle.std.proofs.Math.Dec.{is_le}
use Rattle.std.specs.Float.Ieee.{lt, eq}
use Rattle.base.specs.Entity.{Entity}
use Rattle.sheet.specs.Sheet.{Rule, Value}
use Rattle.cascade.specs.Style.{Settings}
use Rattle.cascade.specs.Sort.{sort, merge}
use Rattle.cascade.specs.Draw.{Drawn, Drawing, entries, layer_rank, z_rank, id_rank, stream, join}

-- `==` and `cmp` of i64, `cmp` of bool
unfoldable pub same_int : ℤ → ℤ → Bool
same_int (pos a) (pos b) = eqb a b
same_int (pos a) (negsuc b) = false
same_int (negsuc a) (pos b) = false
same_int (negsuc a) (negsuc b) = eqb a b

unfoldable pub compare_int : ℤ → ℤ → Ordering
compare_int (pos a) (pos b) = compare a b
compare_int (pos a) (negsuc b) = Ordering.gt
compare_int (negsuc a) (pos b) = Ordering.lt
compare_int (negsuc a) (negsuc b) = compare b a

unfoldable pub compare_bool : Bool → Bool → Ordering
compare_bool false false = Ordering.eq
compare_bool false true = Ordering.lt
compare_bool true false = Ordering.gt
compare_bool true true = Ordering.eq

-- `partial_cmp(..).unwrap()`: the Rust panics at a NaN, which never comes here
unfoldable pub compare_float : Float → Float → Ordering
compare_float x y = cond (lt x y) Ordering.lt (cond (lt y x) Ordering.gt Ordering.eq)

abbrev pub fill : Drawn → Bool
fill d = d.style.is_foreground_fill

unfoldable pub compare_styled : Bool → Drawn → Drawn → Ordering
compare_styled for_labels a b =
    cond (not (same_int (layer_rank a) (layer_rank b)))
    (compare_int (layer_rank a) (layer_rank b))
    (cond (not for_labels && not (beq (fill a) (fill b)))
    (compare_bool (fill a) (fill b))
    (cond (not (eq (z_rank a) (z_rank b))) (compare_float (z_rank a) (z_rank b)) (compare (id_rank a) (id_rank b))))

-- `compare_styled_entities(a, b, for_labels) != Ordering::Greater`
abbrev pub not_greater : Bool → Drawn → Drawn → Bool
not_greater for_labels a b = is_le (compare_styled for_labels a b)

-- style_entities
abbrev pub rust_entities : Settings → ℕ → List (Rule Value) → List Entity → Drawing
rust_entities s z rs es = join (λ xs ys. sort (not_greater s.for_labels) xs) (stream false s z rs 0 es) (entries [])

-- style_areas: each stream sorted by itself, then merged: of two that tie the multipolygon first
abbrev pub rust_areas : Settings → ℕ → List (Rule Value) → List Entity → List Entity → Drawing
rust_areas s z rs ways multipolygons =
    join
    (λ ws ms. merge (not_greater s.for_labels) (sort (not_greater s.for_labels) ms) (sort (not_greater s.for_labels) ws))
    (stream false s z rs 0 ways)
    (stream true s z rs 0 multipolygons)
