-- A bundle, at most 1,048,576 bytes: the count of texts, 1 to 64; per text the name's length, 1 to 255, the name, the text's
-- length, the text. No equal names, no bytes over. Some (0, is) the sheet.
use Rattle.std.specs.Prelude.{ℕ, ◌+◌, ◌≤◌, Bool, true, false, not, ◌≡◌, List, [], ◌∷◌, ◌++◌, map, eqb, ltb, length, Option, Some, None, Result, Ok, Err}
use Rattle.base.specs.Bytes.{Bytes, same, within}
use Rattle.base.specs.Choice.{pick}
use Rattle.base.specs.Map.{Map, key_of, member}
use Rattle.base.specs.Refusal.{refusal}
use Rattle.group.specs.Number.{number_at, group_of}
use Rattle.group.specs.Pair.{Ranges, pairs_at, skip_of, entries_at, all_utf8, map_bytes}
use Rattle.base.specs.Option.{on_option, on_option2}
use Rattle.base.specs.declared.Range.{Range}
use Rattle.base.specs.declared.refusal.Refusal.{Refusal}

-- the count that the bundle begins with, and the place behind it
unfoldable pub count_of : Bytes → ℕ
count_of s = on_option2 (number_at s 0 64) 0 λ n next. n

unfoldable pub first_at : Bytes → ℕ
first_at s = on_option2 (number_at s 0 64) 0 λ n next. next

-- each text's name and text, as ranges of the bundle, and as bytes
unfoldable pub ranges_of : Bytes → List Ranges
ranges_of s = pairs_at (count_of s) s (first_at s)

unfoldable pub texts_of : Bytes → Map Bytes
texts_of s = entries_at (count_of s) s (first_at s)

-- 1 to 255 bytes, and no name further on is equal
unfoldable pub good_name : Bytes → List Bytes → Bool
good_name x xs = pick (eqb (length x) 0) false (pick (ltb 255 (length x)) false (not (member x xs)))

unfoldable pub good_names : List Bytes → Bool
good_names [] = true
good_names (x ∷ xs) = pick (good_name x xs) (good_names xs) false

-- the layout
unfoldable pub is_bundle : Bytes → Bool
is_bundle s =
    pick (ltb 1048576 (length s)) false
    (pick (eqb (count_of s) 0) false
    (on_option (skip_of (count_of s) s (first_at s)) false λ end.
    pick (eqb end (length s)) (good_names (map key_of (texts_of s))) false))

-- layout is refusal 1; a name or a text that is not UTF-8 is 2
unfoldable pub check_of : Bytes → Result ℕ Refusal
check_of s =
    pick (is_bundle s)
    (pick (all_utf8 (texts_of s)) (Ok (count_of s)) (Err (refusal 2 0 0 0 0)))
    (Err (refusal 1 0 0 0 0))

-- the first text of a name, with its number
unfoldable pub find_in : Bytes → Bytes → ℕ → List Ranges → Option (ℕ × Range)
find_in s name k [] = None
find_in s name k (p ∷ ps) = pick (same name (within p.0 s)) (Some (k, p.1)) (find_in s name (k + 1) ps)

unfoldable pub find_of : Bytes → Bytes → Option (ℕ × Range)
find_of s name = find_in s name 0 (ranges_of s)

-- The other way: texts within the limits, and their bytes.
unfoldable pub bundle_bytes : Map Bytes → Bytes
bundle_bytes m = group_of (length m) ++ map_bytes m

pub record IsTexts (m : Map Bytes) : Type 0 where
  pub some_text : 1 ≤ length m
  pub few : length m ≤ 64
  pub names : good_names (map key_of m) ≡ true
  pub size : length (bundle_bytes m) ≤ 1048576
