-- The lines that plate prints: `layer NAME`, `NAME NUMBER`, `refused` and five numbers; one blank between, a newline behind each.
use Rattle.std.specs.Prelude.{ℕ, min, length, take, drop}
use mathlib.Core.List.{List, [], ◌∷◌, ◌++◌, map, flat_map}
use Rattle.base.specs.Bytes.{Bytes, ascii}
use Rattle.base.specs.Map.{Entry}
use Rattle.base.specs.declared.refusal.Refusal.{Refusal}
use Rattle.cascade.specs.Cascade.{Layers}
use Rattle.sheet.specs.Digits.{natural_digits}

-- a number behind a blank
abbrev pub blank_number : ℕ → Bytes
blank_number n = 32 ∷ natural_digits n

abbrev pub layer_line : Bytes → Bytes
layer_line name = ascii "layer " ++ (name ++ (10 ∷ []))

abbrev pub property_line : Bytes → ℕ → Bytes
property_line name n = name ++ (blank_number n ++ (10 ∷ []))

abbrev pub refusal_line : Refusal → Bytes
refusal_line e =
    ascii "refused"
    ++ (blank_number e.number
    ++ (blank_number e.reason
    ++ (blank_number e.text
    ++ (blank_number e.line
    ++ (blank_number e.character
    ++ (10 ∷ []))))))

-- a layer's name, then its properties
abbrev pub layer_lines : Entry (List (Entry ℕ)) → List Bytes
layer_lines e = layer_line e.key ∷ map (λ p. property_line p.key p.value) e.value

abbrev pub lines_of : Layers ℕ → List Bytes
lines_of m = flat_map layer_lines m

-- a line in the first places of a buffer, as far as it has room, and how many bytes that is
abbrev pub written : Bytes → Bytes → ℕ × Bytes
written l out = (min (length l) (length out), take (length out) l ++ drop (length l) out)
