-- The table's rule: each name of the table has its colour, and no other name has one.
use Prim.Native.Nat.{ℕ}
use mathlib.Core.Path.{◌≡◌, refl}
use mathlib.Core.List.{List, [], ◌∷◌, map, Memᴰ}
use Rattle.std.proofs.Common.{rules}
use Rattle.base.specs.Bytes.{Bytes, same}
use Rattle.base.specs.Choice.{pick, by-test}
use Rattle.base.proofs.Compare.{same_false}
use Rattle.color.specs.Named.{Named, row, named_colors, first_named, color_named}
use Rattle.std.specs.Prelude.{Some, None}
use Rattle.std.specs.Borrow.{Bor}
use Rattle.std.specs.List.{find, AllByRecursion}
use Rattle.std.specs.Option.{option_map}

-- an entry has, by its name, its own colour
abbrev Colored : Named → Type 0
Colored e = color_named e.name ≡ Some e.color

pub all_colored : AllByRecursion Colored named_colors
unfolding color_named first_named same pick
all_colored = search rules

colored_in : (es : List Named) → AllByRecursion Colored es → (e : Named) → Memᴰ e es → Colored e
colored_in (d ∷ es) p e (Memᴰ.head q) = rw q p.0
colored_in (d ∷ es) p e (Memᴰ.tail m) = colored_in es p.1 e m
colored_in [] p e x3 = elim x3 [ ]

pub name_colored : (e : Named) → Memᴰ e named_colors → color_named e.name ≡ Some e.color
name_colored e m = colored_in named_colors all_colored e m

others : (es : List Named) (n : Bytes) → ((e : Named) → Memᴰ e es → n ≡ e.name → ⊥) → first_named es n ≡ None
unfolding first_named pick
others [] n h = refl
others (d ∷ es) n h = rw (same_false n d.name (h d (Memᴰ.head refl))) (others es n (λ e m. h e (Memᴰ.tail m)))

pub other_unknown : (n : Bytes) → ((e : Named) → Memᴰ e named_colors → n ≡ e.name → ⊥) → color_named n ≡ None
unfolding color_named
other_unknown n h = others named_colors n h

-- the colour of the first entry with a name, as the code looks for it
pub named_found :
    (n : Bytes) (es : List (Bor Bytes × ℕ × ℕ × ℕ))
    → option_map (λ e. (row e).color) (find (λ e. same n e.0.now) es) ≡ first_named (map row es) n
unfolding first_named pick
named_found n [] = refl
named_found n (e ∷ es) = by-test (same n e.0.now) (λ t. rw t) (λ t. rw t (named_found n es))
