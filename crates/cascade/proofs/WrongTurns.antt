-- Wrong turns of a cascade that the paper names, each on a small sheet: what such an engine would answer is not the meaning of the sheet.
use Rattle.std.specs.Prelude.{ℕ, ◌≡◌, refl, List, [], ◌∷◌, map}
use Rattle.std.proofs.Common.{ap}
use Rattle.std.proofs.Math.Option.{Option, none, some, get_or}
use Rattle.base.specs.Bytes.{Bytes, ascii}
use Rattle.base.specs.Choice.{different}
use Rattle.base.specs.Map.{Entry, entry, lookup}
use Rattle.sheet.specs.Sheet.{Rule}
use Rattle.cascade.specs.Cascade.{Layers}
use Rattle.cascade.specs.Walk.{layers, property_maps}
use Rattle.cascade.specs.Meaning.{Meaning}
use Rattle.cascade.proofs.MeaningProof.{demand_2, meaning_one}
use Rattle.cascade.proofs.Examples.{cascading, way_rule, open_way}

abbrev width : ℕ → Entry ℕ
width n = entry (ascii "width") n

abbrev color : ℕ → Entry ℕ
color n = entry (ascii "color") n

-- the layers that have the meaning of a sheet, at zoom 13 for an open way without tags
abbrev Right : List (Rule ℕ) → Layers ℕ → Type 0
Right rs v = Meaning 13 (open_way []) rs v

only : (rs : List (Rule ℕ)) (v w : Layers ℕ) → property_maps 13 (open_way []) rs ≡ layers v → Right rs w → v ≡ w
only rs v w p m = meaning_one 13 (open_way []) rs v w (demand_2 13 (open_way []) rs v p) m

-- a property of a layer, and all of a layer's in order
abbrev at : Bytes → Bytes → Layers ℕ → Option ℕ
at k n v = lookup n (get_or (lookup k v) [])

abbrev values : Bytes → Layers ℕ → List ℕ
values k v = map (λ e. e.value) (get_or (lookup k v) [])

-- "Letting layers inherit from `default`": way{width:0;} way::c{color:1;}
abbrev inherit_sheet : List (Rule ℕ)
inherit_sheet = way_rule none [] (width 0 ∷ []) ∷ way_rule (some (ascii "c")) [] (color 1 ∷ []) ∷ []

pub inherit_default : Right inherit_sheet (entry (ascii "default") (width 0 ∷ []) ∷ entry (ascii "c") (width 0 ∷ color 1 ∷ []) ∷ []) → ⊥
unfolding cascading
inherit_default m =
    let e =
    only inherit_sheet (entry (ascii "default") (width 0 ∷ []) ∷ entry (ascii "c") (color 1 ∷ []) ∷ [])
    (entry (ascii "default") (width 0 ∷ []) ∷ entry (ascii "c") (width 0 ∷ color 1 ∷ []) ∷ []) refl m in
    let f = ap (at (ascii "c") (ascii "width")) e in
    different cc

-- "Putting an overwritten name last": way{width:0; color:1; width:2;}
abbrev overwrite_sheet : List (Rule ℕ)
overwrite_sheet = way_rule none [] (width 0 ∷ color 1 ∷ width 2 ∷ []) ∷ []

pub overwritten_last : Right overwrite_sheet (entry (ascii "default") (color 1 ∷ width 2 ∷ []) ∷ []) → ⊥
unfolding cascading
overwritten_last m =
    let e =
    only overwrite_sheet (entry (ascii "default") (width 2 ∷ color 1 ∷ []) ∷ [])
    (entry (ascii "default") (color 1 ∷ width 2 ∷ []) ∷ []) refl m in
    let f = ap (values (ascii "default")) e in
    different cc

-- "one that applies the first rule and then only walks on": way{width:0;} way{width:1;}
abbrev two_rules : List (Rule ℕ)
two_rules = way_rule none [] (width 0 ∷ []) ∷ way_rule none [] (width 1 ∷ []) ∷ []

pub first_rule_only : Right two_rules (entry (ascii "default") (width 0 ∷ []) ∷ []) → ⊥
unfolding cascading
first_rule_only m =
    let e = only two_rules (entry (ascii "default") (width 1 ∷ []) ∷ []) (entry (ascii "default") (width 0 ∷ []) ∷ []) refl m in
    let f = ap (at (ascii "default") (ascii "width")) e in
    different cc

-- "an engine that serves one fixed property map": whatever it is, the empty sheet or this one shows it
pub one_fixed_map : (v : Layers ℕ) → ((rs : List (Rule ℕ)) → Right rs v) → ⊥
unfolding cascading
one_fixed_map v m =
    let a = only [] [] v refl (m []) in
    let b = only two_rules (entry (ascii "default") (width 1 ∷ []) ∷ []) v refl (m two_rules) in
    different cc
