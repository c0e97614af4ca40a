-- Demand 3 is not vacuous: two different sheets and entities that meet it, and for each hypothesis left out a case that shows it is needed.
use Rattle.std.specs.Prelude.{ℕ, ◌≡◌, refl, false, length, Float}
use Rattle.std.proofs.Common.{ap}
use mathlib.Core.List.Memᴰ
use mathlib.Core.List.{List, [], ◌∷◌, map, flat_map, Memᴰ}
use Rattle.std.proofs.Math.Option.{Option, none, some, get_or}
use Rattle.std.specs.Float.Ieee.{add, mul, neg, of_int}
use Rattle.base.specs.Bytes.{Bytes, ascii, same}
use Rattle.base.specs.Choice.{different}
use Rattle.base.specs.Map.{Entry, Map, entry, lookup}
use Rattle.base.specs.Entity.{Entity}
use Rattle.sheet.specs.Sheet.{area, exists, Test, unary, Rule, Value, identifier, numbers}
use Rattle.cascade.specs.Map.{keep, and_map, or_else}
use Rattle.cascade.specs.Clause.{star, default_name, layer_name}
use Rattle.cascade.specs.Number.{negative, unsigned, after_digits, spelt, whole_number, ranged, as_integer, whole}
use Rattle.cascade.specs.Match.{tag, present, unary_holds, test_verdict}
use Rattle.cascade.specs.Cascade.{Layers}
use Rattle.cascade.specs.Walk.{layers, property_maps}
use Rattle.cascade.specs.Style.{Settings, josm, casing_multiplier, as_number, as_delta, layer_tag, width_of, width_or_zero, base_width, casing_only, full_casing, style_from, styles}
use Rattle.cascade.specs.Isolation.{has_one, strike, tested_keys, Agree, SameReach, SameStyle}
use Rattle.cascade.proofs.IsolationProof.{isolated, style_isolated}
use Rattle.cascade.proofs.Examples.{cascading, way_rule}

-- what a cascade and a style run through
tested : Unit {0}
unfolding cascading keep present unary_holds test_verdict
tested = tt

styled : Unit {0}
unfolding same keep lookup and_map or_else as_number as_delta width_or_zero base_width casing_multiplier casing_only full_casing style_from
    styles add mul of_int
styled = tt

abbrev casing : Bytes
casing = ascii "casing"

abbrev number : Bytes → ℕ → Entry Value
number n x = entry n (numbers (whole x ∷ []))

abbrev paint : Bytes → Entry Value
paint c = entry (ascii "color") (identifier c)

-- way::casing[highway]{casing-width:1;}
abbrev casing_rule : Rule Value
casing_rule = way_rule (some casing) (unary exists (ascii "highway") ∷ []) (number (ascii "casing-width") 1 ∷ [])

-- way{width:4; color:red;} and the casing
abbrev first : List (Rule Value)
first = way_rule none [] (number (ascii "width") 4 ∷ paint (ascii "red") ∷ []) ∷ casing_rule ∷ []

-- way::other{width:9;}, the casing, and way{color:blue;} way{width:4;}
abbrev second : List (Rule Value)
second =
    way_rule (some (ascii "other")) [] (number (ascii "width") 9 ∷ []) ∷ casing_rule
    ∷ way_rule none [] (paint (ascii "blue") ∷ []) ∷ way_rule none [] (number (ascii "width") 4 ∷ []) ∷ []

abbrev road : ℕ → List (Entry Bytes) → Entity
road i ts = record { kind = 1; id = i; tags = ts }

abbrev highway : Bytes → Entry Bytes
highway v = entry (ascii "highway") v

abbrev one : Entity
one = road 1 (highway (ascii "path") ∷ entry (ascii "layer") (ascii "+1") ∷ entry (ascii "name") (ascii "A") ∷ [])

abbrev two : Entity
two = road 2 (highway (ascii "path") ∷ entry (ascii "layer") (ascii "01") ∷ [])

abbrev first_layers : Layers Value
first_layers =
    entry default_name (number (ascii "width") 4 ∷ paint (ascii "red") ∷ [])
    ∷ entry casing (number (ascii "casing-width") 1 ∷ []) ∷ []

abbrev second_layers : Layers Value
second_layers =
    entry (ascii "other") (number (ascii "width") 9 ∷ []) ∷ entry casing (number (ascii "casing-width") 1 ∷ [])
    ∷ entry default_name (paint (ascii "blue") ∷ number (ascii "width") 4 ∷ []) ∷ []

one_key : (P : Bytes → Type 0) (x : Bytes) → P x → (k : Bytes) → Memᴰ k (x ∷ []) → P k
one_key P x p k (Memᴰ.head e) = rw e p
one_key P x p k (Memᴰ.tail m) = absurd (Memᴰ.not-nil m)

-- ---- met

-- the rules left are equal, and the entities agree on them
pub left_equal : strike casing first ≡ strike casing second
unfolding keep same
left_equal = refl

pub agreeing : Agree one two (strike casing first)
unfolding keep same flat_map lookup
agreeing = record { kinds = refl; tags = one_key (λ k. tag one k ≡ tag two k) (ascii "highway") refl }

-- neither call is refused
pub first_answers : property_maps 13 one first ≡ layers first_layers
unfolding tested
first_answers = refl

pub second_answers : property_maps 13 two second ≡ layers second_layers
unfolding tested
second_answers = refl

-- the tags `layer` are read alike, and the default layer's widths are equal
pub layer_alike : layer_tag one ≡ layer_tag two
unfolding same lookup and_map negative unsigned after_digits spelt whole_number ranged as_integer
layer_alike = refl

pub widths_equal : width_or_zero (lookup default_name first_layers) ≡ width_or_zero (lookup default_name second_layers)
unfolding same lookup as_number width_or_zero
widths_equal = refl

-- yet the sheets and the layers are different
pub sheets_differ : first ≡ second → ⊥
sheets_differ p = let q = ap length p in different cc

pub layers_differ : first_layers ≡ second_layers → ⊥
layers_differ p = let q = ap length p in different cc

-- so demand 3 applies: the layer is the same in both, and there
pub reach_met : SameReach casing 13 first second one two first_layers second_layers
reach_met = record { rules = left_equal; entities = agreeing; first_call = first_answers; second_call_maps = second_answers }

pub style_reach_met : SameStyle casing one two first_layers second_layers
unfolding same
style_reach_met = record { not_star = refl; layer_tags = layer_alike; widths = λ m p q. widths_equal }

pub met :
    (lookup casing first_layers ≡ lookup casing second_layers)
    × (lookup casing first_layers ≡ some (number (ascii "casing-width") 1 ∷ []))
unfolding same lookup
met = (isolated casing 13 first second one two first_layers second_layers reach_met, refl)

pub style_met : (s : Settings) → lookup casing (styles s one first_layers) ≡ lookup casing (styles s two second_layers)
style_met = style_isolated casing 13 first second one two first_layers second_layers reach_met style_reach_met

-- ---- each hypothesis is needed: without it the claim is false

abbrev numbered : Option Bytes → List Test → ℕ → Rule ℕ
numbered l ts n = way_rule l ts (entry (ascii "width") n ∷ [])

abbrev layer_with : Bytes → ℕ → Entry (Map ℕ)
layer_with k n = entry k (entry (ascii "width") n ∷ [])

abbrev width_in : Bytes → Layers ℕ → Option ℕ
width_in k v = lookup (ascii "width") (get_or (lookup k v) [])

agree_self : {A : Type 0} (e : Entity) (rs : List (Rule A)) → Agree e e rs
agree_self e rs = record { kinds = refl; tags = λ k m. refl }

-- the selectors of the layer itself, those of "*" struck too
abbrev own_rules : Bytes → List (Rule ℕ) → List (Rule ℕ)
own_rules k rs =
    keep
    (λ r. has_one r.selectors)
    (map (λ r. record { selectors = keep (λ s. same k (layer_name s)) r.selectors; properties = r.properties }) rs)

abbrev area_rule : Rule ℕ
area_rule =
    record
    { selectors = record { object_type = area; min_zoom = none; max_zoom = none; tests = []; layer_id = some casing } ∷ []; properties = entry (ascii "width") 0 ∷ [] }

-- the rules left differ: way::casing{width:0;} and way::casing{width:1;}
pub needs_equal_rules :
    ((k : Bytes) (z : ℕ) (rs qs : List (Rule ℕ)) (d e : Entity) (v w : Layers ℕ)
    → Agree d e (strike k rs)
    → property_maps z d rs ≡ layers v
    → property_maps z e qs ≡ layers w
    → lookup k v ≡ lookup k w)
    → ⊥
unfolding tested
needs_equal_rules claim =
    let rs = numbered (some casing) [] 0 ∷ [] in
    let p =
    claim casing 13 rs (numbered (some casing) [] 1 ∷ []) one one (layer_with casing 0 ∷ [])
    (layer_with casing 1 ∷ []) (agree_self one (strike casing rs)) refl refl in
    let q = ap (λ o. lookup (ascii "width") (get_or o [])) p in
    different cc

-- nor is it enough that the rules of the layer itself are equal: way::*{width:0;} and way::*{width:1;}, then way::casing{}
pub needs_star_rules :
    ((k : Bytes) (z : ℕ) (rs qs : List (Rule ℕ)) (d e : Entity) (v w : Layers ℕ)
    → own_rules k rs ≡ own_rules k qs
    → Agree d e (strike k rs)
    → property_maps z d rs ≡ layers v
    → property_maps z e qs ≡ layers w
    → lookup k v ≡ lookup k w)
    → ⊥
unfolding tested
needs_star_rules claim =
    let rs = numbered (some star) [] 0 ∷ way_rule (some casing) [] [] ∷ [] in
    let p =
    claim casing 13 rs
    (numbered (some star) [] 1 ∷ way_rule (some casing) [] [] ∷ []) one one
    (layer_with star 0 ∷ layer_with casing 0 ∷ []) (layer_with star 1 ∷ layer_with casing 1 ∷ []) refl
    (agree_self one (strike casing rs)) refl refl in
    let q = ap (λ o. lookup (ascii "width") (get_or o [])) p in
    different cc

-- a tested tag differs: way::casing[highway]{width:0;}
pub needs_equal_tags :
    ((k : Bytes) (z : ℕ) (rs qs : List (Rule ℕ)) (d e : Entity) (v w : Layers ℕ)
    → strike k rs ≡ strike k qs
    → d.kind ≡ e.kind
    → property_maps z d rs ≡ layers v
    → property_maps z e qs ≡ layers w
    → lookup k v ≡ lookup k w)
    → ⊥
unfolding tested
needs_equal_tags claim =
    let rs = numbered (some casing) (unary exists (ascii "highway") ∷ []) 0 ∷ [] in
    let p = claim casing 13 rs rs one (road 1 []) (layer_with casing 0 ∷ []) [] refl refl refl refl in
    different cc

-- the kinds differ: area::casing{width:0;}
pub needs_equal_kinds :
    ((k : Bytes) (z : ℕ) (rs qs : List (Rule ℕ)) (d e : Entity) (v w : Layers ℕ)
    → strike k rs ≡ strike k qs
    → ((x : Bytes) → Memᴰ x (tested_keys (strike k rs)) → tag d x ≡ tag e x)
    → property_maps z d rs ≡ layers v
    → property_maps z e qs ≡ layers w
    → lookup k v ≡ lookup k w)
    → ⊥
unfolding tested
needs_equal_kinds claim =
    let rs = area_rule ∷ [] in
    let p =
    claim casing 13 rs rs (record { kind = 1; id = 1; tags = [] }) (record { kind = 2; id = 1; tags = [] }) []
    (layer_with casing 0 ∷ []) refl
    (λ x m. refl)
    refl refl in
    different cc

-- ---- and of the style

abbrev settings : Settings
settings = record { style_type = josm; font_multiplier = none; for_labels = false }

-- the tags `layer` are read differently: 1 and 2
pub needs_layer_alike :
    ((k : Bytes) (z : ℕ) (rs qs : List (Rule Value)) (d e : Entity) (v w : Layers Value)
    → strike k rs ≡ strike k qs
    → Agree d e (strike k rs)
    → property_maps z d rs ≡ layers v
    → property_maps z e qs ≡ layers w
    → same star k ≡ false
    → (s : Settings)
    → ((m : Map Value) → lookup k v ≡ some m → width_of m ≡ none → width_or_zero (lookup default_name v) ≡ width_or_zero (lookup default_name w))
    → lookup k (styles s d v) ≡ lookup k (styles s e w))
    → ⊥
unfolding tested styled negative unsigned after_digits spelt whole_number ranged as_integer flat_map
needs_layer_alike claim =
    let rs = way_rule (some casing) [] (number (ascii "width") 1 ∷ []) ∷ [] in
    let v = entry casing (number (ascii "width") 1 ∷ []) ∷ [] in
    let p =
    claim casing 13 rs rs (road 1 (entry (ascii "layer") (ascii "1") ∷ []))
    (road 1 (entry (ascii "layer") (ascii "2") ∷ [])) v v refl
    (record { kinds = refl; tags = λ k m. absurd (Memᴰ.not-nil m) }) refl refl refl settings
    (λ m q r. refl)
    in
    let q = ap (and_map (λ s. s.layer)) p in
    different cc

-- the default layer's widths differ, and the casing has none: way{width:4;} or way{width:5;}, then the casing
abbrev wide : ℕ → List (Rule Value)
wide n = way_rule none [] (number (ascii "width") n ∷ []) ∷ casing_rule ∷ []

abbrev wide_layers : ℕ → Layers Value
wide_layers n = entry default_name (number (ascii "width") n ∷ []) ∷ entry casing (number (ascii "casing-width") 1 ∷ []) ∷ []

wide_left : (m n : ℕ) → strike casing (wide m) ≡ strike casing (wide n)
unfolding keep same
wide_left m n = refl

wide_answers : (n : ℕ) → property_maps 13 one (wide n) ≡ layers (wide_layers n)
unfolding tested
wide_answers n = refl

casing_of : ℕ → Option Float
casing_of n = and_map (λ s. s.casing_width) (lookup casing (styles settings one (wide_layers n)))

casings_differ : casing_of 4 ≡ casing_of 5 → ⊥
unfolding casing_of styled
casings_differ p = different cc

pub needs_default_width :
    ((k : Bytes) (z : ℕ) (rs qs : List (Rule Value)) (d e : Entity) (v w : Layers Value)
    → strike k rs ≡ strike k qs
    → Agree d e (strike k rs)
    → property_maps z d rs ≡ layers v
    → property_maps z e qs ≡ layers w
    → same star k ≡ false
    → (s : Settings)
    → layer_tag d ≡ layer_tag e
    → lookup k (styles s d v) ≡ lookup k (styles s e w))
    → ⊥
unfolding same casing_of
needs_default_width claim =
    casings_differ
    (ap (and_map (λ s. s.casing_width))
    (claim casing 13 (wide 4) (wide 5) one one (wide_layers 4) (wide_layers 5) (wide_left 4 5)
    (agree_self one (strike casing (wide 4))) (wide_answers 4) (wide_answers 5) refl settings refl))

-- "none counts as 0" is +0: a default width of -0 is another, and a casing of -0 shows it
abbrev minus_zero : Bytes → Entry Value
minus_zero n = entry n (numbers (neg (whole 0) ∷ []))

abbrev sign_of : Layers Value → Option Float
sign_of v = and_map (λ s. s.casing_width) (lookup casing (styles settings one v))

pub minus_zero_differs :
    sign_of (entry default_name (minus_zero (ascii "width") ∷ []) ∷ entry casing (minus_zero (ascii "casing-width") ∷ []) ∷ [])
    ≡ sign_of (entry casing (minus_zero (ascii "casing-width") ∷ []) ∷ [])
    → ⊥
unfolding styled neg
minus_zero_differs p = different cc
