-- Demand 3 on rules: nobody who edits only outside a layer's reach can change it. The proof is in IsolationProof.
use Rattle.std.specs.Prelude.{ℕ, ◌≡◌, Bool, true, false, ◌||◌}
use mathlib.Core.List.{List, [], ◌∷◌, map, flat_map, Memᴰ}
use Rattle.std.proofs.Math.Option.{none, some}
use Rattle.base.specs.Bytes.{Bytes, same}
use Rattle.base.specs.Map.{Map, lookup}
use Rattle.base.specs.Entity.{Entity}
use Rattle.sheet.specs.Sheet.{Selector, Rule, Value}
use Rattle.cascade.specs.Map.{keep}
use Rattle.cascade.specs.Clause.{star, default_name, layer_name}
use Rattle.cascade.specs.Match.{tag, test_key}
use Rattle.cascade.specs.Cascade.{Layers}
use Rattle.cascade.specs.Walk.{layers, property_maps}
use Rattle.cascade.specs.Style.{Settings, layer_tag, width_of, width_or_zero, styles}

-- "strike every selector of layers other than this one and "*""
abbrev pub of_layer : Bytes → Selector → Bool
of_layer k s = same k (layer_name s) || same star (layer_name s)

abbrev pub strike_selectors : {A : Type 0} → Bytes → Rule A → Rule A
strike_selectors k r = record { selectors = keep (of_layer k) r.selectors; properties = r.properties }

-- "and rules left without one"
abbrev pub has_one : List Selector → Bool
has_one [] = false
has_one (s ∷ ss) = true

abbrev pub strike : {A : Type 0} → Bytes → List (Rule A) → List (Rule A)
strike k rs = keep (λ r. has_one r.selectors) (map (strike_selectors k) rs)

-- "Rules test a tag if a test in them names its key, reached or not"
abbrev pub tested_keys : {A : Type 0} → List (Rule A) → List Bytes
tested_keys = flat_map (λ r. flat_map (λ s. map test_key s.tests) r.selectors)

-- "the entities agree in kind and in each tag those rules test": lookup finds it in neither, or the same bytes in both
pub record Agree {A : Type 0} (d e : Entity) (rs : List (Rule A)) : Type 0 where
  pub kinds : d.kind ≡ e.kind
  pub tags : (k : Bytes) → Memᴰ k (tested_keys rs) → tag d k ≡ tag e k

-- "Take any layer name, any one zoom, any two accepted sheets and any entity for each." Here are the layer's name k, the zoom z,
-- the rules rs and qs of the sheets, the entities d and e, and v and w, the layers that the two calls answer.
pub record SameReach {A : Type 0} (k : Bytes) (z : ℕ) (rs qs : List (Rule A)) (d e : Entity) (v w : Layers A) : Type 0 where
  -- "If the rules left are equal,"
  pub rules : strike k rs ≡ strike k qs
  -- "and the entities agree in kind and in each tag those rules test, then, whatever else the sheets say and whatever ids and
  -- other tags the entities carry,"
  pub entities : Agree d e (strike k rs)
  -- "where neither call is refused,"
  pub first_call : property_maps z d rs ≡ layers v
  pub second_call_maps : property_maps z e qs ≡ layers w

abbrev pub Isolated : Type 0 → Type 0
Isolated A =
    (k : Bytes) (z : ℕ) (rs qs : List (Rule A)) (d e : Entity) (v w : Layers A)
    → SameReach k z rs qs d e v w
    -- "demand 2's layer is in both or neither, with equal properties in equal order."
    → lookup k v ≡ lookup k w

-- "the style is equal too if"
pub record SameStyle (k : Bytes) (d e : Entity) (v w : Layers Value) : Type 0 where
  -- "For a layer other than "*","
  pub not_star : same star k ≡ false
  -- "the "layer" tags are read alike": the same i64 or absent in both
  pub layer_tags : layer_tag d ≡ layer_tag e
  -- "and, unless this layer has a one-number width, the default layer's widths are equal (none counts as 0)."
  pub widths :
      (m : Map Value)
      → lookup k v ≡ some m
      → width_of m ≡ none
      → width_or_zero (lookup default_name v) ≡ width_or_zero (lookup default_name w)

abbrev pub StyleIsolated : Type 0
StyleIsolated =
    (k : Bytes) (z : ℕ) (rs qs : List (Rule Value)) (d e : Entity) (v w : Layers Value)
    → SameReach k z rs qs d e v w
    → SameStyle k d e v w
    -- "under any equal settings"
    → (s : Settings)
    → lookup k (styles s d v) ≡ lookup k (styles s e w)
