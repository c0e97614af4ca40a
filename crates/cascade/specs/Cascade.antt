-- The cascade over the matched selectors: step by step as the engine runs it, and by its meaning, layer by layer.
use Rattle.std.specs.Prelude.{Bool, ◌||◌, cond}
use mathlib.Core.List.{List, [], ◌∷◌, ◌++◌, map, flat_map}
use Rattle.std.proofs.Math.Option.{get_or}
use Rattle.base.specs.Bytes.{Bytes, same}
use Rattle.base.specs.Map.{Entry, Map, entry, key_of, lookup, member}
use Rattle.cascade.specs.Map.{overlay, firsts, keep}
use Rattle.cascade.specs.Clause.{star}

-- a matched selector: the layer that it names, and its rule's properties
pub record Hit (A : Type 0) : Type 0 where
  pub layer : Bytes
  pub properties : List (Entry A)

abbrev pub Layers : Type 0 → Type 0
Layers A = Map (Map A)

-- selectors of layer l assign to layer k: it is that layer, or "*"
abbrev pub serves : Bytes → Bytes → Bool
serves k l = same k l || same star l

module _ {A : Type 0} where
  abbrev pub layer_of : Hit A → Bytes
  layer_of h = h.layer

  abbrev pub properties_of : Hit A → List (Entry A)
  properties_of h = h.properties

  unfoldable pub reaches : Bytes → Hit A → Bool
  reaches k h = serves k h.layer

  -- Step by step. A new layer is put last, as a copy of "*".
  unfoldable pub ensure : Layers A → Bytes → Layers A
  ensure m k = cond (member k (map key_of m)) m (m ++ (entry k (get_or (lookup star m) []) ∷ []))

  unfoldable pub receive : Bytes → Map A → Hit A → Map A
  receive k m h = cond (reaches k h) (overlay m h.properties) m

  abbrev pub touch : Hit A → Entry (Map A) → Entry (Map A)
  touch h e = entry e.key (receive e.key e.value h)

  -- then each layer that the selector reaches takes its rule's properties
  unfoldable pub step : Layers A → Hit A → Layers A
  step m h = map (touch h) (ensure m h.layer)

  -- By its meaning. The layers are those that a matched selector names, in order of first match,
  abbrev pub named : List (Hit A) → List Bytes
  named hs = firsts [] (map layer_of hs)

  -- and a layer's properties are the assignments that reach it, in rule, selector and property order, one laid over the other.
  abbrev pub assignments : List (Hit A) → List (Entry A)
  assignments = flat_map properties_of

  abbrev pub assigned : Bytes → List (Hit A) → List (Entry A)
  assigned k hs = assignments (keep (reaches k) hs)

  abbrev pub declared : List (Hit A) → Layers A
  declared hs = map (λ k. entry k (overlay [] (assigned k hs))) (named hs)
