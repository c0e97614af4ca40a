-- The cascade as styler.rs runs it, statement by statement: style_area.
use Rattle.std.specs.Prelude.{ℕ, ◌≡◌, Bool, true, false, ◌&&◌, cond, Float}
use mathlib.Core.List.{List, [], ◌∷◌, ◌++◌, map, foldl}
use Rattle.std.proofs.Math.Option.{Option, none, some, get_or}
use Rattle.base.specs.Bytes.{Bytes, same}
use Rattle.base.specs.Map.{Entry, Map, entry, key_of, lookup, member}
use Rattle.base.specs.Entity.{Entity}
use Rattle.sheet.specs.Sheet.{NumericTest, Test, unary, text, numeric, Selector, Rule}
use Rattle.cascade.specs.Map.{overlay, keep, and_map}
use Rattle.cascade.specs.Clause.{star, layer_name}
use Rattle.cascade.specs.Number.{reads, malformed, tag_number}
use Rattle.cascade.specs.Match.{tag, test_key, unary_holds, text_holds, compares, applies}
use Rattle.cascade.specs.Cascade.{Hit, Layers}

module _ {A : Type 0} where
  -- `if !result.contains_key(layer_id) { result.insert(layer_id, result.get("*").cloned().unwrap_or_default()) }`
  unfoldable pub add_layer : Bytes → Layers A → Layers A
  add_layer k m = cond (member k (map key_of m)) m (m ++ (entry k (get_or (lookup star m) []) ∷ []))

  -- `for prop in &rule.properties { layer.insert(prop.name.clone(), &prop.value); }`
  abbrev pub update_entry : List (Entry A) → Entry (Map A) → Entry (Map A)
  update_entry ps e = entry e.key (overlay e.value ps)

  -- `update_layer(result.get_mut(layer_id).unwrap())`: the first entry of that name
  unfoldable pub update_layer : Bytes → List (Entry A) → Layers A → Layers A
  update_layer k ps [] = []
  update_layer k ps (e ∷ m) = cond (same k e.key) (update_entry ps e ∷ m) (e ∷ update_layer k ps m)

  -- `for (_, v) in result.iter_mut().filter(|&(k, _)| k != &"*") { update_layer(v); }`
  unfoldable pub update_other : List (Entry A) → Entry (Map A) → Entry (Map A)
  update_other ps e = cond (same star e.key) e (update_entry ps e)

  -- `if layer_id == "*"` then all others take the properties too
  unfoldable pub rust_step : Layers A → Hit A → Layers A
  rust_step m h =
      let first = update_layer h.layer h.properties (add_layer h.layer m) in
      cond (same star h.layer) (map (update_other h.properties) first) first

-- What is known of Rust's `str::parse::<f64>`: it reads the exact range and the words as they are, and takes no malformed text.
-- What it makes of other digits is left open: there the engine refuses with 8.
pub record Parses (parse : Bytes → Option Float) : Type 0 where
  pub exact : (v : Bytes) (x : Float) → tag_number v ≡ reads x → parse v ≡ some x
  pub refuses : (v : Bytes) → tag_number v ≡ malformed → parse v ≡ none

unfoldable pub parsed_holds : NumericTest → Float → Option Float → Bool
parsed_holds c y none = false
parsed_holds c y (some x) = compares c x y

module _ (parse : Bytes → Option Float) where
  -- matches_by_tags
  unfoldable pub matches_by_tags : Test → Option Bytes → Bool
  matches_by_tags (unary u k) o = unary_holds u o
  matches_by_tags (text q k v) o = text_holds q v o
  matches_by_tags (numeric c k y) o = parsed_holds c y (and_map parse o)

  unfoldable pub all_match : Entity → List Test → Bool
  all_match e [] = true
  all_match e (t ∷ ts) = matches_by_tags t (tag e (test_key t)) && all_match e ts

  -- area_matches
  unfoldable pub area_matches : ℕ → Entity → Selector → Bool
  area_matches z e s = applies z e.kind s && all_match e s.tests

  -- `for rule in &self.rules { for sel in rule.selectors.iter().filter(|x| area_matches(area, x, zoom)) { .. } }`
  module _ {A : Type 0} (z : ℕ) (e : Entity) where
    abbrev pub style_rule : Layers A → Rule A → Layers A
    style_rule m r =
        foldl
        (λ w s. rust_step w (record { layer = layer_name s; properties = r.properties }))
        m
        (keep (area_matches z e) r.selectors)

    abbrev pub style_area : List (Rule A) → Layers A
    style_area = foldl style_rule []
