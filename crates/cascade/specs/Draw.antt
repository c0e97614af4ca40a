-- The drawing list: the styled layers of all entities in drawing order, or the refusal of the first entity that is refused.
use Rattle.std.specs.Prelude.{ℕ, suc, ◌+◌, ◌≡◌, Bool, true, false, ◌&&◌, ◌||◌, not, cond, List, [], ◌∷◌, ◌++◌, leb, ltb, length, ℤ, pos, Float}
use Rattle.std.proofs.Math.Option.{get_or}
use Rattle.std.specs.Float.Ieee.{is_nan}
use Rattle.base.specs.Bytes.{Bytes}
use Rattle.base.specs.Map.{Map}
use Rattle.base.specs.Entity.{Entity}
use Rattle.base.specs.Refusal.{refusal, of_entity}
use Rattle.base.specs.declared.refusal.Refusal.{Refusal}
use Rattle.sheet.specs.Sheet.{Rule, Value}
use Rattle.cascade.specs.Map.{keep}
use Rattle.cascade.specs.Walk.{Answer, refused, layers, property_maps}
use Rattle.cascade.specs.Style.{Style, Settings, styles}
use Rattle.cascade.specs.Order.{and_then_by, int_le, bool_le, float_le}
use Rattle.cascade.specs.Sort.{sort, Sorted, tied, Permutation}

-- one styled layer of one entity: which stream and which place in it the entity has, the layer's place among the entity's styled
-- layers, and its name
pub record Drawn : Type 0 where
  pub multipolygon : Bool
  pub place : ℕ
  pub entity : Entity
  pub styled : ℕ
  pub layer : Bytes
  pub style : Style

pub data Drawing : Type 0 where
  declined : Refusal → Drawing
  entries : List Drawn → Drawing

-- ---- the order, rising: layer (absent is 0), foreground fill (background first) unless for labels, z-index, id

abbrev pub layer_rank : Drawn → ℤ
layer_rank d = get_or d.style.layer (pos 0)

abbrev pub fill_rank : Bool → Drawn → Bool
fill_rank for_labels d = not for_labels && d.style.is_foreground_fill

abbrev pub z_rank : Drawn → Float
z_rank d = d.style.z_index

abbrev pub id_rank : Drawn → ℕ
id_rank d = d.entity.id

abbrev pub not_after : Bool → Drawn → Drawn → Bool
not_after for_labels =
    and_then_by
    (λ a b. int_le (layer_rank a) (layer_rank b))
    (and_then_by
    (λ a b. bool_le (fill_rank for_labels a) (fill_rank for_labels b))
    (and_then_by (λ a b. float_le (z_rank a) (z_rank b)) (λ a b. leb (id_rank a) (id_rank b))))

-- ---- a stream of entities, before the sort

unfoldable pub some_nan : Map Style → Bool
some_nan [] = false
some_nan (l ∷ ls) = is_nan l.value.z_index || some_nan ls

-- the styled layers of an entity, numbered from k on
unfoldable pub drawn_from : Bool → ℕ → Entity → ℕ → Map Style → List Drawn
drawn_from mp i e k [] = []
drawn_from mp i e k (l ∷ ls) =
    record { multipolygon = mp; place = i; entity = e; styled = k; layer = l.key; style = l.value } ∷ drawn_from mp i e (suc k) ls

-- 9, a z-index that is NaN, comes after the entity's own refusals
unfoldable pub entity_drawing : Bool → Settings → ℕ → Entity → Answer Value → Drawing
entity_drawing mp s i e (refused n) = declined (of_entity n mp i)
entity_drawing mp s i e (layers v) =
    cond (some_nan (styles s e v))
    (declined (of_entity 9 mp i))
    (entries (drawn_from mp i e 0 (styles s e v)))

-- the first refusal decides
unfoldable pub join : (List Drawn → List Drawn → List Drawn) → Drawing → Drawing → Drawing
join f (declined r) d = declined r
join f (entries xs) (declined r) = declined r
join f (entries xs) (entries ys) = entries (f xs ys)

-- the entities of a stream from place i on
unfoldable pub stream : Bool → Settings → ℕ → List (Rule Value) → ℕ → List Entity → Drawing
stream mp s z rs i [] = entries []
stream mp s z rs i (e ∷ es) = join ◌++◌ (entity_drawing mp s i e (property_maps z e rs)) (stream mp s z rs (suc i) es)

-- The same with room for so many entries, of which n are taken: 25 where those of an entity do not fit, before a later entity is
-- looked at.
unfoldable pub fit : ℕ → ℕ → Drawing → Drawing
fit room n (declined r) = declined r
fit room n (entries xs) = cond (ltb room (n + length xs)) (declined (refusal 25 0 0 0 0)) (entries xs)

unfoldable pub size : Drawing → ℕ
size (declined r) = 0
size (entries xs) = length xs

unfoldable pub stream_within : ℕ → Bool → Settings → ℕ → List (Rule Value) → ℕ → ℕ → List Entity → Drawing
stream_within room mp s z rs n i [] = entries []
stream_within room mp s z rs n i (e ∷ es) =
    let d = fit room n (entity_drawing mp s i e (property_maps z e rs)) in
    join ◌++◌ d (stream_within room mp s z rs (n + size d) (suc i) es)

-- ---- drawing lists

-- nodes, or any one stream
abbrev pub style_entities : Settings → ℕ → List (Rule Value) → List Entity → Drawing
style_entities s z rs es = join (λ xs ys. sort (not_after s.for_labels) xs) (stream false s z rs 0 es) (entries [])

-- ways and multipolygons: a refused way before a refused multipolygon, but of entries that tie the multipolygons first
abbrev pub style_areas : Settings → ℕ → List (Rule Value) → List Entity → List Entity → Drawing
style_areas s z rs ways multipolygons =
    join
    (λ ws ms. sort (not_after s.for_labels) (ms ++ ws))
    (stream false s z rs 0 ways)
    (stream true s z rs 0 multipolygons)

-- what the order of a drawing list promises of it, beside the entries as given
pub record Ordered (for_labels : Bool) (given ds : List Drawn) : Type 0 where
  pub permutes : Permutation ds given
  pub sorted : Sorted (not_after for_labels) ds
  -- "ties keep input order"
  pub stable : (d : Drawn) → keep (tied (not_after for_labels) d) ds ≡ keep (tied (not_after for_labels) d) given

-- "For a draw list the first refused entity decides": here is refused with r, and the entities before it are not refused
pub record Declines (mp : Bool) (s : Settings) (z : ℕ) (rs : List (Rule Value)) (i : ℕ) (es : List Entity) (r : Refusal) : Type 0 where
  pub before : List Entity
  pub here : Entity
  pub after : List Entity
  pub stands : es ≡ before ++ (here ∷ after)
  pub sofar : List Drawn
  pub quiet : stream mp s z rs i before ≡ entries sofar
  pub refuses : entity_drawing mp s (i + length before) here (property_maps z here rs) ≡ declined r
