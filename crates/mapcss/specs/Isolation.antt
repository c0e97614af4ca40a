-- Demand 3 on the public calls: nobody who edits only outside a layer's reach can change it.
use Rattle.std.specs.Prelude.{ℕ, ◌≡◌, false, List, [], Ok, Result, Err}
use Rattle.std.proofs.Math.Option.{none, some}
use Rattle.base.specs.Bytes.{Bytes, same}
use Rattle.base.specs.Map.{Map, lookup}
use Rattle.base.specs.Entity.{Entity}
use Rattle.entity.specs.Layout.{single_of, value_of}
use Rattle.entity.specs.declared.EntityRange.{EntityRange}
use Rattle.sheet.specs.Digits.{digits_for}
use Rattle.sheet.specs.Sheet.{Rule, Value}
use Rattle.cascade.specs.Cascade.{Layers}
use Rattle.cascade.specs.Clause.{star, default_name}
use Rattle.cascade.specs.Isolation.{strike, Agree}
use Rattle.cascade.specs.Style.{layer_tag, width_of, width_or_zero}
use Rattle.grammar.specs.Reading.{Reading}
use Rattle.grammar.specs.Rules.{rules_of_reading}
use Rattle.keep.specs.Encode.{Lengths}
use Rattle.parser.specs.Load.{Held, load_of}
use Rattle.parser.specs.declared.Counts.{Counts}
use Rattle.style.specs.declared.Settings.{Settings}
use Rattle.styles.specs.declared.EntityStyles.{EntityStyles}
use Rattle.shown.specs.Style.{settings_shown}
use Rattle.mapcss.specs.Sheets.{ReadsAs}
use Rattle.mapcss.specs.Maps.{maps_call, maps_answered, layers_shown}
use Rattle.mapcss.specs.Styles.{styles_call, styles_answered, styles_shown}
use Rattle.base.specs.declared.refusal.Refusal.{Refusal}

-- A sheet with an entity: "each gets its own sheet's tables, counts and bundle as loaded, its own entity, and the one zoom".
pub record Handed : Type 0 where
  pub bundle : Bytes
  -- the tables were lent with any lengths
  pub lengths : Lengths
  pub counts : Counts
  pub tables : Held
  -- "A sheet is accepted if its load succeeds;"
  pub accepted : load_of bundle lengths ≡ (Ok counts, tables)
  -- "its rules are those the grammar reads."
  pub reading : Reading
  pub reads : ReadsAs bundle reading
  -- an entity, as its bytes are read
  pub entity : Bytes
  pub range : EntityRange
  pub is_entity : single_of entity ≡ Ok range

abbrev pub rules_of : Handed → List (Rule Value)
rules_of x = rules_of_reading digits_for x.reading

abbrev pub entity_of : Handed → Entity
entity_of x = value_of x.entity x.range

-- the call for property maps, and its layers
abbrev pub maps : ℕ → Handed → Result ℕ Refusal × List ℕ
maps zoom x = maps_call x.bundle x.counts x.tables zoom x.entity

abbrev pub layers_in : Handed → Result ℕ Refusal × List ℕ → Layers Value
layers_in x (Err e, t) = []
layers_in x (Ok n, t) = layers_shown x.bundle x.counts x.tables t n

abbrev pub layers_of : ℕ → Handed → Layers Value
layers_of zoom x = layers_in x (maps zoom x)

-- the call for styles
abbrev pub styles : ℕ → Settings → Handed → Result EntityStyles Refusal
styles zoom s x = styles_call x.bundle x.counts x.tables zoom s x.entity

-- "Take any layer name, any one zoom, any two accepted sheets and any entity for each."
pub record SameReach (layer : Bytes) (x y : Handed) : Type 0 where
  -- "In both sheets strike every selector of layers other than this one and "*", and rules left without one. If the rules left are
  -- equal,"
  pub rules : strike layer (rules_of x) ≡ strike layer (rules_of y)
  -- "and the entities agree in kind and in each tag those rules test, then, whatever else the sheets say and whatever ids and other
  -- tags the entities carry,"
  pub entities : Agree (entity_of x) (entity_of y) (strike layer (rules_of x))

abbrev pub MapsIsolated : Type 0
MapsIsolated =
    (layer : Bytes) (zoom : ℕ) (x y : Handed)
    → SameReach layer x y
    -- "where neither call is refused,"
    → (n m : ℕ) (t u : List ℕ)
    → maps zoom x ≡ (Ok n, t)
    → maps zoom y ≡ (Ok m, u)
    -- "demand 2's layer is in both or neither, with equal properties in equal order."
    → lookup layer (layers_shown x.bundle x.counts x.tables t n)
    ≡ lookup layer (layers_shown y.bundle y.counts y.tables u m)

-- "the style is equal too if"
pub record SameStyle (layer : Bytes) (zoom : ℕ) (x y : Handed) : Type 0 where
  -- "For a layer other than "*","
  pub not_star : same star layer ≡ false
  -- "the "layer" tags are read alike"
  pub layer_tags : layer_tag (entity_of x) ≡ layer_tag (entity_of y)
  -- "and, unless this layer has a one-number width, the default layer's widths are equal (none counts as 0)."
  pub widths :
      (m : Map Value)
      → lookup layer (layers_of zoom x) ≡ some m
      → width_of m ≡ none
      → width_or_zero (lookup default_name (layers_of zoom x)) ≡ width_or_zero (lookup default_name (layers_of zoom y))

abbrev pub StylesIsolated : Type 0
StylesIsolated =
    (layer : Bytes) (zoom : ℕ) (x y : Handed)
    → SameReach layer x y
    → SameStyle layer zoom x y
    -- "under any equal settings,"
    → (s q : Settings)
    → settings_shown s ≡ settings_shown q
    -- "where neither call is refused,"
    → (a b : EntityStyles)
    → styles zoom s x ≡ Ok a
    → styles zoom q y ≡ Ok b
    → lookup layer (styles_shown x.bundle x.counts x.tables a) ≡ lookup layer (styles_shown y.bundle y.counts y.tables b)

-- Worth having beside it. The answers do not depend on the lengths of the lent tables: the same bundle and entity, loaded into tables of
-- other lengths, get the same layers and styles, or the same refusal.
abbrev pub LengthsAlike : Type 0
LengthsAlike =
    (zoom : ℕ) (x y : Handed)
    → x.bundle ≡ y.bundle
    → x.entity ≡ y.entity
    → (maps_answered x.bundle x.counts x.tables (maps zoom x) ≡ maps_answered y.bundle y.counts y.tables (maps zoom y))
    × ((s r : Settings)
    → settings_shown s ≡ settings_shown r
    → styles_answered x.bundle x.counts x.tables (styles zoom s x)
    ≡ styles_answered y.bundle y.counts y.tables (styles zoom r y))

-- Ids and tags that no rule tests change nothing: entities of one kind that agree in each tag that the sheet's rules test get the same
-- layers, or the same refusal, and, where their tags `layer` are read alike, the same styles.
abbrev pub IdsAlike : Type 0
IdsAlike =
    (zoom : ℕ) (x y : Handed)
    → x.bundle ≡ y.bundle
    → Agree (entity_of x) (entity_of y) (rules_of x)
    → (maps_answered x.bundle x.counts x.tables (maps zoom x) ≡ maps_answered y.bundle y.counts y.tables (maps zoom y))
    × (layer_tag (entity_of x) ≡ layer_tag (entity_of y)
    → (s r : Settings)
    → settings_shown s ≡ settings_shown r
    → styles_answered x.bundle x.counts x.tables (styles zoom s x)
    ≡ styles_answered y.bundle y.counts y.tables (styles zoom r y))
