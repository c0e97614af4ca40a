-- Demand 3 on the calls, from the calls' own promises and demand 3 on rules; and the styles beside a loaded sheet.
use Prim.Native.Nat.{ℕ}
use mathlib.Core.Path.{◌≡◌, refl, sym, ap, ap₂, ◌∙◌, subst}
use mathlib.Core.List.Memᴰ
use mathlib.Core.List.{List, [], ◌∷◌, ◌++◌, map, flat_map, Memᴰ}
use mathlib.Core.Option.{Option}
use lib.IntN.{ℤ}
use Rattle.base.specs.Bytes.{Bytes}
use Rattle.base.specs.Choice.{different}
use Rattle.base.specs.Map.{Entry, lookup}
use Rattle.base.specs.Entity.{Entity}
use Rattle.entity.specs.Layout.{single_of, value_of}
use Rattle.sheet.specs.Digits.{digits_for}
use Rattle.sheet.specs.Sheet.{Selector, Rule, Value}
use Rattle.cascade.specs.Cascade.{Layers, step}
use Rattle.cascade.specs.Clause.{default_name, Clause, clause, clauses}
use Rattle.cascade.specs.Isolation as rules
use Rattle.cascade.proofs.IsolationProof.{isolated, style_isolated}
use Rattle.cascade.specs.Map.{keep, map_entry}
use Rattle.cascade.specs.Match.{tag, test_key, verdict}
use Rattle.cascade.proofs.MatchLaws.{verdict_agree}
use Rattle.cascade.specs.Style as theory
use Rattle.cascade.specs.Style.{layer_tag}
use Rattle.cascade.specs.Walk.{Answer, refused, layers, to_hit, walk, property_maps}
use Rattle.grammar.specs.Rules.{rules_of_reading}
use Rattle.decode.specs.Decode.{rules_at}
use Rattle.printing.specs.Plate.{five_of}
use Rattle.style.specs.declared.Settings.{Settings}
use Rattle.styles.specs.declared.EntityStyles.{EntityStyles}
use Rattle.shown.specs.Style.{settings_shown}
use Rattle.shown.specs.Styles.{styled, styling_of, styles_held}
use Rattle.shown.proofs.StylesAre.{styles_are}
use Rattle.mapcss.specs.Sheets.{ReadsAs}
use Rattle.mapcss.specs.Loads.{Loads}
use Rattle.mapcss.specs.Maps.{maps_answered, layers_shown}
use Rattle.mapcss.specs.Styles.{styles_shown, styles_answered, StylesOfSheet}
use Rattle.mapcss.specs.Isolation.{Handed, rules_of, entity_of, maps, layers_in, layers_of, styles, MapsIsolated, StylesIsolated, LengthsAlike, IdsAlike}
use Rattle.mapcss.proofs.Loading.{sound, exactly, never_broken, rules_spelled, one_reading_each}
use Rattle.mapcss.proofs.Maps.{maps_of_sheet}
use Rattle.std.specs.Prelude.{Ok, Result, Err}
use Rattle.base.specs.declared.refusal.Refusal.{Refusal}

pub styles_of_sheet : StylesOfSheet
unfolding rules_at
styles_of_sheet bundle l n h r zoom s entity e q =
    styles_are bundle h.rules h.selectors h.tests h.properties h.numbers h.colors (five_of n) zoom s entity e
    (never_broken bundle l n h ((exactly bundle l n h).1 r).0) q
    ∙ ap (λ rs. styling_of (settings_shown s) (value_of entity e) (property_maps zoom (value_of entity e) rs)) (rules_spelled bundle l n h r)

-- the load's own reading is the one that is handed over
loads : (x : Handed) → Loads x.bundle x.lengths x.counts x.tables
loads x = sound x.bundle x.lengths x.counts x.tables x.accepted

same_rules : (x : Handed) → rules_of_reading digits_for (loads x).js ≡ rules_of x
same_rules x = ap (rules_of_reading digits_for) (one_reading_each x.bundle (loads x).js x.reading (loads x).is_sheet_lem x.reads)

-- what the calls answer is the theory's on the rules and the entity
maps_told :
    (zoom : ℕ) (x : Handed)
    → maps_answered x.bundle x.counts x.tables (maps zoom x) ≡ property_maps zoom (entity_of x) (rules_of x)
maps_told zoom x =
    maps_of_sheet x.bundle x.lengths x.counts x.tables (loads x) zoom x.entity x.range x.is_entity
    ∙ ap (property_maps zoom (entity_of x)) (same_rules x)

styles_told :
    (zoom : ℕ) (s : Settings) (x : Handed)
    → styles_answered x.bundle x.counts x.tables (styles zoom s x)
    ≡ styling_of (settings_shown s) (entity_of x) (property_maps zoom (entity_of x) (rules_of x))
styles_told zoom s x =
    styles_of_sheet x.bundle x.lengths x.counts x.tables (loads x) zoom s x.entity x.range x.is_entity
    ∙ ap (λ rs. styling_of (settings_shown s) (entity_of x) (property_maps zoom (entity_of x) rs)) (same_rules x)

maps_layers :
    (zoom : ℕ) (x : Handed) (n : ℕ) (t : List ℕ)
    → maps zoom x ≡ (Ok n, t)
    → property_maps zoom (entity_of x) (rules_of x) ≡ layers (layers_shown x.bundle x.counts x.tables t n)
maps_layers zoom x n t e = sym (maps_told zoom x) ∙ ap (maps_answered x.bundle x.counts x.tables) e

pub maps_isolated : MapsIsolated
maps_isolated layer zoom x y r n m t u p q =
    isolated layer zoom (rules_of x) (rules_of y) (entity_of x) (entity_of y) _ _
    (record {
      rules = r.rules;
      entities = r.entities;
      first_call = maps_layers zoom x n t p;
      second_call_maps = maps_layers zoom y m u q;
    })

-- a style call that is not refused has the layers of the call for maps
record Styled' (zoom : ℕ) (s : Settings) (x : Handed) (a : EntityStyles) : Type 0 where
  walked : property_maps zoom (entity_of x) (rules_of x) ≡ layers (layers_of zoom x)
  shown : styles_shown x.bundle x.counts x.tables a ≡ theory.styles (settings_shown s) (entity_of x) (layers_of zoom x)

answer_layers :
    (x : Handed) (m : Result ℕ Refusal × List ℕ) (v : Layers Value)
    → maps_answered x.bundle x.counts x.tables m ≡ layers v
    → layers_in x m ≡ v
answer_layers x (Err e, t) v p = different cc
answer_layers x (Ok n, t) v p = cc

styled_answer :
    (zoom : ℕ) (s : Settings) (x : Handed) (k : EntityStyles) (a : Answer Value)
    → property_maps zoom (entity_of x) (rules_of x) ≡ a
    → styled (styles_shown x.bundle x.counts x.tables k) ≡ styling_of (settings_shown s) (entity_of x) a
    → Styled' zoom s x k
unfolding styling_of
styled_answer zoom s x k (refused n) w p = different cc
styled_answer zoom s x k (layers v) w p =
    let l : layers_of zoom x ≡ v = answer_layers x (maps zoom x) v (maps_told zoom x ∙ w) in
    let q : styles_shown x.bundle x.counts x.tables k ≡ theory.styles (settings_shown s) (entity_of x) v = cc in
    record {
      walked = w ∙ ap layers (sym l);
      shown = q ∙ ap (theory.styles (settings_shown s) (entity_of x)) (sym l);
    }

not_refused :
    (zoom : ℕ) (s : Settings) (x : Handed) (k : EntityStyles)
    → styles zoom s x ≡ Ok k
    → Styled' zoom s x k
unfolding styles_held
not_refused zoom s x k e =
    styled_answer zoom s x k (property_maps zoom (entity_of x) (rules_of x)) refl
    (sym (ap (styles_held x.bundle x.tables.selectors x.tables.numbers) e) ∙ styles_told zoom s x)

pub styles_isolated : StylesIsolated
styles_isolated layer zoom x y r a s q same n m e f =
    let d = not_refused zoom s x n e in
    let c = not_refused zoom q y m f in
    ap (lookup layer) d.shown
    ∙ style_isolated layer zoom (rules_of x) (rules_of y) (entity_of x) (entity_of y) (layers_of zoom x) (layers_of zoom y)
    (record { rules = r.rules; entities = r.entities; first_call = d.walked; second_call_maps = c.walked })
    (record { not_star = a.not_star; layer_tags = a.layer_tags; widths = a.widths })
    (settings_shown s)
    ∙ ap (λ (t : theory.Settings). lookup layer (theory.styles t (entity_of y) (layers_of zoom y))) same
    ∙ ap (lookup layer) (sym c.shown)

-- ---- the answers depend on the bundle and what is read of the entity alone

range_one : (x y : Handed) → x.entity ≡ y.entity → entity_of x ≡ entity_of y
range_one x y e =
    let p : Ok x.range ≡ Ok y.range = sym x.is_entity ∙ ap single_of e ∙ y.is_entity in
    let q : x.range ≡ y.range = cc in
    rw (e, q)

rules_one : (x y : Handed) → x.bundle ≡ y.bundle → rules_of x ≡ rules_of y
rules_one x y e =
    ap (rules_of_reading digits_for)
    (one_reading_each y.bundle x.reading y.reading (subst (λ b. ReadsAs b x.reading) e x.reads) y.reads)

abbrev ToldAlike : (zoom : ℕ) (x y : Handed) → Type 0
ToldAlike zoom x y = property_maps zoom (entity_of x) (rules_of x) ≡ property_maps zoom (entity_of y) (rules_of y)

maps_alike :
    (zoom : ℕ) (x y : Handed)
    → ToldAlike zoom x y
    → maps_answered x.bundle x.counts x.tables (maps zoom x) ≡ maps_answered y.bundle y.counts y.tables (maps zoom y)
maps_alike zoom x y e = maps_told zoom x ∙ e ∙ sym (maps_told zoom y)

-- a style reads the kind and the tag `layer` of its entity
styling_alike :
    (s : theory.Settings) (d e : Entity) (a : Answer Value)
    → d.kind ≡ e.kind
    → layer_tag d ≡ layer_tag e
    → styling_of s d a ≡ styling_of s e a
unfolding styling_of theory.styles
styling_alike s d e (refused n) k l = refl
styling_alike s d e (layers v) k l =
    ap₂
    (λ (i : ℕ) (t : Option ℤ).
    styled
    (map (map_entry (λ m. theory.style_from s i t (theory.base_width m (lookup default_name v)) m)) (keep theory.not_star v)))
    k l

styles_alike :
    (zoom : ℕ) (x y : Handed)
    → ToldAlike zoom x y
    → (entity_of x).kind ≡ (entity_of y).kind
    → layer_tag (entity_of x) ≡ layer_tag (entity_of y)
    → (s q : Settings)
    → settings_shown s ≡ settings_shown q
    → styles_answered x.bundle x.counts x.tables (styles zoom s x)
    ≡ styles_answered y.bundle y.counts y.tables (styles zoom q y)
styles_alike zoom x y e k l s q same =
    styles_told zoom s x
    ∙ styling_alike (settings_shown s) (entity_of x) (entity_of y) _ k l
    ∙ ap₂ (λ (t : theory.Settings) a. styling_of t (entity_of y) a) same e
    ∙ sym (styles_told zoom q y)

pub lengths_alike : LengthsAlike
lengths_alike zoom x y b e =
    let d = range_one x y e in
    let t : ToldAlike zoom x y = ap₂ (λ (d : Entity) rs. property_maps zoom d rs) d (rules_one x y b) in
    (maps_alike zoom x y t, styles_alike zoom x y t (ap (λ (d : Entity). d.kind) d) (ap layer_tag d))

-- ---- ids, and tags that are not tested

module _ (z : ℕ) (d e : Entity) where
  Alike : List (Clause Value) → Type 0
  Alike [] = Unit {0}
  Alike (c ∷ cs) = (verdict z d c.selector ≡ verdict z e c.selector) × Alike cs

  alike_append : (xs ys : List (Clause Value)) → Alike xs → Alike ys → Alike (xs ++ ys)
  unfolding Alike
  alike_append [] ys a b = b
  alike_append (x ∷ xs) ys a b = (a.0, alike_append xs ys a.1 b)

  walk_alike : (m : Layers Value) (cs : List (Clause Value)) → Alike cs → walk z d m cs ≡ walk z e m cs
  unfolding walk Alike
  walk_alike m [] a = refl
  walk_alike m (c ∷ cs) a =
      rw (a.0, walk_alike (step m (to_hit c)) cs a.1, walk_alike m cs a.1)

  module _ (kinds : d.kind ≡ e.kind) where
    alike_selectors :
        (ps : List (Entry Value)) (ss : List Selector)
        → ((k : Bytes) → Memᴰ k (flat_map (λ s. map test_key s.tests) ss) → tag d k ≡ tag e k)
        → Alike (map (clause ps) ss)
    unfolding Alike flat_map
    alike_selectors ps [] h = tt
    alike_selectors ps (s ∷ ss) h = (
      verdict_agree z d e s kinds (λ k m. h k (Memᴰ.append_left (flat_map (λ s. map test_key s.tests) ss) m)),
      alike_selectors ps ss (λ k m. h k (Memᴰ.append_right (map test_key s.tests) m)),
    )

    alike_rules :
        (rs : List (Rule Value))
        → ((k : Bytes) → Memᴰ k (rules.tested_keys rs) → tag d k ≡ tag e k)
        → Alike (clauses rs)
    unfolding Alike flat_map clauses
    alike_rules [] h = tt
    alike_rules (r ∷ rs) h =
        alike_append (map (clause r.properties) r.selectors) (clauses rs)
        (alike_selectors r.properties r.selectors (λ k m. h k (Memᴰ.append_left (rules.tested_keys rs) m)))
        (alike_rules rs
        (λ k m. h k (Memᴰ.append_right (flat_map (λ s. map test_key s.tests) r.selectors) m)))

  maps_agree : (rs : List (Rule Value)) → rules.Agree d e rs → property_maps z d rs ≡ property_maps z e rs
  unfolding property_maps
  maps_agree rs a = walk_alike [] (clauses rs) (alike_rules a.kinds rs a.tags)

pub ids_alike : IdsAlike
ids_alike zoom x y b a =
    let t : ToldAlike zoom x y =
    maps_agree zoom (entity_of x) (entity_of y) (rules_of x) a ∙ ap (property_maps zoom (entity_of y)) (rules_one x y b) in
    (maps_alike zoom x y t, styles_alike zoom x y t a.kinds)
