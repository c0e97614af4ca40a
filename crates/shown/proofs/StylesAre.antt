-- The styles that a call answers are the theory's.
use Prim.Native.Nat.{ℕ, ◌≤◌}
use mathlib.Core.Path.{◌≡◌, refl, sym, ◌∙◌, ap, ap₂}
use mathlib.Core.Bool.{false}
use mathlib.Core.List.{List, [], ◌∷◌, map, map-map}
use mathlib.Core.Option.{Option, none, some}
use lib.IntN.{ℤ}
use lib.Seq.{take-append_seam}
use Rattle.base.specs.Bytes.{Bytes}
use Rattle.base.specs.Choice.{pick}
use Rattle.base.specs.Map.{Entry, Map, entry, lookup}
use Rattle.base.specs.Entity.{Entity}
use Rattle.entity.specs.Layout.{value_of}
use Rattle.sheet.specs.Sheet.{Value}
use Rattle.cascade.specs.Clause.{default_name}
use Rattle.cascade.specs.Map.{map_entry}
use Rattle.cascade.specs.Numbered.{map_rule, map_answer}
use Rattle.cascade.proofs.NumberedLaws.{maps_mapped}
use Rattle.cascade.specs.Style as theory
use Rattle.cascade.specs.Style.{layer_tag, not_star, style_of, styles}
use Rattle.cascade.specs.Walk.{property_maps}
use Rattle.tag_number.specs.Told.{layer_told}
use Rattle.decode.specs.Decode.{places, name_at, numbered_at, rules_at}
use Rattle.keep.specs.Lent.{Lent, lent, counted}
use Rattle.walk.specs.Maps.{walk_of}
use Rattle.walk.specs.Rows.{numbers_at}
use Rattle.walk.proofs.WalkLaws.{rules_few}
use Rattle.maps.specs.Held.{answer_held}
use Rattle.maps.proofs.Held.{walk_is, few_layers}
use Rattle.style.specs.declared.Settings.{Settings}
use Rattle.styles.specs.Styles.{styled_rows, default_width, layer_styled, layers_styled, filled_layers, styles_from, styles_of}
use Rattle.shown.specs.Style as one
use Rattle.shown.specs.Style.{settings_shown, properties_of}
use Rattle.shown.specs.Styles.{styled, styling_of, layer_shown, styles_held, StylesAre}
use Rattle.shown.proofs.StyleIs.{style_is}
use Rattle.shown.proofs.Rows.{value, layer, valued, layers_valued, styled_rows_lem, default_is}
use Rattle.std.specs.Prelude.{Result, Ok, Err}
use Rattle.base.specs.declared.refusal.Refusal.{Refusal}
use Rattle.base.specs.Option.{on_result}

-- what the code makes of the tag `layer` is the tag
pub layer_told_lem : (o : Option ℤ) → one.layer_shown (layer_told o) ≡ o
unfolding one.layer_shown layer_told
layer_told_lem none = refl
layer_told_lem (some i) = refl

-- the rules with values are the rules with numbers, each number its value
pub numbered_rules :
    (bundle : Bytes) (τ : Lent)
    → map (map_rule (value bundle τ []))
    (map (numbered_at bundle τ.rules τ.selectors τ.tests τ.properties τ.numbers) (places 0 τ.tally.rules))
    ≡ rules_at bundle τ
unfolding rules_at
numbered_rules bundle τ = simp (map-map)

module _ (bundle : Bytes) (τ : Lent) (s : Settings) (e : Entity) (t : List ℕ) (n : ℕ) (few : n ≤ 32) where
  abbrev all : Map (Map Value)
  all = map (valued bundle τ t) (places 0 n)

  layer_styled_lem :
      (i : ℕ)
      → layer_shown bundle τ.selectors τ.numbers
      (layer_styled bundle τ.selectors τ.properties τ.numbers t n e.kind (layer_told (layer_tag e)) s i)
      ≡ map_entry (style_of (settings_shown s) e (lookup default_name all)) (valued bundle τ t i)
  unfolding theory.base_width
  layer_styled_lem i =
      ap (entry (valued bundle τ t i).key)
      (style_is bundle τ (numbers_at t i) e.kind (layer_told (layer_tag e))
      (default_width bundle τ.selectors τ.properties τ.numbers t n) s
      ∙ (rw (layer_told_lem (layer_tag e), default_is bundle τ t n few)))

  layers_styled_lem :
      (is : List ℕ)
      → map (layer_shown bundle τ.selectors τ.numbers)
      (map (layer_styled bundle τ.selectors τ.properties τ.numbers t n e.kind (layer_told (layer_tag e)) s) is)
      ≡ map (map_entry (style_of (settings_shown s) e (lookup default_name all))) (map (valued bundle τ t) is)
  layers_styled_lem [] = refl
  layers_styled_lem (i ∷ is) = ap₂ (λ (x : Entry theory.Style) xs. x ∷ xs) (layer_styled_lem i) (layers_styled_lem is)

  filled :
      styles_held bundle τ.selectors τ.numbers
      (Ok (filled_layers bundle τ.selectors τ.properties τ.numbers t n e.kind (layer_told (layer_tag e)) s))
      ≡ styled (styles (settings_shown s) e all)
  unfolding filled_layers styles_held styles
  filled =
      let ls = layers_styled bundle τ.selectors τ.properties τ.numbers t n e.kind (layer_told (layer_tag e)) s in
      ap styled
      (ap (map (layer_shown bundle τ.selectors τ.numbers)) (take-append_seam ls _)
      ∙ layers_styled_lem (styled_rows bundle τ.selectors t n)
      ∙ ap (map (map_entry (style_of (settings_shown s) e (lookup default_name all)))) (sym (styled_rows_lem bundle τ t n)))

abbrev pub Answered : Type 0
Answered = Result ℕ Refusal × List ℕ

-- from the walk's answer
pub from_walk :
    (bundle : Bytes) (τ : Lent) (s : Settings) (e : Entity) (x : Answered)
    → ((k : ℕ) (t : List ℕ) → x ≡ (Ok k, t) → k ≤ 32)
    → styles_held bundle τ.selectors τ.numbers
    (styles_from bundle τ.selectors τ.properties τ.numbers e.kind (layer_told (layer_tag e)) s x)
    ≡ styling_of (settings_shown s) e
    (map_answer (value bundle τ []) (answer_held (name_at bundle τ.properties) (layer bundle τ []) x))
unfolding styles_from styles_held styling_of
from_walk bundle τ s e (Err r, t) h = refl
from_walk bundle τ s e (Ok n, t) h =
    filled bundle τ s e t n (h n t refl)
    ∙ ap (λ v. styled (styles (settings_shown s) e v)) (sym (layers_valued bundle τ t n))

pub styles_are : StylesAre
unfolding styles_of pick on_result value_of
styles_are bundle rules selectors tests properties numbers colors n zoom s entity e sound one =
    let τ = lent (counted n.rules) rules selectors tests properties numbers colors in
    let d = value_of entity e in
    let f = value bundle τ [] in
    let rs = map (numbered_at bundle rules selectors tests properties numbers) (places 0 n.rules) in
    rw (sound, one)
    (from_walk bundle τ s d (walk_of bundle rules selectors tests properties numbers n.rules zoom entity e false 0)
    (λ k t. few_layers bundle rules selectors tests properties numbers n.rules zoom entity e false 0 k t)
    ∙ ap (styling_of (settings_shown s) d)
    (ap (map_answer f)
    (walk_is bundle rules selectors tests properties numbers n.rules zoom entity e false 0
    (rules_few bundle rules selectors tests properties numbers n sound))
    ∙ sym (maps_mapped f zoom d rs)
    ∙ ap (property_maps zoom d) (numbered_rules bundle τ)))
