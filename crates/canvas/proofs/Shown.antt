-- The answer is the canvas colour of the rules that the tables spell. The theory goes through clauses, one for each selector; the
-- code looks at a rule once, since a rule's first colour, sought for several canvas selectors, is found at the first.
use Prim.Native.Nat.{ℕ}
use mathlib.Core.Path.{◌≡◌, refl, sym, ◌∙◌, ap, ap₂}
use mathlib.Core.Bool.{Bool, true, false, cond}
use mathlib.Core.List.{List, [], ◌∷◌, ◌++◌, map}
use mathlib.Core.Option.{Option as Maybe, none, some}
use lib.Dec.{eqb}
use borrow.Author.Tests.{eqb-true}
use Rattle.base.specs.Bytes.{Bytes, same}
use Rattle.base.specs.Choice.{pick, if_true, pick_split, by-test, clash}
use Rattle.base.specs.Map.{Entry}
use Rattle.color.specs.declared.Color.{Color}
use Rattle.sheet.specs.Sheet.{all, canvas, meta, node, way, area, Value}
use Rattle.table.specs.Value.{word_at, range_at, value_at}
use Rattle.table.specs.declared.Name.TheVariants.{Plain}
use Rattle.table.specs.declared.PropertyValue.{PropertyValue}
use Rattle.table.specs.declared.PropertyValue.TheVariants.{Identifier}
use Rattle.cascade.specs.Map.{or_else}
use Rattle.cascade.specs.Clause.{Clause, clause, clauses}
use Rattle.cascade.specs.Style.{named_color}
use Rattle.cascade.specs.Canvas.{canvas_property, is_canvas, color_value, first_color as first_of, canvas_from}
use Rattle.keep.specs.Lent.{Lent, lent}
use Rattle.decode.specs.Decode.{places, places_in, type_at, selector_at, value_of, property_at, rule_at, rules_at}
use Rattle.style.specs.declared.StyleType.{StyleType}
use Rattle.style.specs.declared.StyleType.TheVariants.{Josm, MapsMe}
use Rattle.canvas.specs.Canvas.{canvas_name, or_color, shade_of, color_at, first_color, any_canvas, rule_color, rules_color, canvas_of}
use Rattle.canvas.specs.Shown.{type_shown, CanvasIsRules}
use Rattle.std.specs.Prelude.{Option, Some, None, Result, Ok}
use Rattle.base.specs.declared.refusal.Refusal.{Refusal}

-- ---- a colour, or none

shown_or : (a b : Option Color) → named_color (or_color a b) ≡ or_else (named_color a) (named_color b)
unfolding named_color or_color or_else
shown_or None b = refl
shown_or (Some c) b = refl

shown_pick : (t : Bool) (a : Option Color) → named_color (pick t a None) ≡ cond t (named_color a) none
unfolding named_color pick
shown_pick true a = refl
shown_pick false a = refl

-- sought again, the same is found
twice :
    (a b : Bool) (x o : Maybe Color)
    → or_else (cond a x none) (or_else (cond b x none) o) ≡ or_else (cond (pick a true b) x none) o
unfolding or_else pick
twice true true none o = refl
twice true false none o = refl
twice true b (some c) o = refl
twice false b x o = refl

-- `canvas` has kind 2
kind_shown : (k : ℕ) → is_canvas (type_at k) ≡ eqb k 2
unfolding type_at pick
kind_shown k =
    by-test (eqb k 2) (λ y. ap (λ j. is_canvas (type_at j)) (eqb-true k 2 y) ∙ sym y) (λ y. other y ∙ sym y)
  where
    other : eqb k 2 ≡ false → is_canvas (type_at k) ≡ false
    other y =
        pick_split (λ o. is_canvas o ≡ false) (eqb k 1) all _ (λ _. refl) λ _.
        pick_split (λ o. is_canvas o ≡ false) (eqb k 2) canvas _ (λ z. clash z y) λ _.
        pick_split (λ o. is_canvas o ≡ false) (eqb k 3) meta _ (λ _. refl) λ _.
        pick_split (λ o. is_canvas o ≡ false) (eqb k 4) node _ (λ _. refl) λ _.
        pick_split (λ o. is_canvas o ≡ false) (eqb k 5) way area (λ _. refl) λ _. refl

-- ---- along the tables

module _ (bundle : Bytes) (τ : Lent) (name : Bytes) where
  value_shown_lem : (v : PropertyValue) → named_color (shade_of v) ≡ color_value (value_of bundle τ v)
  unfolding named_color shade_of
  value_shown_lem (Identifier (Plain a)) = refl
  value_shown_lem v = refl

  abbrev first : List ℕ → Option Color
  first = first_color bundle τ.properties τ.numbers name

  color_shown :
      (p : ℕ)
      → named_color (color_at bundle τ.properties τ.numbers name p)
      ≡ cond (same (property_at bundle τ p).key name) (color_value (property_at bundle τ p).value) none
  unfolding color_at
  color_shown p =
      shown_pick (same (property_at bundle τ p).key name) (shade_of (value_at τ.properties τ.numbers p))
      ∙ ap (λ o. cond (same (property_at bundle τ p).key name) o none) (value_shown_lem (value_at τ.properties τ.numbers p))

  first_shown : (ps : List ℕ) → named_color (first ps) ≡ first_of name (map (property_at bundle τ) ps)
  unfolding first_color first_of named_color
  first_shown [] = refl
  first_shown (p ∷ ps) =
      shown_or (color_at bundle τ.properties τ.numbers name p) (first ps) ∙ ap₂ or_else (color_shown p) (first_shown ps)

  -- the clauses of one rule
  selectors_shown :
      (props : List (Entry Value)) (cs : List (Clause Value)) (ss : List ℕ)
      → canvas_from name (map (clause props) (map (selector_at bundle τ) ss) ++ cs)
      ≡ or_else (cond (any_canvas τ.selectors ss) (first_of name props) none) (canvas_from name cs)
  unfolding canvas_from any_canvas or_else
  selectors_shown props cs [] = refl
  selectors_shown props cs (s ∷ ss) =
      ap₂ (λ a o. or_else (cond a (first_of name props) none) o) (kind_shown (word_at τ.selectors s 0)) (selectors_shown props cs ss)
      ∙ twice (eqb (word_at τ.selectors s 0) 2) (any_canvas τ.selectors ss) (first_of name props) (canvas_from name cs)

  abbrev among : List ℕ → Option Color
  among = rules_color bundle τ.rules τ.selectors τ.properties τ.numbers name

  rule_shown :
      (r : ℕ)
      → named_color (rule_color bundle τ.rules τ.selectors τ.properties τ.numbers name r)
      ≡ cond (any_canvas τ.selectors (places_in (range_at τ.rules r 1))) (first_of name (rule_at bundle τ r).properties) none
  unfolding rule_color
  rule_shown r =
      shown_pick (any_canvas τ.selectors (places_in (range_at τ.rules r 1))) (first (places_in (range_at τ.rules r 3)))
      ∙ ap (λ o. cond (any_canvas τ.selectors (places_in (range_at τ.rules r 1))) o none)
      (first_shown (places_in (range_at τ.rules r 3)))

  among_shown : (rs : List ℕ) → named_color (among rs) ≡ canvas_from name (clauses (map (rule_at bundle τ) rs))
  unfolding rules_color clauses canvas_from named_color
  among_shown [] = refl
  among_shown (r ∷ rs) =
      shown_or (rule_color bundle τ.rules τ.selectors τ.properties τ.numbers name r) (among rs)
      ∙ ap₂ or_else (rule_shown r) (among_shown rs)
      ∙ sym
      (selectors_shown (rule_at bundle τ r).properties (clauses (map (rule_at bundle τ) rs)) (places_in (range_at τ.rules r 1)))

-- ---- the whole

name_shown_lem : (t : StyleType) → canvas_name t ≡ canvas_property (type_shown t)
name_shown_lem Josm = refl
name_shown_lem MapsMe = refl

is_inside : (x c : Option Color) → ◌≡◌ {A = Result (Option Color) Refusal} (Ok x) (Ok c) → c ≡ x
is_inside x c e = cc

pub canvas_is_rules : CanvasIsRules
unfolding canvas_of rules_at
canvas_is_rules bundle rules selectors tests properties numbers n t c m colors k h e =
    let τ = lent m rules selectors tests properties numbers colors in
    ap named_color (is_inside _ c (if_true _ _ _ h refl ∙ e))
    ∙ ap₂ (λ x i. named_color (rules_color bundle rules selectors properties numbers x (places 0 i))) (name_shown_lem t) (sym k)
    ∙ among_shown bundle τ (canvas_property (type_shown t)) (places 0 m.rules)
