-- Laws of styles, one for each way through the code, over plain lists and numbers.
use Prim.Native.Nat.{ℕ, ◌+◌, ◌*◌, ◌≤◌, ◌<◌}
use native.Mathlib.Omega.{arith}
use native.Mathlib.Numerals.{add-one}
use mathlib.Core.Path.{◌≡◌, refl, sym, ◌∙◌, ap, ap₂}
use mathlib.Core.Bool.{Bool, true, false, not, cond}
use mathlib.Core.List.{List, [], ◌∷◌, ◌++◌, map, map-append, append-nil}
use mathlib.Core.Option.{none, some}
use lib.Ieee.{Float, of_bits, of_int}
use lib.Dec.{ltb}
use lib.ListN.{length, get_or, set, replicate, length-append}
use borrow.Author.Tests.{lt-ltb, le-ltb}
use Rattle.base.specs.Bytes.{Bytes, ascii, same, within}
use Rattle.base.specs.Choice.{pick, via, via_with, if_true, if_false}
use Rattle.base.specs.Refusal.{refusal}
use Rattle.base.specs.Table.{zero_float, padded}
use Rattle.base.specs.declared.Range.{Range}
use Rattle.base.specs.declared.refusal.Refusal.{Refusal}
use Rattle.base.proofs.Tables.{padded_none, padded_set}
use Rattle.group.specs.Pair.{pairs_at}
use Rattle.entity.specs.Layout.{single_of, value_of}
use Rattle.entity.specs.declared.EntityRange.{EntityRange}
use Rattle.cascade.specs.Clause.{star, default_name}
use Rattle.cascade.specs.Map.{keep, and_map}
use Rattle.cascade.proofs.MapLaws.{keep_append}
use Rattle.cascade.specs.Number.{as_integer, whole}
use Rattle.cascade.specs.Style.{layer_tag}
use Rattle.reader.specs.Tags.{value_in}
use Rattle.reader.proofs.Lookup.{tag_value}
use Rattle.tag_number.specs.Told.{layer_told}
use Rattle.valid.specs.Valid.{tables_sound}
use Rattle.valid.specs.declared.Counts.{Counts}
use Rattle.decode.specs.Decode.{places}
use Rattle.decode.proofs.Places.{places_on}
use Rattle.walk.specs.Maps.{walk_of, layer_place}
use Rattle.walk.specs.Rows.{numbers_at}
use Rattle.walk.specs.Selectors.{layer_in}
use Rattle.style.specs.Style.{number_in, width_or_zero, style_at}
use Rattle.style.specs.declared.Settings.{Settings}
use Rattle.style.specs.declared.Style.{Style}
use Rattle.styles.specs.Styles.{blank_layer, named_by, default_width, layer_styled, filled_layers, styles_from, walked_styles, styles_of}
use Rattle.styles.specs.declared.EntityStyles.{EntityStyles}
use Rattle.styles.specs.declared.StyledLayer.{StyledLayer}
use Rattle.std.specs.Prelude.{Option, None, Result, Ok, Err, ℤ, Some}
use Rattle.base.specs.Option.{on_option, result_err, result_ok}

-- ---- the tag `layer`

module _ (s : Bytes) (e : EntityRange) (v : Option Range) (i : v ≡ value_in s (ascii "layer") (pairs_at e.count s e.tags)) where
  layer_of_lem :
      (k : Option Range)
      → v ≡ k
      → layer_told (and_map as_integer (on_option k none (λ r. some (within r s)))) ≡ layer_told (layer_tag (value_of s e))
  layer_of_lem k q =
      sym
      (ap (λ o. layer_told (and_map as_integer o))
      (tag_value s (ascii "layer") e ∙ ap (λ x. on_option x none (λ r. some (within r s))) (via i q)))

  pub layer_absent : v ≡ None → None ≡ layer_told (layer_tag (value_of s e))
  unfolding layer_told and_map on_option
  layer_absent q = layer_of_lem None q

  pub layer_there :
      (r : Range)
      → v ≡ Some r
      → (t : Bytes)
      → t ≡ within r s
      → (l : Option ℤ)
      → l ≡ layer_told (as_integer t)
      → l ≡ layer_told (layer_tag (value_of s e))
  unfolding and_map on_option
  layer_there r q t w l z = z ∙ ap (λ x. layer_told (as_integer x)) w ∙ layer_of_lem (Some r) q

-- ---- the width of the default layer

module _ (bundle : Bytes) (selectors properties : List ℕ) (numbers : List Float) (t : List ℕ) (n i : ℕ)
    (p : i ≡ layer_place (layer_in bundle selectors) t n default_name) where
  abbrev width_of : ℕ → Float
  width_of i = pick (ltb i n) (width_or_zero (number_in bundle properties numbers (numbers_at t i) (ascii "width"))) (whole 0)

  pub width_there :
      i < n
      → (row : List ℕ)
      → row ≡ numbers_at t i
      → (m : Option Float)
      → m ≡ number_in bundle properties numbers row (ascii "width")
      → (w : Float)
      → w ≡ width_or_zero m
      → w ≡ default_width bundle selectors properties numbers t n
  unfolding default_width
  width_there h row a m b w c =
      if_true _ _ _ (lt-ltb i n h)
      (c ∙ ap width_or_zero (b ∙ ap (λ r. number_in bundle properties numbers r (ascii "width")) a))
      ∙ ap width_of p

  pub width_none : n ≤ i → zero_float ≡ default_width bundle selectors properties numbers t n
  unfolding default_width of_bits of_int
  width_none h = if_false _ _ (whole 0) (le-ltb i n h) refl ∙ ap width_of p

-- ---- layer by layer

module _ (p : ℕ → Bool) (f : ℕ → StyledLayer) where
  -- the styled layers of the first i rows
  abbrev pub styled_of : ℕ → List StyledLayer
  styled_of i = map f (keep p (places 0 i))

  styled_on : (i : ℕ) → styled_of (i + 1) ≡ styled_of i ++ map f (keep p (i ∷ []))
  styled_on i =
      let e : 0 + i ≡ i = omega arith in
      ap styled_of (add-one i)
      ∙ ap (λ l. map f (keep p l)) (places_on 0 i ∙ ap (λ x. places 0 i ++ (x ∷ [])) e)
      ∙ ap (map f) (keep_append p (places 0 i) (i ∷ []))
      ∙ map-append f (keep p (places 0 i)) (keep p (i ∷ []))

  styled_left : (i : ℕ) → p i ≡ false → styled_of (i + 1) ≡ styled_of i
  unfolding keep
  styled_left i e = styled_on i ∙ ap (λ b. styled_of i ++ map f (cond b (i ∷ []) [])) e ∙ append-nil (styled_of i)

  styled_more : (i : ℕ) → p i ≡ true → styled_of (i + 1) ≡ styled_of i ++ (f i ∷ [])
  unfolding keep
  styled_more i e = styled_on i ∙ ap (λ b. styled_of i ++ map f (cond b (i ∷ []) [])) e

  -- the table of layers after the first i rows
  pub record Filled (i count : ℕ) (ls : List StyledLayer) : Type 0 where
    pub counted : length (styled_of i) ≡ count
    pub is : ls ≡ padded blank_layer 32 (styled_of i)

  pub filled_none : (z : StyledLayer) → z ≡ blank_layer → Filled 0 0 (replicate 32 z)
  unfolding places keep
  filled_none z e = record { counted = refl; is = ap (replicate 32) e ∙ sym (padded_none blank_layer 32) }

  module _ (i count : ℕ) (ls : List StyledLayer) (filled : Filled i count ls) where
    filled_left : p i ≡ false → Filled (i + 1) count ls
    filled_left e =
        let on = styled_left i e in
        record { counted = ap length on ∙ filled.counted; is = filled.is ∙ ap (padded blank_layer 32) (sym on) }

    filled_more : p i ≡ true → count < 32 → (x : StyledLayer) → x ≡ f i → Filled (i + 1) (count + 1) (set ls count x)
    filled_more e h x q =
        let on = styled_more i e in
        record {
          counted = ap length on ∙ length-append (styled_of i) (f i ∷ []) ∙ ap (λ k. k + 1) filled.counted;
          is =
              ap₂ (λ l v. set l count v) filled.is q
              ∙ padded_set blank_layer 32 (styled_of i) count (f i) filled.counted h
              ∙ ap (padded blank_layer 32) (sym on);
        }

-- what the loop leaves
module _ (bundle : Bytes) (selectors properties : List ℕ) (numbers : List Float) (t : List ℕ) (n kind : ℕ) (layer : Option ℤ)
    (settings : Settings) where
  abbrev pub styled_by : ℕ → Bool
  styled_by i = not (same star (layer_in bundle selectors (named_by bundle selectors t i)))

  abbrev pub StyledTo : ℕ → ℕ → List StyledLayer → Type 0
  StyledTo = Filled styled_by (layer_styled bundle selectors properties numbers t n kind layer settings)

  module _ (i count : ℕ) (ls : List StyledLayer) (filled : StyledTo i count ls) (b : Bool) (q : b ≡ styled_by i) where
    -- `*` gets no style
    pub star_next : b ≡ false → StyledTo (i + 1) count ls
    star_next y = filled_left _ _ i count ls filled (via q y)

    -- any other layer gets one
    pub layer_next :
        b ≡ true
        → count < 32
        → (s : ℕ)
        → s ≡ get_or t (i * 131) 0
        → (w : Float)
        → w ≡ default_width bundle selectors properties numbers t n
        → (row : List ℕ)
        → row ≡ numbers_at t i
        → (x : Style)
        → x ≡ style_at bundle properties numbers row kind layer w settings
        → StyledTo (i + 1) (count + 1) (set ls count (record { selector = s; style = x }))
    layer_next y h s e w d row r x z =
        filled_more _ _ i count ls filled (via q y) h _
        (ap₂ (λ (s : ℕ) (x : Style). record { selector = s; style = x }) e
        (z ∙ ap₂ (λ v l. style_at bundle properties numbers l kind layer v settings) d r))

  pub filled_all :
      (i count : ℕ) (ls : List StyledLayer)
      → i ≡ n
      → StyledTo i count ls
      → (record { layers = ls; count = count }) ≡ filled_layers bundle selectors properties numbers t n kind layer settings
  unfolding filled_layers
  filled_all i count ls e f =
      ap₂ (λ k l. record { layers = l; count = k }) (sym f.counted) f.is
      ∙ ap
      (λ (j : ℕ).
      let l = styled_of styled_by (layer_styled bundle selectors properties numbers t n kind layer settings) j in
      record { layers = padded blank_layer 32 l; count = length l }) e

-- ---- the whole

module _ (bundle rules selectors tests properties : List ℕ) (numbers : List Float) (total zoom : ℕ) (settings : Settings) (entity : Bytes)
    (e : EntityRange) (a : Result ℕ Refusal) (t : List ℕ)
    (w : (a, t) ≡ walk_of bundle rules selectors tests properties numbers total zoom entity e false 0) where
  abbrev tagged : Option ℤ
  tagged = layer_told (layer_tag (value_of entity e))

  abbrev walked : Result EntityStyles Refusal
  walked = walked_styles bundle rules selectors tests properties numbers total zoom settings entity e

  pub walked_refused : (r : Refusal) → a ≡ Err r → Err r ≡ walked
  unfolding styles_from
  walked_refused r q = sym (ap (styles_from bundle selectors properties numbers e.kind tagged settings) (via_with w q))

  pub walked_filled :
      (n : ℕ)
      → a ≡ Ok n
      → (l : Option ℤ)
      → l ≡ tagged
      → (x : EntityStyles)
      → x ≡ filled_layers bundle selectors properties numbers t n e.kind l settings
      → Ok x ≡ walked
  unfolding styles_from
  walked_filled n q l y x z =
      ap (λ (x : EntityStyles). Ok x) (z ∙ ap (λ l. filled_layers bundle selectors properties numbers t n e.kind l settings) y)
      ∙ sym (ap (styles_from bundle selectors properties numbers e.kind tagged settings) (via_with w q))

module _ (bundle rules selectors tests properties : List ℕ) (numbers : List Float) (n : Counts) (zoom : ℕ) (settings : Settings)
    (entity : Bytes) where
  abbrev sound : Bool
  sound = tables_sound rules selectors tests properties numbers n (length bundle)

  abbrev styled : Result EntityStyles Refusal
  styled = styles_of bundle rules selectors tests properties numbers n zoom settings entity

  pub styles_broken : sound ≡ false → (r : Refusal) → r ≡ refusal 22 0 0 0 0 → Err r ≡ styled
  unfolding styles_of
  styles_broken y r w = if_false _ _ _ y (ap (λ (r : Refusal). Err r) w)

  module _ (y : sound ≡ true) (q : Result EntityRange Refusal) (j : q ≡ single_of entity) where
    pub styles_bad : (r : Refusal) → q ≡ Err r → Err r ≡ styled
    unfolding styles_of
    styles_bad r w = if_true _ _ _ y (result_err _ _ _ (via j w) refl)

    pub styles_walked :
        (e : EntityRange)
        → q ≡ Ok e
        → (x : Result EntityStyles Refusal)
        → x ≡ walked_styles bundle rules selectors tests properties numbers n.rules zoom settings entity e
        → x ≡ styled
    unfolding styles_of
    styles_walked e w x z = if_true _ _ _ y (result_ok _ _ _ (via j w) z)
