-- The keys of a drawing: they are ordered as its entries are, an entity's are those of its drawing, and they are pushed as drawings
-- are joined.
use Prim.Native.Nat.{ℕ, suc, ◌+◌}
use native.Mathlib.Numerals.{add-one}
use mathlib.Core.Path.{◌≡◌, refl, sym, ◌∙◌, ap, ap₂}
use mathlib.Core.Bool.{Bool, true, false, not, ◌&&◌}
use mathlib.Core.List.{List, [], ◌∷◌, ◌++◌, map, map-append}
use mathlib.Core.Option.{Option, none, some, get_or}
use lib.Dec.{leb, ltb}
use lib.IntN.{ℤ, pos}
use lib.Ieee.{Float, is_nan}
use lib.ListN.{length, length-map}
use Rattle.base.specs.Bytes.{Bytes, ascii}
use Rattle.base.specs.Choice.{pick, by-test}
use Rattle.base.specs.Entity.{Entity}
use Rattle.base.specs.Map.{Map, lookup}
use Rattle.base.specs.Refusal.{of_entity}
use Rattle.base.specs.declared.refusal.Refusal.{Refusal}
use Rattle.sheet.specs.Sheet.{Value}
use Rattle.cascade.specs.Clause.{default_name}
use Rattle.cascade.specs.Draw.{Drawn, Drawing, declined, entries, not_after, some_nan, drawn_from, entity_drawing, join, fit}
use Rattle.cascade.specs.Map.{map_entry}
use Rattle.cascade.specs.Numbered.{map_answer}
use Rattle.cascade.specs.Order.{bool_le}
use Rattle.cascade.specs.Sort.{sort}
use Rattle.cascade.proofs.SortLaws.{sort_map}
use Rattle.cascade.specs.Style as theory
use Rattle.cascade.specs.Style.{layer_tag, style_from, style_of, styles}
use Rattle.tag_number.specs.Told.{layer_told}
use Rattle.decode.specs.Decode.{places, name_at}
use Rattle.keep.specs.Lent.{Lent}
use Rattle.walk.specs.Rows.{numbers_at}
use Rattle.maps.specs.Held.{answer_held}
use Rattle.style.specs.Get.{number_of}
use Rattle.style.specs.declared.Settings.{Settings}
use Rattle.styles.specs.Styles.{styled_rows}
use Rattle.order.specs.declared.Key.{Key}
use Rattle.order.specs.Keys.{key_le}
use Rattle.drawing.specs.Gather.{Gathered, stopped, gathered, layer_rank, fill_rank, stream_rank, z_of, key_of, keys_from, any_nan, keys_in, push}
use Rattle.shown.specs.Style.{settings_shown, properties_of}
use Rattle.shown.proofs.StyleIs.{found, number_at_lem, foreground_at, z_is}
use Rattle.shown.proofs.Rows.{value, layer, valued, layers_valued, styled_rows_lem}
use Rattle.shown.proofs.StylesAre.{Answered}
use Rattle.std.specs.Prelude.{Ok, Err}

-- what the order reads of an entry, and what the entry names
abbrev pub key_for : Bool → Drawn → Key
key_for for_labels d =
    record {
      layer = get_or d.style.layer (pos 0);
      fill = fill_rank for_labels d.style.is_foreground_fill;
      z_index = d.style.z_index;
      id = d.entity.id;
      stream = stream_rank d.multipolygon;
      place = d.place;
      styled = d.styled;
    }

unfoldable pub keys_of : Bool → Drawing → Gathered
keys_of for_labels (declined r) = stopped r
keys_of for_labels (entries ds) = gathered (map (key_for for_labels) ds)

-- ---- the order

fill_le_lem : (l f g : Bool) → leb (fill_rank l f) (fill_rank l g) ≡ bool_le (not l && f) (not l && g)
unfolding fill_rank bool_le pick
fill_le_lem true f g = refl
fill_le_lem false true true = refl
fill_le_lem false true false = refl
fill_le_lem false false true = refl
fill_le_lem false false false = refl

key_le_lem : (l : Bool) (a b : Drawn) → key_le (key_for l a) (key_for l b) ≡ not_after l a b
key_le_lem l a b =
    let f = a.style.is_foreground_fill in
    let g = b.style.is_foreground_fill in
    rw (fill_le_lem l f g, fill_le_lem l g f)

pub keys_sort : (l : Bool) (ds : List Drawn) → sort key_le (map (key_for l) ds) ≡ map (key_for l) (sort (not_after l) ds)
keys_sort l ds = sym (sort_map (key_for l) key_le ds) ∙ ap (λ le. map (key_for l) (sort le ds)) (λ i a b. key_le_lem l a b i)

-- ---- one entity

rank_told : (o : Option ℤ) → layer_rank (layer_told o) ≡ get_or o (pos 0)
unfolding layer_rank layer_told
rank_told none = refl
rank_told (some i) = refl

module _ (bundle : Bytes) (τ : Lent) (s : theory.Settings) (mp : Bool) (place : ℕ) (e : Entity) (base : Option (Map Value)) (t : List ℕ) where
  -- the style of layer i of the table
  abbrev style_at : ℕ → theory.Style
  style_at i = style_of s e base (properties_of bundle τ (numbers_at t i))

  abbrev styles_at : List ℕ → Map theory.Style
  styles_at is = map (map_entry (style_of s e base)) (map (valued bundle τ t) is)

  z_at : (i : ℕ) → z_of bundle τ.properties τ.numbers t e.kind i ≡ (style_at i).z_index
  unfolding style_from
  z_at i =
      let row = numbers_at t i in
      z_is (number_of τ.numbers (found bundle τ row (ascii "z-index"))) e.kind _ (number_at_lem bundle τ row (ascii "z-index"))

  nan_at : (is : List ℕ) → any_nan bundle τ.properties τ.numbers t e.kind is ≡ some_nan (styles_at is)
  unfolding any_nan some_nan pick
  nan_at [] = refl
  nan_at (i ∷ is) =
      ap₂ (λ (x : Float) b. pick (is_nan x) true b) (z_at i) (nan_at is)
      ∙ by-test (is_nan (style_at i).z_index) (λ h. rw h) (λ h. rw h)

  key_at_lem :
      (l : Bool) (k i : ℕ)
      → key_of bundle τ.properties τ.numbers l mp place e.kind e.id (layer_told (layer_tag e)) t k i
      ≡ key_for l
      (record { multipolygon = mp; place = place; entity = e; styled = k; layer = (valued bundle τ t i).key; style = style_at i })
  unfolding style_from
  key_at_lem l k i = rw (rank_told (layer_tag e), foreground_at bundle τ (numbers_at t i) (ascii "fill-position"), z_at i)

  keys_at_lem :
      (l : Bool) (k : ℕ) (is : List ℕ)
      → keys_from bundle τ.properties τ.numbers l mp place e.kind e.id (layer_told (layer_tag e)) t k is
      ≡ map (key_for l) (drawn_from mp place e k (styles_at is))
  unfolding keys_from drawn_from
  keys_at_lem l k [] = refl
  keys_at_lem l k (i ∷ is) = ap₂ (λ (x : Key) xs. x ∷ xs) (key_at_lem l k i) (rw add-one (keys_at_lem l (suc k) is))

-- from the walk's answer
pub entity_keys_lem :
    (bundle : Bytes) (τ : Lent) (s : Settings) (mp : Bool) (place : ℕ) (e : Entity) (x : Answered)
    → ((r : Refusal) (t : List ℕ) → x ≡ (Err r, t) → r ≡ of_entity r.number mp place)
    → keys_in bundle τ.selectors τ.properties τ.numbers s.for_labels mp place e.kind e.id
    (layer_told (layer_tag e)) x
    ≡ keys_of s.for_labels
    (entity_drawing mp (settings_shown s) place e
    (map_answer (value bundle τ []) (answer_held (name_at bundle τ.properties) (layer bundle τ []) x)))
unfolding keys_in keys_of entity_drawing styles pick
entity_keys_lem bundle τ s mp place e (Err r, t) h = ap stopped (h r t refl)
entity_keys_lem bundle τ s mp place e (Ok n, t) h =
    let v = map (valued bundle τ t) (places 0 n) in
    let base = lookup default_name v in
    let rows = styled_rows bundle τ.selectors t n in
    rw (
      layers_valued bundle τ t n,
      styled_rows_lem bundle τ t n,
      nan_at bundle τ (settings_shown s) mp place e base t rows,
      keys_at_lem bundle τ (settings_shown s) mp place e base t s.for_labels 0 rows,
    )
    (by-test (some_nan (styles_at bundle τ (settings_shown s) mp place e base t rows)) (λ p. rw p) (λ p. rw p))

-- ---- pushing

pub push_is :
    (l : Bool) (room : ℕ) (xs : List Drawn) (d : Drawing)
    → push room (map (key_for l) xs) (keys_of l d) ≡ keys_of l (join ◌++◌ (entries xs) (fit room (length xs) d))
unfolding push keys_of join fit pick
push_is l room xs (declined r) = refl
push_is l room xs (entries ys) =
    rw (length-map xs (key_for l), length-map ys (key_for l))
    (by-test (ltb room (length xs + length ys)) (λ p. rw p) (λ p. rw p (ap gathered (sym (map-append (key_for l) xs ys)))))
