-- The style of a row is the theory's, field by field.
use Prim.Native.Nat.{ℕ, suc, ◌-◌}
use mathlib.Core.Path.{◌≡◌, refl, sym, ◌∙◌, ap, ap₂}
use mathlib.Core.Bool.{Bool, true, false, not, ◌&&◌}
use mathlib.Core.List.{List, [], ◌∷◌, ◌++◌, append_assoc}
use mathlib.Core.Option
use mathlib.Core.Option.{Option as Maybe, none, some}
use lib.Dec.{eqb, ltb}
use lib.Ieee.{Float, binary64, mul}
use lib.ListN.{length, take, drop}
use Rattle.std.proofs.Math.Dec.{leb-suc-suc}
use Rattle.base.specs.Bytes.{Bytes, ascii, same, within}
use native.Mathlib.Omega.{arith}
use borrow.Author.Tests.{eqb-true, eq-eqb, lt-ltb, not-true}
use Rattle.base.specs.Choice.{pick, by-test, clash, and_left, and_right}
use Rattle.base.specs.Map.{Map, lookup}
use Rattle.color.specs.Named.{Named, named_colors, first_named, color_named}
use Rattle.cascade.specs.Map.{and_map, or_else}
use Rattle.cascade.specs.Number.{whole}
use Rattle.cascade.specs.Style as theory
use Rattle.cascade.specs.Style.{named_color, as_color, as_number, as_identifier, as_text, as_dashes, as_delta, cap_names, position_names, is_background, width_of, style_from}
use Rattle.sheet.specs.Sheet.{Value, numbers}
use Rattle.table.specs.declared.Name.TheVariants.{Plain, Joined}
use Rattle.table.specs.declared.PropertyValue.TheVariants.{NoValue, Identifier, Numbers}
use Rattle.decode.specs.Decode.{name_at, value_of}
use Rattle.keep.specs.Lent.{Lent}
use Rattle.walk.specs.Rows.{place_of}
use Rattle.style.specs.Get.{property_in, name_color, color_of, one_of, number_of, delta_of, dashes_of, text_of, name_range, word_range, word_of, cap_named, position_named}
use Rattle.style.specs.Style.{default_z, z_index_of, casing_multiplier, base_width, casing_only, full_casing, multiplier_of, font_size, text_style_of, style_at}
use Rattle.base.specs.Option.{on_option}
use Rattle.style.specs.declared.Settings.{Settings}
use Rattle.style.specs.declared.StyleType.{StyleType}
use Rattle.style.specs.declared.StyleType.TheVariants.{Josm, MapsMe}
use Rattle.shown.specs.Style.{measure_shown, cap_shown, position_shown, type_shown, settings_shown, text_shown, dashes_shown, with_text, style_shown, properties_of, StyleIs}
use Rattle.std.specs.Prelude.{Option, Some, None}
use Rattle.table.specs.declared.Name.{Name}
use Rattle.table.specs.declared.PropertyValue.{PropertyValue}

-- ---- a name with a colon is none of the words

plain : Bytes → Bool
plain [] = true
plain (x ∷ xs) = not (eqb x 58) && plain xs

joined_differs : (a b w : Bytes) → plain w ≡ true → same (a ++ (58 ∷ b)) w ≡ false
unfolding same plain
joined_differs [] b [] p = refl
joined_differs [] b (y ∷ w) p =
    by-test (eqb 58 y)
    (λ e. clash (eq-eqb y 58 (sym (eqb-true 58 y e))) (not-true (eqb y 58) (and_left (not (eqb y 58)) (plain w) p)))
    (λ e. rw e)
joined_differs (x ∷ a) b [] p = refl
joined_differs (x ∷ a) b (y ∷ w) p =
    by-test (eqb x y)
    (λ e. rw e (joined_differs a b w (and_right (not (eqb y 58)) (plain w) p)))
    (λ e. rw e)

colon_differs : (a b w : Bytes) → plain w ≡ true → same (a ++ ascii ":" ++ b) w ≡ false
colon_differs a b w p = ap (λ x. same x w) (append_assoc a (58 ∷ []) b) ∙ joined_differs a b w p

all_plain : List Named → Bool
all_plain [] = true
all_plain (e ∷ es) = plain e.name && all_plain es

joined_no_color : (a b : Bytes) (es : List Named) → all_plain es ≡ true → first_named es (a ++ ascii ":" ++ b) ≡ None
unfolding first_named all_plain pick
joined_no_color a b [] p = refl
joined_no_color a b (e ∷ es) p =
    rw (colon_differs a b e.name (and_left (plain e.name) (all_plain es) p))
    (joined_no_color a b es (and_right (plain e.name) (all_plain es) p))

joined_unknown : (a b : Bytes) → color_named (a ++ ascii ":" ++ b) ≡ None
unfolding color_named all_plain plain
joined_unknown a b = joined_no_color a b named_colors refl

nothing_unknown : None ≡ color_named []
unfolding color_named first_named same pick
nothing_unknown = refl

ltb_suc : (a b : ℕ) → ltb (suc a) (suc b) ≡ ltb a b
ltb_suc a b = leb-suc-suc (suc a) b

-- ---- what a getter reads

abbrev pub shown : Option Float → Maybe Float
shown m = measure_shown m

one_is : (xs : List Float) → shown (one_of xs) ≡ as_number (some (numbers xs))
unfolding one_of measure_shown as_number
one_is [] = refl
one_is (x ∷ []) = refl
one_is (x ∷ y ∷ ys) = refl

cap_named_lem : (w : Bytes) → cap_shown (cap_named w) ≡ lookup w cap_names
unfolding cap_named cap_shown cap_names lookup pick
cap_named_lem w =
    by-test (same w (ascii "none"))
    (λ a. rw (a))
    (λ a.
    by-test (same w (ascii "butt"))
    (λ b. rw (a, b))
    (λ b.
    by-test (same w (ascii "round"))
    (λ c. rw (a, b, c))
    (λ c. by-test (same w (ascii "square")) (λ d. rw (a, b, c, d)) (λ d. rw (a, b, c, d)))))

position_named_lem : (w : Bytes) → position_shown (position_named w) ≡ lookup w position_names
unfolding position_named position_shown position_names lookup pick
position_named_lem w =
    by-test (same w (ascii "center"))
    (λ a. rw (a))
    (λ a. by-test (same w (ascii "line")) (λ b. rw (a, b)) (λ b. rw (a, b)))

cap_none : cap_shown (cap_named []) ≡ none
unfolding cap_named cap_shown same pick
cap_none = refl

position_none : position_shown (position_named []) ≡ none
unfolding position_named position_shown same pick
position_none = refl

no_cap : (a b : Bytes) → lookup (a ++ ascii ":" ++ b) cap_names ≡ none
unfolding cap_names lookup plain
no_cap a b =
    rw (
      colon_differs a b (ascii "none") refl,
      colon_differs a b (ascii "butt") refl,
      colon_differs a b (ascii "round") refl,
      colon_differs a b (ascii "square") refl,
    )

no_position : (a b : Bytes) → lookup (a ++ ascii ":" ++ b) position_names ≡ none
unfolding position_names lookup plain
no_position a b = rw (colon_differs a b (ascii "center") refl, colon_differs a b (ascii "line") refl)

module _ (bundle : Bytes) (τ : Lent) where
  unfoldable valued : Option PropertyValue → Maybe Value
  valued None = none
  valued (Some v) = some (value_of bundle τ v)

  color_is : (p : Option PropertyValue) → named_color (color_of bundle p) ≡ as_color (valued p)
  unfolding color_of name_color as_color valued named_color
  color_is (Some NoValue) = ap named_color nothing_unknown
  color_is (Some (Identifier (Joined a b))) = sym (ap named_color (joined_unknown (within a bundle) (within b bundle)))
  color_is p = refl

  number_is : (p : Option PropertyValue) → shown (number_of τ.numbers p) ≡ as_number (valued p)
  unfolding number_of measure_shown as_number valued
  number_is (Some (Identifier (Plain a))) = refl
  number_is (Some (Numbers r)) = one_is (take (r.to - r.from) (drop r.from τ.numbers))
  number_is p = refl

  delta_is : (p : Option PropertyValue) → shown (delta_of p) ≡ as_delta (valued p)
  unfolding delta_of measure_shown as_delta valued
  delta_is (Some (Identifier (Plain a))) = refl
  delta_is p = refl

  dashes_is : (p : Option PropertyValue) → dashes_shown bundle τ.numbers (dashes_of p) ≡ as_dashes (valued p)
  unfolding dashes_of dashes_shown as_dashes valued
  dashes_is (Some (Identifier (Plain a))) = refl
  dashes_is p = refl

  text_is : (p : Option PropertyValue) → text_shown bundle τ.numbers (text_of p) ≡ as_text (valued p)
  unfolding text_of text_shown as_text valued
  text_is (Some (Identifier (Plain a))) = refl
  text_is p = refl

  cap_is : (p : Option PropertyValue) → cap_shown (cap_named (word_of bundle p)) ≡ and_map (λ i. lookup i cap_names) (as_identifier (valued p))
  unfolding word_range name_range as_identifier valued and_map
  cap_is (Some NoValue) = cap_named_lem []
  cap_is (Some (Identifier (Plain a))) = cap_named_lem (within a bundle)
  cap_is (Some (Identifier (Joined a b))) = cap_none ∙ sym (no_cap (within a bundle) (within b bundle))
  cap_is p = cap_none

  position_is :
      (p : Option PropertyValue)
      → position_shown (position_named (word_of bundle p)) ≡ and_map (λ i. lookup i position_names) (as_identifier (valued p))
  unfolding word_range name_range as_identifier valued and_map
  position_is (Some NoValue) = position_named_lem []
  position_is (Some (Identifier (Plain a))) = position_named_lem (within a bundle)
  position_is (Some (Identifier (Joined a b))) = position_none ∙ sym (no_position (within a bundle) (within b bundle))
  position_is p = position_none

  background_is : (p : Option PropertyValue) → same (word_of bundle p) (ascii "background") ≡ is_background (as_identifier (valued p))
  unfolding word_range name_range as_identifier valued is_background same plain
  background_is (Some (Identifier (Joined a b))) = sym (colon_differs (within a bundle) (within b bundle) (ascii "background") refl)
  background_is p = refl

  -- ---- the property of a name

  abbrev pub found : List ℕ → Bytes → Option PropertyValue
  found row k = property_in bundle τ.properties τ.numbers row k

  found_is : (row : List ℕ) (k : Bytes) → valued (found row k) ≡ lookup k (properties_of bundle τ row)
  unfolding property_in valued lookup place_of pick
  found_is [] k = refl
  found_is (j ∷ js) k =
      by-test (same k (name_at bundle τ.properties j))
      (λ e. rw (property_in, place_of, e, lt-ltb 0 (length (j ∷ js)) (omega arith)))
      (λ e. rw (property_in, place_of, e, ltb_suc (place_of (name_at bundle τ.properties) js k) (length js)) (found_is js k))

  -- ---- fields that are computed

  abbrev pub read : List ℕ → Bytes → Maybe Value
  read row k = lookup k (properties_of bundle τ row)

  pub number_at_lem : (row : List ℕ) (k : Bytes) → shown (number_of τ.numbers (found row k)) ≡ as_number (read row k)
  number_at_lem row k = number_is (found row k) ∙ ap as_number (found_is row k)

  color_at_lem : (row : List ℕ) (k : Bytes) → named_color (color_of bundle (found row k)) ≡ as_color (read row k)
  color_at_lem row k = color_is (found row k) ∙ ap as_color (found_is row k)

  dashes_at : (row : List ℕ) (k : Bytes) → dashes_shown bundle τ.numbers (dashes_of (found row k)) ≡ as_dashes (read row k)
  dashes_at row k = dashes_is (found row k) ∙ ap as_dashes (found_is row k)

  text_at : (row : List ℕ) (k : Bytes) → text_shown bundle τ.numbers (text_of (found row k)) ≡ as_text (read row k)
  text_at row k = text_is (found row k) ∙ ap as_text (found_is row k)

  cap_at :
      (row : List ℕ) (k : Bytes)
      → cap_shown (cap_named (word_of bundle (found row k))) ≡ and_map (λ i. lookup i cap_names) (as_identifier (read row k))
  cap_at row k = cap_is (found row k) ∙ ap (λ o. and_map (λ i. lookup i cap_names) (as_identifier o)) (found_is row k)

  position_at :
      (row : List ℕ) (k : Bytes)
      → position_shown (position_named (word_of bundle (found row k))) ≡ and_map (λ i. lookup i position_names) (as_identifier (read row k))
  position_at row k = position_is (found row k) ∙ ap (λ o. and_map (λ i. lookup i position_names) (as_identifier o)) (found_is row k)

  pub foreground_at :
      (row : List ℕ) (k : Bytes)
      → not (same (word_of bundle (found row k)) (ascii "background")) ≡ not (is_background (as_identifier (read row k)))
  foreground_at row k = ap not (background_is (found row k) ∙ ap (λ o. is_background (as_identifier o)) (found_is row k))

pub present_or : (m : Option Float) (d : Float) → on_option m d (λ x. x) ≡ Option.get_or (shown m) d
unfolding on_option measure_shown
present_or None d = refl
present_or (Some x) d = refl

default_z_lem : (k : ℕ) → default_z k ≡ theory.default_z k
unfolding default_z theory.default_z pick
default_z_lem k = by-test (eqb k 0) (λ e. rw e) (λ e. by-test (eqb k 2) (λ f. rw (e, f)) (λ f. rw (e, f)))

pub z_is : (m : Option Float) (k : ℕ) (o : Maybe Float) → shown m ≡ o → z_index_of m k ≡ Option.get_or o (theory.default_z k)
unfolding z_index_of
z_is m k o e = present_or m (default_z k) ∙ ap₂ (λ x d. Option.get_or x d) e (default_z_lem k)

base_is : (m : Option Float) (d : Float) (o : Maybe Float) → shown m ≡ o → base_width m d ≡ Option.get_or o d
unfolding base_width
base_is m d o e = present_or m d ∙ ap (λ x. Option.get_or x d) e

multiplier_is : (t : StyleType) → casing_multiplier t ≡ theory.casing_multiplier (type_shown t)
unfolding casing_multiplier theory.casing_multiplier type_shown
multiplier_is Josm = refl
multiplier_is MapsMe = refl

only_is :
    (w : Float) (one delta : Option Float) (o : Maybe Value)
    → shown one ≡ as_number o
    → shown delta ≡ as_delta o
    → shown (casing_only w one delta) ≡ theory.casing_only w o
unfolding casing_only theory.casing_only on_option measure_shown or_else and_map
only_is w (Some x) delta o e f = rw (theory.casing_only, ← e)
only_is w None (Some d) o e f = rw (theory.casing_only, ← e, ← f)
only_is w None None o e f = rw (theory.casing_only, ← e, ← f)

full_is : (k w : Float) (m : Option Float) (o : Maybe Float) → shown m ≡ o → shown (full_casing k w m) ≡ theory.full_casing k w o
unfolding full_casing theory.full_casing on_option measure_shown and_map
full_is k w (Some x) o e = rw (theory.full_casing, ← e)
full_is k w None o e = rw (theory.full_casing, ← e)

font_is :
    (m : Option Float) (s : Settings) (o : Maybe Float)
    → shown m ≡ o
    → shown (font_size m s)
    ≡ and_map (λ x. some (mul binary64 x (Option.get_or (settings_shown s).font_multiplier (whole 1)))) o
unfolding font_size multiplier_of settings_shown on_option measure_shown and_map
font_is (Some x) s o e = rw (← e) (ap (λ k. some (mul binary64 x k)) (present_or s.font_multiplier (whole 1)))
font_is None s o e = rw (← e) refl

module _ (bundle : Bytes) (τ : Lent) (row : List ℕ) where
  abbrev m : Map Value
  m = properties_of bundle τ row

  label_is :
      (x : Option Name) (o : Maybe Bytes) (s : Settings)
      → text_shown bundle τ.numbers x ≡ o
      → with_text bundle τ.numbers (text_style_of bundle τ.properties τ.numbers row x s)
      ≡ and_map (λ t. some (theory.text_of (settings_shown s) m t)) o
  unfolding text_style_of text_shown with_text and_map theory.text_of
  label_is None o s e = rw (← e)
  label_is (Some (Plain a)) o s e =
      rw (
        ← e,
        color_at_lem bundle τ row (ascii "text-color"),
        position_at bundle τ row (ascii "text-position"),
        font_is (number_of τ.numbers (found bundle τ row (ascii "font-size"))) s _ (number_at_lem bundle τ row (ascii "font-size")),
      )
  label_is (Some (Joined a b)) o s e =
      rw (
        ← e,
        color_at_lem bundle τ row (ascii "text-color"),
        position_at bundle τ row (ascii "text-position"),
        font_is (number_of τ.numbers (found bundle τ row (ascii "font-size"))) s _ (number_at_lem bundle τ row (ascii "font-size")),
      )

pub style_is : StyleIs
unfolding style_shown style_at style_from settings_shown
style_is bundle τ row kind layer width s =
    let num = number_at_lem bundle τ row in
    let col = color_at_lem bundle τ row in
    let w = base_is (number_of τ.numbers (found bundle τ row (ascii "width"))) width _ (num (ascii "width")) in
    rw (
      z_is (number_of τ.numbers (found bundle τ row (ascii "z-index"))) kind _ (num (ascii "z-index")),
      col (ascii "color"),
      col (ascii "fill-color"),
      foreground_at bundle τ row (ascii "fill-position"),
      col (ascii "background-color"),
      num (ascii "opacity"),
      num (ascii "fill-opacity"),
      w,
      num (ascii "width"),
      dashes_at bundle τ row (ascii "dashes"),
      cap_at bundle τ row (ascii "linecap"),
      col (ascii "casing-color"),
      full_is _ _ _ _
          (only_is (Option.get_or (width_of (properties_of bundle τ row)) width) _ _ _ (num (ascii "casing-width"))
          (delta_is bundle τ (found bundle τ row (ascii "casing-width"))
          ∙ ap as_delta (found_is bundle τ row (ascii "casing-width")))),
      multiplier_is s.style_type,
      dashes_at bundle τ row (ascii "casing-dashes"),
      cap_at bundle τ row (ascii "casing-linecap"),
      text_at bundle τ row (ascii "icon-image"),
      text_at bundle τ row (ascii "fill-image"),
      label_is bundle τ row (text_of (found bundle τ row (ascii "text"))) _ s (text_at bundle τ row (ascii "text")),
    )
