-- Every row has 52 words and 6 floats; its parts stored are the row.
use Prim.Native.Nat.{ℕ, ◌+◌}
use mathlib.Core.Path.{◌≡◌, refl, ◌∙◌}
use mathlib.Core.List.{List, ◌++◌}
use native.Mathlib.Omega.{arith}
use lib.ListN.{length, length-append}
use Rattle.base.specs.Table.{stored}
use Rattle.table.specs.declared.Name.TheVariants.{Plain, Joined}
use Rattle.styles.specs.declared.StyledLayer.{StyledLayer}
use Rattle.style.specs.declared.Style.{Style}
use Rattle.style_rows.proofs.RowLaws.{put_all}
use Rattle.style_rows.specs.Rows.{color_numbers, dash_numbers, text_numbers, text, text_color, scalars, row_words, row_floats}
use Rattle.std.specs.Prelude.{Option, Some, None}
use Rattle.color.specs.declared.Color.{Color}
use Rattle.base.specs.declared.Range.{Range}
use Rattle.table.specs.declared.Name.{Name}

pub color_width : (c : Option Color) → length (color_numbers c) ≡ 4
unfolding color_numbers
color_width None = refl
color_width (Some c) = refl

pub dash_width : (d : Option Range) → length (dash_numbers d) ≡ 3
unfolding dash_numbers
dash_width None = refl
dash_width (Some r) = refl

pub text_width : (t : Option Name) → length (text_numbers t) ≡ 5
unfolding text_numbers
text_width None = refl
text_width (Some (Plain a)) = refl
text_width (Some (Joined a b)) = refl

pub scalars_width : (x : StyledLayer) → length (scalars x) ≡ 11
unfolding scalars
scalars_width x = refl

both : {m n : ℕ} (xs ys : List ℕ) → length xs ≡ m → length ys ≡ n → length (xs ++ ys) ≡ m + n
both xs ys p q = length-append xs ys ∙ omega arith

module _ (x : StyledLayer) where
  abbrev s : Style
  s = x.style

  -- the parts of a row from the second on, from the third on, to the last
  abbrev r10 : List ℕ
  r10 = text_numbers (text s.text_style)

  abbrev r9 : List ℕ
  r9 = text_numbers s.fill_image ++ r10

  abbrev r8 : List ℕ
  r8 = text_numbers s.icon_image ++ r9

  abbrev r7 : List ℕ
  r7 = dash_numbers s.casing_dashes ++ r8

  abbrev r6 : List ℕ
  r6 = dash_numbers s.dashes ++ r7

  abbrev r5 : List ℕ
  r5 = color_numbers (text_color s.text_style) ++ r6

  abbrev r4 : List ℕ
  r4 = color_numbers s.casing_color ++ r5

  abbrev r3 : List ℕ
  r3 = color_numbers s.background_color ++ r4

  abbrev r2 : List ℕ
  r2 = color_numbers s.fill_color ++ r3

  abbrev r1 : List ℕ
  r1 = color_numbers s.color ++ r2

  pub words_width : length (row_words x) ≡ 52
  words_width =
      both (scalars x) r1 (scalars_width x)
      (both (color_numbers s.color) r2 (color_width s.color)
      (both (color_numbers s.fill_color) r3 (color_width s.fill_color)
      (both (color_numbers s.background_color) r4 (color_width s.background_color)
      (both (color_numbers s.casing_color) r5 (color_width s.casing_color)
      (both (color_numbers (text_color s.text_style)) r6 (color_width (text_color s.text_style))
      (both (dash_numbers s.dashes) r7 (dash_width s.dashes)
      (both (dash_numbers s.casing_dashes) r8 (dash_width s.casing_dashes)
      (both (text_numbers s.icon_image) r9 (text_width s.icon_image)
      (both (text_numbers s.fill_image) r10 (text_width s.fill_image)
      (text_width (text s.text_style)))))))))))

  -- a row's eleven parts, stored one after the other
  pub row_stored :
      (t : List ℕ) (at : ℕ) {t1 t2 t3 t4 t5 t6 t7 t8 t9 t10 t11 : List ℕ}
      → t1 ≡ stored t at (scalars x)
      → t2 ≡ stored t1 (at + 11) (color_numbers x.style.color)
      → t3 ≡ stored t2 (at + 15) (color_numbers x.style.fill_color)
      → t4 ≡ stored t3 (at + 19) (color_numbers x.style.background_color)
      → t5 ≡ stored t4 (at + 23) (color_numbers x.style.casing_color)
      → t6 ≡ stored t5 (at + 27) (color_numbers (text_color x.style.text_style))
      → t7 ≡ stored t6 (at + 31) (dash_numbers x.style.dashes)
      → t8 ≡ stored t7 (at + 34) (dash_numbers x.style.casing_dashes)
      → t9 ≡ stored t8 (at + 37) (text_numbers x.style.icon_image)
      → t10 ≡ stored t9 (at + 42) (text_numbers x.style.fill_image)
      → t11 ≡ stored t10 (at + 47) (text_numbers (text x.style.text_style))
      → t11 ≡ stored t at (row_words x)
  row_stored t at e1 e2 e3 e4 e5 e6 e7 e8 e9 e10 e11 =
      put_all _ at (at + 11) 11 (scalars x) r1 (scalars_width x) e1 (omega arith)
      (put_all _ (at + 11) (at + 15) 4 (color_numbers s.color) r2 (color_width s.color) e2 (omega arith)
      (put_all _ (at + 15) (at + 19) 4 (color_numbers s.fill_color) r3 (color_width s.fill_color) e3 (omega arith)
      (put_all _ (at + 19) (at + 23) 4 (color_numbers s.background_color) r4 (color_width s.background_color) e4 (omega arith)
      (put_all _ (at + 23) (at + 27) 4 (color_numbers s.casing_color) r5 (color_width s.casing_color) e5 (omega arith)
      (put_all _ (at + 27) (at + 31) 4 (color_numbers (text_color s.text_style)) r6 (color_width (text_color s.text_style)) e6 (omega arith)
      (put_all _ (at + 31) (at + 34) 3 (dash_numbers s.dashes) r7 (dash_width s.dashes) e7 (omega arith)
      (put_all _ (at + 34) (at + 37) 3 (dash_numbers s.casing_dashes) r8 (dash_width s.casing_dashes) e8 (omega arith)
      (put_all _ (at + 37) (at + 42) 5 (text_numbers s.icon_image) r9 (text_width s.icon_image) e9 (omega arith)
      (put_all _ (at + 42) (at + 47) 5 (text_numbers s.fill_image) r10 (text_width s.fill_image) e10 (omega arith)
      e11)))))))))

pub floats_width : (x : StyledLayer) → length (row_floats x) ≡ 6
unfolding row_floats
floats_width x = refl
