-- Looking at a token: for each kind a choice by it.
use Rattle.std.specs.Prelude.{ℕ, Bool, true, false, cond, Float}
use Rattle.std.proofs.Math.Option.{Option, none, some}
use Rattle.color.specs.declared.Color.{Color}
use Rattle.grammar.specs.Token.{Name, Sign, Sign-discrete, Token, import, identifier, string, color_ref, number, zoom_range, color, sign}

abbrev pub decided : {A : Type 0} → Dec A → Bool
decided (yes a) = true
decided (no a) = false

unfoldable pub is_sign : Sign → Token → Bool
is_sign c (sign x) = decided (Sign-discrete x c)
is_sign c t = false

module _ {B : Type 0} where
  abbrev pub on_sign : Sign → Token → B → B → B
  on_sign c t f g = cond (is_sign c t) f g

  unfoldable pub on_import : Token → (Name → B) → B → B
  on_import (import x) f g = f x
  on_import t f g = g

  unfoldable pub on_identifier : Token → (Name → B) → B → B
  on_identifier (identifier x) f g = f x
  on_identifier t f g = g

  unfoldable pub on_string : Token → (Name → B) → B → B
  on_string (string x) f g = f x
  on_string t f g = g

  unfoldable pub on_color_ref : Token → (Name → B) → B → B
  on_color_ref (color_ref x) f g = f x
  on_color_ref t f g = g

  unfoldable pub on_number : Token → (Float → B) → B → B
  on_number (number x) f g = f x
  on_number t f g = g

  unfoldable pub on_zoom_range : Token → (Option ℕ → Option ℕ → B) → B → B
  on_zoom_range (zoom_range x y) f g = f x y
  on_zoom_range t f g = g

  unfoldable pub on_color : Token → (Color → B) → B → B
  on_color (color x) f g = f x
  on_color t f g = g

-- the colour that a token is, if it is one
unfoldable pub color_of : Token → Option Color
color_of t = on_color t some none
