-- What holds of both ways of a choice by a token holds of the choice.
use Rattle.std.specs.Prelude.{ℕ, ◌≡◌, true, false, Float}
use Rattle.std.proofs.Math.Path.{refl}
use Rattle.std.proofs.Common.{ap}
use Rattle.std.proofs.lemmas.Bool.{cond_both}
use Rattle.std.proofs.Math.Option.{Option}
use Rattle.base.specs.Choice.{clash}
use Rattle.color.specs.declared.Color.{Color}
use Rattle.grammar.specs.Token.{Name, Sign, Sign-discrete, Token, import, identifier, string, color_ref, number, zoom_range, color, sign}
use Rattle.grammar.specs.View.{decided, is_sign, on_sign, on_import, on_identifier, on_string, on_color_ref, on_number, on_zoom_range, on_color}

pub sign_is : (c : Sign) (t : Token) → is_sign c t ≡ true → t ≡ sign c
unfolding is_sign
sign_is c (sign x) e = go (Sign-discrete x c) e
  where
    go : (d : Dec (x ≡ c)) → decided d ≡ true → sign x ≡ sign c
    go (yes p) e = ap sign p
    go (no p) e = clash e refl
sign_is c t e = clash e refl

module _ {B : Type 0} (Q : B → Type 0) where
  pub sign_holds : (c : Sign) (t : Token) (f g : B) → (t ≡ sign c → Q f) → (is_sign c t ≡ false → Q g) → Q (on_sign c t f g)
  sign_holds c t f g hf hg = cond_both (is_sign c t) f g Q (λ e. hf (sign_is c t e)) hg

  pub import_holds : (t : Token) (f : Name → B) (g : B) → ((x : Name) → t ≡ import x → Q (f x)) → Q g → Q (on_import t f g)
  unfolding on_import
  import_holds (import x) f g hf hg = hf x refl
  import_holds t f g hf hg = hg

  pub identifier_holds : (t : Token) (f : Name → B) (g : B) → ((x : Name) → t ≡ identifier x → Q (f x)) → Q g → Q (on_identifier t f g)
  unfolding on_identifier
  identifier_holds (identifier x) f g hf hg = hf x refl
  identifier_holds t f g hf hg = hg

  pub string_holds : (t : Token) (f : Name → B) (g : B) → ((x : Name) → t ≡ string x → Q (f x)) → Q g → Q (on_string t f g)
  unfolding on_string
  string_holds (string x) f g hf hg = hf x refl
  string_holds t f g hf hg = hg

  pub color_ref_holds : (t : Token) (f : Name → B) (g : B) → ((x : Name) → t ≡ color_ref x → Q (f x)) → Q g → Q (on_color_ref t f g)
  unfolding on_color_ref
  color_ref_holds (color_ref x) f g hf hg = hf x refl
  color_ref_holds t f g hf hg = hg

  pub number_holds : (t : Token) (f : Float → B) (g : B) → ((x : Float) → t ≡ number x → Q (f x)) → Q g → Q (on_number t f g)
  unfolding on_number
  number_holds (number x) f g hf hg = hf x refl
  number_holds t f g hf hg = hg

  pub zoom_range_holds :
      (t : Token) (f : Option ℕ → Option ℕ → B) (g : B)
      → ((x : Option ℕ) (y : Option ℕ) → t ≡ zoom_range x y → Q (f x y))
      → Q g
      → Q (on_zoom_range t f g)
  unfolding on_zoom_range
  zoom_range_holds (zoom_range x y) f g hf hg = hf x y refl
  zoom_range_holds t f g hf hg = hg

  pub color_holds : (t : Token) (f : Color → B) (g : B) → ((x : Color) → t ≡ color x → Q (f x)) → Q g → Q (on_color t f g)
  unfolding on_color
  color_holds (color x) f g hf hg = hf x refl
  color_holds t f g hf hg = hg
