-- A styled layer in numbers: 52 words, 6 floats and the tag `layer`. crates/capi/src/lib.rt has them as a table.
use Rattle.std.specs.Prelude.{ℕ, Bool, true, false, List, [], ◌∷◌, ◌++◌, ℤ, pos, Float, Option, Some, None}
use Rattle.base.specs.Table.{zero_float}
use Rattle.table.specs.declared.Name.TheVariants.{Plain, Joined}
use Rattle.style.specs.declared.LineCap.{LineCap}
use Rattle.style.specs.declared.LineCap.TheVariants.{Butt, Round, Square}
use Rattle.style.specs.declared.TextPosition.{TextPosition}
use Rattle.style.specs.declared.TextStyle.{TextStyle}
use Rattle.style.specs.declared.TextPosition.TheVariants.{Center, Line}
use Rattle.styles.specs.declared.StyledLayer.{StyledLayer}
use Rattle.color.specs.declared.Color.{Color}
use Rattle.base.specs.declared.Range.{Range}
use Rattle.table.specs.declared.Name.{Name}

abbrev pub flag : Bool → ℕ
flag true = 1
flag false = 0

-- 1 where there is something, else 0
abbrev pub has : {A : Type 0} → Option A → ℕ
has None = 0
has (Some x) = 1

-- the number, and 0 where there is none
abbrev pub float_number : Option Float → Float
float_number None = zero_float
float_number (Some x) = x

unfoldable pub cap_number : Option LineCap → ℕ
cap_number None = 0
cap_number (Some Butt) = 1
cap_number (Some Round) = 2
cap_number (Some Square) = 3

unfoldable pub position_number : Option TextPosition → ℕ
position_number None = 0
position_number (Some Center) = 1
position_number (Some Line) = 2

abbrev pub layer_number : Option ℤ → ℤ
layer_number None = pos 0
layer_number (Some i) = i

-- whether it is there, and its bytes
unfoldable pub color_numbers : Option Color → List ℕ
color_numbers None = 0 ∷ 0 ∷ 0 ∷ 0 ∷ []
color_numbers (Some c) = 1 ∷ c.r ∷ c.g ∷ c.b ∷ []

-- whether they are there, and their range
unfoldable pub dash_numbers : Option Range → List ℕ
dash_numbers None = 0 ∷ 0 ∷ 0 ∷ []
dash_numbers (Some r) = 1 ∷ r.from ∷ r.to ∷ []

-- how many ranges, and these
unfoldable pub text_numbers : Option Name → List ℕ
text_numbers None = 0 ∷ 0 ∷ 0 ∷ 0 ∷ 0 ∷ []
text_numbers (Some (Plain a)) = 1 ∷ a.from ∷ a.to ∷ 0 ∷ 0 ∷ []
text_numbers (Some (Joined a b)) = 2 ∷ a.from ∷ a.to ∷ b.from ∷ b.to ∷ []

-- the text and what belongs to it, where there is one
abbrev pub text : Option TextStyle → Option Name
text None = None
text (Some t) = Some t.text

abbrev pub text_color : Option TextStyle → Option Color
text_color None = None
text_color (Some t) = t.text_color

abbrev pub text_position : Option TextStyle → Option TextPosition
text_position None = None
text_position (Some t) = t.text_position

abbrev pub font_size : Option TextStyle → Option Float
font_size None = None
font_size (Some t) = t.font_size

unfoldable pub scalars : StyledLayer → List ℕ
scalars x =
    let s = x.style in
    x.selector
    ∷ has s.layer
    ∷ flag s.is_foreground_fill
    ∷ has s.opacity
    ∷ has s.fill_opacity
    ∷ has s.width
    ∷ has s.casing_width
    ∷ has (font_size s.text_style)
    ∷ cap_number s.line_cap
    ∷ cap_number s.casing_line_cap
    ∷ position_number (text_position s.text_style)
    ∷ []

abbrev pub row_words : StyledLayer → List ℕ
row_words x =
    let s = x.style in
    scalars x
    ++ (color_numbers s.color
    ++ (color_numbers s.fill_color
    ++ (color_numbers s.background_color
    ++ (color_numbers s.casing_color
    ++ (color_numbers (text_color s.text_style)
    ++ (dash_numbers s.dashes
    ++ (dash_numbers s.casing_dashes
    ++ (text_numbers s.icon_image ++ (text_numbers s.fill_image ++ text_numbers (text s.text_style))))))))))

unfoldable pub row_floats : StyledLayer → List Float
row_floats x =
    let s = x.style in
    s.z_index
    ∷ float_number s.opacity
    ∷ float_number s.fill_opacity
    ∷ float_number s.width
    ∷ float_number s.casing_width
    ∷ float_number (font_size s.text_style)
    ∷ []

abbrev pub row_layer : StyledLayer → ℤ
row_layer x = layer_number x.style.layer
