-- What the getters of property_map_to_style read from the value of a layer's property.
use Rattle.std.specs.Prelude.{ℕ, ◌-◌, List, [], ◌∷◌, ltb, Float, get_or, take, drop, length, Option, Some, None}
use Rattle.base.specs.Bytes.{Bytes, ascii, same, within}
use Rattle.base.specs.Choice.{pick}
use Rattle.base.specs.declared.Range.{Range}
use Rattle.color.specs.Named.{color_named}
use Rattle.table.specs.Value.{value_at}
use Rattle.table.specs.declared.Name.{Name}
use Rattle.table.specs.declared.Name.TheVariants.{Plain, Joined}
use Rattle.table.specs.declared.PropertyValue.{PropertyValue}
use Rattle.table.specs.declared.PropertyValue.TheVariants.{NoValue, Identifier, Text, Shade, Numbers, WidthDelta}
use Rattle.decode.specs.Decode.{name_at}
use Rattle.walk.specs.Rows.{place_of}
use Rattle.style.specs.declared.LineCap.{LineCap}
use Rattle.style.specs.declared.LineCap.TheVariants.{Butt, Round, Square}
use Rattle.style.specs.declared.TextPosition.{TextPosition}
use Rattle.style.specs.declared.TextPosition.TheVariants.{Center, Line}
use Rattle.color.specs.declared.Color.{Color}

-- the value of the property of this name in a row of property numbers
unfoldable pub property_in : Bytes → List ℕ → List Float → List ℕ → Bytes → Option PropertyValue
property_in bundle properties numbers row name =
    let i = place_of (name_at bundle properties) row name in
    pick (ltb i (length row)) (Some (value_at properties numbers (get_or row i 0))) None

-- no name with a colon is a colour's
unfoldable pub name_color : Bytes → Name → Option Color
name_color bundle (Plain a) = color_named (within a bundle)
name_color bundle (Joined a b) = None

-- a colour, or an identifier that names one
unfoldable pub color_of : Bytes → Option PropertyValue → Option Color
color_of bundle (Some (Identifier n)) = name_color bundle n
color_of bundle (Some (Shade c)) = Some c
color_of bundle p = None

-- one number
unfoldable pub one_of : List Float → Option Float
one_of [] = None
one_of (x ∷ []) = Some x
one_of (x ∷ y ∷ ys) = None

unfoldable pub number_of : List Float → Option PropertyValue → Option Float
number_of numbers (Some (Numbers r)) = one_of (take (r.to - r.from) (drop r.from numbers))
number_of numbers p = None

unfoldable pub delta_of : Option PropertyValue → Option Float
delta_of (Some (WidthDelta x)) = Some x
delta_of p = None

unfoldable pub dashes_of : Option PropertyValue → Option Range
dashes_of (Some (Numbers r)) = Some r
dashes_of p = None

-- an identifier or a string; a kind that is not known stands for an identifier of no bytes, as where rules are read from tables
unfoldable pub text_of : Option PropertyValue → Option Name
text_of (Some NoValue) = Some (Plain (record { from = 0; to = 0 }))
text_of (Some (Identifier n)) = Some n
text_of (Some (Text a)) = Some (Plain a)
text_of p = None

abbrev pub no_range : Range
no_range = record { from = 0; to = 0 }

-- where an identifier of one part stands, which may be a keyword; no keyword has two parts
unfoldable pub name_range : Name → Range
name_range (Plain a) = a
name_range (Joined a b) = no_range

unfoldable pub word_range : Option PropertyValue → Range
word_range (Some (Identifier n)) = name_range n
word_range p = no_range

abbrev pub word_of : Bytes → Option PropertyValue → Bytes
word_of bundle p = within (word_range p) bundle

unfoldable pub cap_named : Bytes → Option LineCap
cap_named w =
    pick (same w (ascii "none")) (Some Butt)
    (pick (same w (ascii "butt")) (Some Butt)
    (pick (same w (ascii "round")) (Some Round)
    (pick (same w (ascii "square")) (Some Square) None)))

unfoldable pub position_named : Bytes → Option TextPosition
position_named w = pick (same w (ascii "center")) (Some Center) (pick (same w (ascii "line")) (Some Line) None)
