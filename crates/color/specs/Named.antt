-- The ten colours that have a name.
use Rattle.std.specs.Prelude.{ℕ, List, [], ◌∷◌, Option, Some, None}
use Rattle.std.specs.Borrow.{Bor}
use Rattle.base.specs.Bytes.{Bytes, ascii, same}
use Rattle.base.specs.Choice.{pick}
use Rattle.color.specs.declared.Color.{Color}

abbrev pub rgb : ℕ → ℕ → ℕ → Color
rgb r g b = record { r = r; g = g; b = b }

pub record Named : Type 0 where
  pub name : Bytes
  pub color : Color

abbrev pub named : Bytes → Color → Named
named n c = record { name = n; color = c }

-- an entry of the code's table
abbrev pub row : Bor Bytes × ℕ × ℕ × ℕ → Named
row e = named e.0.now (rgb e.1 e.2 e.3)

abbrev pub named_colors : List Named
named_colors =
    named (ascii "white") (rgb 255 255 255)
    ∷ named (ascii "black") (rgb 0 0 0)
    ∷ named (ascii "blue") (rgb 0 0 255)
    ∷ named (ascii "brown") (rgb 165 42 42)
    ∷ named (ascii "green") (rgb 0 255 0)
    ∷ named (ascii "grey") (rgb 128 128 128)
    ∷ named (ascii "pink") (rgb 255 192 203)
    ∷ named (ascii "purple") (rgb 128 0 128)
    ∷ named (ascii "red") (rgb 255 0 0)
    ∷ named (ascii "salmon") (rgb 250 128 114)
    ∷ []

-- the colour of the first entry with a name
unfoldable pub first_named : List Named → Bytes → Option Color
first_named [] n = None
first_named (e ∷ es) n = pick (same n e.name) (Some e.color) (first_named es n)

unfoldable pub color_named : Bytes → Option Color
color_named n = first_named named_colors n
