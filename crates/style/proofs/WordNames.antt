-- The names of line caps and of positions of a text, read byte by byte.
use mathlib.Core.Path.{◌≡◌, refl}
use Rattle.std.specs.Prelude.{Some, None}
use Rattle.base.specs.Bytes.{Bytes, ascii, same}
use Rattle.base.specs.Choice.{pick}
use Rattle.base.proofs.Spelled.{Spelled, spelled, missed}
use Rattle.style.specs.Get.{cap_named, position_named}
use Rattle.style.specs.declared.LineCap.TheVariants.{Butt, Round, Square}
use Rattle.style.specs.declared.TextPosition.TheVariants.{Center, Line}

pub none_read : (s : Bytes) → Spelled s (ascii "none") (Some Butt ≡ cap_named s)
unfolding cap_named same pick
none_read s = spelled cap_named s (ascii "none")

pub butt_read : (s : Bytes) → Spelled s (ascii "butt") (Some Butt ≡ cap_named s)
unfolding cap_named same pick
butt_read s = spelled cap_named s (ascii "butt")

pub round_read : (s : Bytes) → Spelled s (ascii "round") (Some Round ≡ cap_named s)
unfolding cap_named same pick
round_read s = spelled cap_named s (ascii "round")

pub square_read : (s : Bytes) → Spelled s (ascii "square") (Some Square ≡ cap_named s)
unfolding cap_named same pick
square_read s = spelled cap_named s (ascii "square")

-- every other word
pub no_cap :
    (s : Bytes)
    → Spelled s (ascii "none") ⊥
    → Spelled s (ascii "butt") ⊥
    → Spelled s (ascii "round") ⊥
    → Spelled s (ascii "square") ⊥
    → None ≡ cap_named s
unfolding cap_named pick
no_cap s n b r q =
    rw (
      missed s (ascii "none") n,
      missed s (ascii "butt") b,
      missed s (ascii "round") r,
      missed s (ascii "square") q,
    ) refl

pub ruleset caps = (none_read, butt_read, round_read, square_read, no_cap)

pub center_read : (s : Bytes) → Spelled s (ascii "center") (Some Center ≡ position_named s)
unfolding position_named same pick
center_read s = spelled position_named s (ascii "center")

pub line_read : (s : Bytes) → Spelled s (ascii "line") (Some Line ≡ position_named s)
unfolding position_named same pick
line_read s = spelled position_named s (ascii "line")

pub no_position :
    (s : Bytes)
    → Spelled s (ascii "center") ⊥
    → Spelled s (ascii "line") ⊥
    → None ≡ position_named s
unfolding position_named pick
no_position s c l = rw (missed s (ascii "center") c, missed s (ascii "line") l) refl

pub ruleset positions = (center_read, line_read, no_position)
