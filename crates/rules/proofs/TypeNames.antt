-- The names of object types, read byte by byte.
use mathlib.Core.Path.{◌≡◌, refl}
use Rattle.std.specs.Prelude.{Some, None}
use Rattle.base.specs.Bytes.{Bytes, ascii, same}
use Rattle.base.proofs.Spelled.{Spelled, spelled, missed}
use Rattle.grammar.specs.Reading.{id_to_object_type}
use Rattle.grammar.specs.Input.{on_option}
use Rattle.table.specs.declared.kind.ObjectKind.TheVariants.{All, Canvas, Meta, Node, Way, Area}
use Rattle.rules.specs.Kind.{object_kind}

pub star_read : (s : Bytes) → Spelled s (ascii "*") (Some All ≡ object_kind s)
unfolding object_kind id_to_object_type on_option same
star_read s = spelled object_kind s (ascii "*")

pub canvas_read : (s : Bytes) → Spelled s (ascii "canvas") (Some Canvas ≡ object_kind s)
unfolding object_kind id_to_object_type on_option same
canvas_read s = spelled object_kind s (ascii "canvas")

pub meta_read : (s : Bytes) → Spelled s (ascii "meta") (Some Meta ≡ object_kind s)
unfolding object_kind id_to_object_type on_option same
meta_read s = spelled object_kind s (ascii "meta")

pub node_read : (s : Bytes) → Spelled s (ascii "node") (Some Node ≡ object_kind s)
unfolding object_kind id_to_object_type on_option same
node_read s = spelled object_kind s (ascii "node")

pub way_read : (s : Bytes) → Spelled s (ascii "way") (Some Way ≡ object_kind s)
unfolding object_kind id_to_object_type on_option same
way_read s = spelled object_kind s (ascii "way")

pub line_read : (s : Bytes) → Spelled s (ascii "line") (Some Way ≡ object_kind s)
unfolding object_kind id_to_object_type on_option same
line_read s = spelled object_kind s (ascii "line")

pub area_read : (s : Bytes) → Spelled s (ascii "area") (Some Area ≡ object_kind s)
unfolding object_kind id_to_object_type on_option same
area_read s = spelled object_kind s (ascii "area")

-- every other name
pub no_type :
    (s : Bytes)
    → Spelled s (ascii "*") ⊥
    → Spelled s (ascii "canvas") ⊥
    → Spelled s (ascii "meta") ⊥
    → Spelled s (ascii "node") ⊥
    → Spelled s (ascii "way") ⊥
    → Spelled s (ascii "line") ⊥
    → Spelled s (ascii "area") ⊥
    → None ≡ object_kind s
unfolding object_kind id_to_object_type on_option
no_type s h0 h1 h2 h3 h4 h5 h6 =
    rw (
      missed s (ascii "*") h0,
      missed s (ascii "canvas") h1,
      missed s (ascii "meta") h2,
      missed s (ascii "node") h3,
      missed s (ascii "way") h4,
      missed s (ascii "line") h5,
      missed s (ascii "area") h6,
    ) refl

pub ruleset types = (star_read, canvas_read, meta_read, node_read, way_read, line_read, area_read, no_type)
