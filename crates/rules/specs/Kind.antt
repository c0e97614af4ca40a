-- What is promised of colors blocks and names of object types.
use Rattle.std.specs.Prelude.{ℕ, ◌<◌, ◌≤◌, Option, Some, None, Result, Ok, Err}
use Rattle.base.specs.Bytes.{Bytes}
use Rattle.base.specs.declared.refusal.Refusal.{Refusal}
use Rattle.cursor.specs.declared.Cursor.{Cursor}
use Rattle.sheet.specs.Sheet.{ObjectType, all, canvas, meta, node, way, area}
use Rattle.grammar.specs.Reading.{id_to_object_type}
use Rattle.grammar.specs.Input.{Answer, refused, read, on_option}
use Rattle.grammar.specs.Reader.{skip_colors}
use Rattle.keep.specs.Lent.{Lent}
use Rattle.table.specs.declared.kind.ObjectKind.{ObjectKind}
use Rattle.table.specs.declared.kind.ObjectKind.TheVariants.{All, Canvas, Meta, Node, Way, Area}
use Rattle.keep.specs.Source.{reading}
use Rattle.input.specs.Source.{Spot, spot}
use Rattle.input.specs.Text.{left}
use Rattle.input.specs.declared.Source.{Source}

-- the object types as the code has them
abbrev pub kind_of : ObjectType → ObjectKind
kind_of all = All
kind_of canvas = Canvas
kind_of meta = Meta
kind_of node = Node
kind_of way = Way
kind_of area = Area

-- the object type that a name has, if any
unfoldable pub object_kind : Bytes → Option ObjectKind
object_kind a = on_option (id_to_object_type a) None λ y. Some (kind_of y)

-- ---- colors blocks

-- the answer is the reader's: its refusal, or its cursor, behind which no more than so many bytes are left
pub data Skips (bundle : Bytes) (s : Source) (bound : ℕ) (τ : Lent) : Result Cursor Refusal → Answer Unit Spot Lent Refusal → Type 0 where
  unskipped : {e : Refusal} → Skips bundle s bound τ (Err e) (refused e τ)
  skipped : (d : Cursor) → left bundle s d ≤ bound → Skips bundle s bound τ (Ok d) (read tt (spot s d) τ)

-- with any fuel that is enough
abbrev pub SkipsFrom : Bytes → Source → ℕ → Cursor → Result Cursor Refusal → Type 0
SkipsFrom bundle s bound c r = (τ : Lent) (k : ℕ) → left bundle s c < k → Skips bundle s bound τ r (skip_colors (reading bundle) k (spot s c) τ)

abbrev pub ColorsSkipped : Bytes → Source → Cursor → Result Cursor Refusal → Type 0
ColorsSkipped bundle s c r = SkipsFrom bundle s (left bundle s c) c r
