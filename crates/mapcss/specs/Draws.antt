-- What holds of the drawing lists and the canvas colour beside every loaded sheet: for every bundle, every six lengths of the tables,
-- every zoom, all settings, every list and all streams, which may be any bytes.
use Rattle.std.specs.Prelude.{ℕ, ◌≡◌, Bool, true, false, List, ◌++◌, map, length, Option, Result, Ok}
use Rattle.std.proofs.Math.Option.{none}
use Rattle.base.specs.Bytes.{Bytes}
use Rattle.base.specs.Table.{padded, flat}
use Rattle.entity.specs.Layout.{stream_of}
use Rattle.entity.specs.declared.Sort.TheVariants.{Nodes, Areas}
use Rattle.sheet.specs.Digits.{digits_for}
use Rattle.cascade.specs.Canvas.{canvas_fill_color}
use Rattle.cascade.specs.Draw.{Drawn, entries, stream, Ordered}
use Rattle.cascade.specs.Style.{named_color}
use Rattle.grammar.specs.Rules.{rules_of_reading}
use Rattle.keep.specs.Encode.{Lengths}
use Rattle.parser.specs.Load.{Held}
use Rattle.parser.specs.declared.Counts.{Counts}
use Rattle.printing.specs.Plate.{five_of}
use Rattle.style.specs.declared.Settings.{Settings}
use Rattle.style.specs.declared.StyleType.{StyleType}
use Rattle.canvas.specs.Canvas.{canvas_of}
use Rattle.canvas.specs.Shown.{type_shown}
use Rattle.drawing.specs.Lists.{room_of, nodes_of, areas_of}
use Rattle.shown.specs.Draws.{nodes_drawn, areas_drawn, drawn_words, written}
use Rattle.shown.specs.Style.{settings_shown}
use Rattle.mapcss.specs.Loads.{Loads}
use Rattle.base.specs.declared.refusal.Refusal.{Refusal}
use Rattle.color.specs.declared.Color.{Color}

-- the calls, with the tables, the counts and the bundle of a load, and a list of so many words
module _ (bundle : Bytes) (n : Counts) (h : Held) where
  abbrev pub nodes_call : ℕ → Settings → ℕ → Bytes → Result ℕ Refusal × List ℕ
  nodes_call zoom s len nodes =
      nodes_of bundle h.rules h.selectors h.tests h.properties h.numbers (five_of n) zoom s len nodes

  abbrev pub areas_call : ℕ → Settings → ℕ → Bytes → Bytes → Result ℕ Refusal × List ℕ
  areas_call zoom s len ways multipolygons =
      areas_of bundle h.rules h.selectors h.tests h.properties h.numbers (five_of n) zoom s len ways multipolygons

  abbrev pub canvas_call : StyleType → Result (Option Color) Refusal
  canvas_call t = canvas_of bundle h.rules h.selectors h.tests h.properties h.numbers (five_of n) t

-- The answer and every word of the list are those of the theory's drawing list over the rules of the sheet, as far as there is room.
abbrev pub NodesOfSheet : Type 0
NodesOfSheet =
    (bundle : Bytes) (l : Lengths) (n : Counts) (h : Held) (r : Loads bundle l n h) (zoom : ℕ) (s : Settings) (len : ℕ) (nodes : Bytes)
    → nodes_call bundle n h zoom s len nodes
    ≡ written len
    (nodes_drawn (room_of len) (settings_shown s) zoom (rules_of_reading digits_for r.js) (stream_of Nodes false nodes))

abbrev pub AreasOfSheet : Type 0
AreasOfSheet =
    (bundle : Bytes) (l : Lengths) (n : Counts) (h : Held) (r : Loads bundle l n h) (zoom : ℕ) (s : Settings) (len : ℕ)
    (ways multipolygons : Bytes)
    → areas_call bundle n h zoom s len ways multipolygons
    ≡ written len
    (areas_drawn (room_of len) (settings_shown s) zoom (rules_of_reading digits_for r.js) (stream_of Areas false ways)
    (stream_of Areas true multipolygons))

-- The canvas colour is that of the rules; there is no refusal.
abbrev pub CanvasOfSheet : Type 0
CanvasOfSheet =
    (bundle : Bytes) (l : Lengths) (n : Counts) (h : Held) (r : Loads bundle l n h) (t : StyleType)
    → (c : Option Color)
    × ((canvas_call bundle n h t ≡ Ok c) × (named_color c ≡ canvas_fill_color (type_shown t) (rules_of_reading digits_for r.js)))

-- What a list that is not refused holds, beside all the styled layers as the streams give them: the entries of a stable sort, each as
-- three words, then zeros.
pub record Listing (for_labels : Bool) (given : List Drawn) (len count : ℕ) (words : List ℕ) : Type 0 where
  pub drawn : List Drawn
  pub ordered : Ordered for_labels given drawn
  pub counted : count ≡ length drawn
  pub spelled : words ≡ padded 0 len (flat (map drawn_words drawn))

-- A list of nodes that is not refused: all bytes of its stream are entities, and it holds every styled layer of each, in drawing order.
abbrev pub NodesOrdered : Type 0
NodesOrdered =
    (bundle : Bytes) (l : Lengths) (n : Counts) (h : Held) (r : Loads bundle l n h) (zoom : ℕ) (s : Settings) (len : ℕ) (nodes : Bytes)
    (count : ℕ) (words : List ℕ)
    → nodes_call bundle n h zoom s len nodes ≡ (Ok count, words)
    → ((stream_of Nodes false nodes).stopped ≡ none)
    × (given : List Drawn)
    × (stream false (settings_shown s) zoom (rules_of_reading digits_for r.js) 0 (stream_of Nodes false nodes).entities ≡ entries given)
    × Listing s.for_labels given len count words

-- A list of areas likewise; of layers that tie, those of multipolygons come first.
abbrev pub AreasOrdered : Type 0
AreasOrdered =
    (bundle : Bytes) (l : Lengths) (n : Counts) (h : Held) (r : Loads bundle l n h) (zoom : ℕ) (s : Settings) (len : ℕ)
    (ways multipolygons : Bytes) (count : ℕ) (words : List ℕ)
    → areas_call bundle n h zoom s len ways multipolygons ≡ (Ok count, words)
    → ((stream_of Areas false ways).stopped ≡ none)
    × ((stream_of Areas true multipolygons).stopped ≡ none)
    × (ofWays : List Drawn)
    × (ofMultipolygons : List Drawn)
    × (stream false (settings_shown s) zoom (rules_of_reading digits_for r.js) 0 (stream_of Areas false ways).entities ≡ entries ofWays)
    × (stream true (settings_shown s) zoom (rules_of_reading digits_for r.js) 0 (stream_of Areas true multipolygons).entities
    ≡ entries ofMultipolygons)
    × Listing s.for_labels (ofMultipolygons ++ ofWays) len count words
