-- Drawing lists and canvas colour beside a loaded sheet.
use mathlib.Core.Path.{◌≡◌, refl, ap, ◌∙◌}
use mathlib.Core.Bool.{true, false}
use lib.ListN.{length}
use Rattle.base.specs.Bytes.{Bytes}
use Rattle.base.specs.Choice.{pick}
use Rattle.entity.specs.Layout.{stream_of}
use Rattle.entity.specs.declared.Sort.TheVariants.{Nodes, Areas}
use Rattle.cascade.specs.Canvas.{canvas_fill_color}
use Rattle.keep.specs.Encode.{Lengths}
use Rattle.decode.specs.Decode.{places, rules_at}
use Rattle.parser.specs.Load.{Held}
use Rattle.parser.specs.declared.Counts.{Counts}
use Rattle.printing.specs.Plate.{five_of}
use Rattle.valid.specs.Valid.{tables_sound}
use Rattle.canvas.specs.Canvas.{canvas_name, rules_color, canvas_of}
use Rattle.canvas.specs.Shown.{type_shown}
use Rattle.canvas.proofs.Shown.{canvas_is_rules}
use Rattle.drawing.specs.Lists.{room_of}
use Rattle.shown.specs.Draws.{nodes_drawn, areas_drawn, written}
use Rattle.shown.specs.Style.{settings_shown}
use Rattle.shown.proofs.DrawsAre.{nodes_are, areas_are}
use Rattle.mapcss.specs.Draws.{canvas_call, NodesOfSheet, AreasOfSheet, CanvasOfSheet}
use Rattle.mapcss.specs.Loads.{tallied, Loads}
use Rattle.mapcss.proofs.Loading.{exactly, never_broken, rules_spelled}
use Rattle.std.specs.Prelude.{Ok}

sound_load :
    (bundle : Bytes) (l : Lengths) (n : Counts) (h : Held)
    → Loads bundle l n h
    → tables_sound h.rules h.selectors h.tests h.properties h.numbers (five_of n) (length bundle) ≡ true
sound_load bundle l n h r = never_broken bundle l n h ((exactly bundle l n h).1 r).0

pub nodes_of_sheet : NodesOfSheet
unfolding rules_at
nodes_of_sheet bundle l n h r zoom s len nodes =
    nodes_are bundle h.rules h.selectors h.tests h.properties h.numbers h.colors (five_of n) zoom s len nodes
    (sound_load bundle l n h r)
    ∙ ap (λ rs. written len (nodes_drawn (room_of len) (settings_shown s) zoom rs (stream_of Nodes false nodes))) (rules_spelled bundle l n h r)

pub areas_of_sheet : AreasOfSheet
unfolding rules_at
areas_of_sheet bundle l n h r zoom s len ways multipolygons =
    areas_are bundle h.rules h.selectors h.tests h.properties h.numbers h.colors (five_of n) zoom s len ways multipolygons
    (sound_load bundle l n h r)
    ∙ ap
    (λ rs.
    written len
    (areas_drawn (room_of len) (settings_shown s) zoom rs (stream_of Areas false ways) (stream_of Areas true multipolygons)))
    (rules_spelled bundle l n h r)

pub canvas_of_sheet : CanvasOfSheet
unfolding canvas_of pick
canvas_of_sheet bundle l n h r t =
    let s = sound_load bundle l n h r in
    let c = rules_color bundle h.rules h.selectors h.properties h.numbers (canvas_name t) (places 0 n.rules) in
    let q : canvas_call bundle n h t ≡ Ok c = rw s in
    let d =
    canvas_is_rules bundle h.rules h.selectors h.tests h.properties h.numbers (five_of n) t c (tallied n) h.colors refl s q in
    (c, (q, d ∙ ap (canvas_fill_color (type_shown t)) (rules_spelled bundle l n h r)))
