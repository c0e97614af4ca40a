-- The property maps beside a loaded sheet, from the walk over tables and the theory.
use mathlib.Core.Path.{◌≡◌, sym, ap, ◌∙◌}
use mathlib.Core.List.{map, map-map}
use Rattle.base.specs.Bytes.{Bytes}
use Rattle.cascade.proofs.MeaningProof.{demand_2}
use Rattle.cascade.specs.Numbered.{map_rule, map_answer}
use Rattle.cascade.proofs.NumberedLaws.{maps_mapped}
use Rattle.cascade.specs.Walk.{property_maps}
use Rattle.entity.specs.Layout.{value_of}
use Rattle.grammar.specs.Rules.{rules_of_reading}
use Rattle.sheet.specs.Digits.{digits_for}
use Rattle.parser.specs.Load.{Held}
use Rattle.parser.specs.declared.Counts.{Counts}
use Rattle.decode.specs.Decode.{places, numbered_at, rules_at}
use Rattle.maps.proofs.Held.{maps_are}
use Rattle.printing.specs.Plate.{five_of}
use Rattle.mapcss.specs.Loads.{spelled_by}
use Rattle.mapcss.specs.Maps.{value_numbered, maps_answered, MapsOfSheet, CascadeOfSheet}
use Rattle.mapcss.proofs.Loading.{exactly, never_broken, rules_spelled}

-- the rules with values are the rules with numbers, each number its value
numbered_spelled :
    (bundle : Bytes) (n : Counts) (h : Held)
    → map (map_rule (value_numbered bundle n h)) (map (numbered_at bundle h.rules h.selectors h.tests h.properties h.numbers) (places 0 n.rules))
    ≡ spelled_by bundle n h
unfolding rules_at
numbered_spelled bundle n h = simp (map-map)

pub maps_of_sheet : MapsOfSheet
maps_of_sheet bundle l n h s zoom entity e q =
    let f = value_numbered bundle n h in
    let rs = map (numbered_at bundle h.rules h.selectors h.tests h.properties h.numbers) (places 0 n.rules) in
    ap (map_answer f)
    (maps_are bundle h.rules h.selectors h.tests h.properties h.numbers (five_of n) zoom entity e
    (never_broken bundle l n h ((exactly bundle l n h).1 s).0) q)
    ∙ sym (maps_mapped f zoom (value_of entity e) rs)
    ∙ ap (property_maps zoom (value_of entity e)) (numbered_spelled bundle n h ∙ rules_spelled bundle l n h s)

pub cascade_of_sheet : CascadeOfSheet
cascade_of_sheet bundle l n h s zoom entity e k t q w =
    demand_2 zoom (value_of entity e) (rules_of_reading digits_for s.js) _
    (sym (maps_of_sheet bundle l n h s zoom entity e q) ∙ ap (maps_answered bundle n h) w)
