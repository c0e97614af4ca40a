-- A drawing list that is not refused: what a stream gives within its room is what it gives without a bound, and the list is its sort.
use Prim.Native.Nat.{ℕ, suc, ◌+◌}
use mathlib.Core.Path.{◌≡◌, refl, sym, ap, ◌∙◌}
use mathlib.Core.Bool.{Bool, true, false}
use mathlib.Core.List.{List, [], ◌∷◌, ◌++◌, map, append-nil}
use mathlib.Core.Option.{Option, none, some}
use lib.Dec.{ltb}
use lib.ListN.{length}
use Rattle.base.specs.Choice.{by-test, different}
use Rattle.base.specs.Entity.{Entity}
use Rattle.base.specs.Table.{padded, flat}
use Rattle.base.specs.declared.refusal.Refusal.{Refusal}
use Rattle.entity.specs.Layout.{Stream, stream_of}
use Rattle.entity.specs.declared.Sort.TheVariants.{Nodes, Areas}
use Rattle.sheet.specs.Sheet.{Rule, Value}
use Rattle.sheet.specs.Digits.{digits_for}
use Rattle.cascade.specs.Draw.{Drawn, Drawing, declined, entries, not_after, entity_drawing, join, stream, fit, size, stream_within}
use Rattle.cascade.proofs.DrawProof.{joined, entities_ordered, areas_ordered}
use Rattle.cascade.specs.Sort.{sort}
use Rattle.cascade.specs.Style as theory
use Rattle.cascade.specs.Walk.{property_maps}
use Rattle.grammar.specs.Rules.{rules_of_reading}
use Rattle.drawing.specs.Lists.{room_of}
use Rattle.shown.specs.Draws.{ended, stream_drawn, nodes_drawn, areas_drawn, drawn_words, written}
use Rattle.shown.specs.Style.{settings_shown}
use Rattle.mapcss.specs.Draws.{NodesOrdered, AreasOrdered}
use Rattle.mapcss.proofs.Draws.{nodes_of_sheet, areas_of_sheet}
use Rattle.std.specs.Prelude.{Ok}

join_entries :
    (f : List Drawn → List Drawn → List Drawn) (a b : Drawing) (xs ys ds : List Drawn)
    → a ≡ entries xs
    → b ≡ entries ys
    → ds ≡ f xs ys
    → join f a b ≡ entries ds
unfolding join
join_entries f a b xs ys ds p q r = rw (p, q, r)

fit_entries : (room n : ℕ) (d : Drawing) (xs : List Drawn) → fit room n d ≡ entries xs → d ≡ entries xs
unfolding fit
fit_entries room n (declined r) xs p = p
fit_entries room n (entries ys) xs p =
    by-test (ltb room (n + length ys))
    (λ h. let q = rw h at p in different cc)
    (λ h. rw h at p)

ended_entries : (o : Option Refusal) (xs : List Drawn) → ended o ≡ entries xs → xs ≡ []
unfolding ended
ended_entries none xs p = cc
ended_entries (some r) xs p = different cc

ended_none : (o : Option Refusal) (xs : List Drawn) → ended o ≡ entries xs → o ≡ none
unfolding ended
ended_none none xs p = refl
ended_none (some r) xs p = different cc

module _ (room : ℕ) (mp : Bool) (s : theory.Settings) (z : ℕ) (rs : List (Rule Value)) where
  within_stream :
      (n i : ℕ) (es : List Entity) (xs : List Drawn)
      → stream_within room mp s z rs n i es ≡ entries xs
      → stream mp s z rs i es ≡ entries xs
  unfolding stream_within stream
  within_stream n i [] xs p = p
  within_stream n i (e ∷ es) xs p =
      let d = entity_drawing mp s i e (property_maps z e rs) in
      let m = n + size (fit room n d) in
      let j = joined ◌++◌ (fit room n d) (stream_within room mp s z rs m (suc i) es) xs p in
      join_entries ◌++◌ d (stream mp s z rs (suc i) es) j.0 j.1 xs (fit_entries room n d j.0 j.2)
      (within_stream m (suc i) es j.1 j.3) j.4

  drawn_stream :
      (n : ℕ) (es : Stream) (xs : List Drawn)
      → stream_drawn room s z rs mp n es ≡ entries xs
      → stream mp s z rs 0 es.entities ≡ entries xs
  drawn_stream n es xs p =
      let j = joined ◌++◌ (stream_within room mp s z rs n 0 es.entities) (ended es.stopped) xs p in
      let e = ended_entries es.stopped j.1 j.3 in
      within_stream n 0 es.entities j.0 j.2 ∙ ap entries (sym (j.4 ∙ (rw (e, append-nil))))

  drawn_whole : (n : ℕ) (es : Stream) (xs : List Drawn) → stream_drawn room s z rs mp n es ≡ entries xs → es.stopped ≡ none
  drawn_whole n es xs p =
      let j = joined ◌++◌ (stream_within room mp s z rs n 0 es.entities) (ended es.stopped) xs p in
      ended_none es.stopped j.1 j.3

written_entries :
    (len : ℕ) (d : Drawing) (count : ℕ) (words : List ℕ)
    → written len d ≡ (Ok count, words)
    → (ds : List Drawn) × (d ≡ entries ds) × (count ≡ length ds) × (words ≡ padded 0 len (flat (map drawn_words ds)))
unfolding written
written_entries len (declined r) count words p = let q = ap (λ x. x.0) p in different cc
written_entries len (entries ds) count words p =
    let q = ap (λ x. x.0) p in
    (ds, refl, cc, sym (ap (λ x. x.1) p))

pub nodes_ordered_of_sheet : NodesOrdered
unfolding settings_shown
nodes_ordered_of_sheet bundle l n h r zoom s len nodes count words p =
    let t = settings_shown s in
    let rs = rules_of_reading digits_for r.js in
    let es = stream_of Nodes false nodes in
    let w =
    written_entries len (nodes_drawn (room_of len) t zoom rs es) count words
    (sym (nodes_of_sheet bundle l n h r zoom s len nodes) ∙ p) in
    let f : List Drawn → List Drawn → List Drawn = λ xs ys. sort (not_after t.for_labels) xs in
    let j = joined f (stream_drawn (room_of len) t zoom rs false 0 es) (entries []) w.0 w.1 in
    let q = drawn_stream (room_of len) false t zoom rs 0 es j.0 j.2 in
    let o =
    entities_ordered t zoom rs es.entities w.0
    (join_entries f (stream false t zoom rs 0 es.entities) (entries []) j.0 [] w.0 q refl j.4) in
    let v = drawn_whole (room_of len) false t zoom rs 0 es j.0 j.2 in
    (v, o.0, o.1, record { drawn = w.0; ordered = o.2; counted = w.2; spelled = w.3 })

pub areas_ordered_of_sheet : AreasOrdered
unfolding settings_shown
areas_ordered_of_sheet bundle l n h r zoom s len ways multipolygons count words p =
    let t = settings_shown s in
    let rs = rules_of_reading digits_for r.js in
    let es = stream_of Areas false ways in
    let fs = stream_of Areas true multipolygons in
    let a = stream_drawn (room_of len) t zoom rs false 0 es in
    let b = stream_drawn (room_of len) t zoom rs true (size a) fs in
    let w =
    written_entries len (areas_drawn (room_of len) t zoom rs es fs) count words
    (sym (areas_of_sheet bundle l n h r zoom s len ways multipolygons) ∙ p) in
    let f : List Drawn → List Drawn → List Drawn = λ ws ms. sort (not_after t.for_labels) (ms ++ ws) in
    let j = joined f a b w.0 w.1 in
    let x = drawn_stream (room_of len) false t zoom rs 0 es j.0 j.2 in
    let y = drawn_stream (room_of len) true t zoom rs (size a) fs j.1 j.3 in
    let o =
    areas_ordered t zoom rs es.entities fs.entities w.0
    (join_entries f (stream false t zoom rs 0 es.entities) (stream true t zoom rs 0 fs.entities) j.0 j.1 w.0 x y
    j.4) in
    let u = drawn_whole (room_of len) false t zoom rs 0 es j.0 j.2 in
    let v = drawn_whole (room_of len) true t zoom rs (size a) fs j.1 j.3 in
    (u, v, o.0, o.1, o.2, o.3, record { drawn = w.0; ordered = o.4; counted = w.2; spelled = w.3 })
