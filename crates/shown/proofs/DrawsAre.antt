-- The drawing lists that calls answer are the theory's.
use Prim.Native.Nat.{ℕ}
use mathlib.Core.Path.{◌≡◌, refl, sym, ◌∙◌, ap}
use mathlib.Core.Bool.{Bool, true, false}
use mathlib.Core.List.{List, [], ◌++◌, map, map-map, map-append, append-nil}
use lib.ListN.{length, length-map}
use lib.Seq.{take-append_seam, drop-append_seam}
use Rattle.base.specs.Choice.{pick}
use Rattle.entity.specs.Layout.{stream_of}
use Rattle.entity.specs.declared.Sort.TheVariants.{Nodes, Areas}
use Rattle.cascade.specs.Draw.{Drawn, Drawing, declined, entries, not_after, join, size}
use Rattle.cascade.proofs.DrawProof.{join_nil}
use Rattle.cascade.specs.Sort.{sort}
use Rattle.walk.proofs.WalkLaws.{rules_few}
use Rattle.order.specs.declared.Key.{Key}
use Rattle.order.specs.Keys.{key_le}
use Rattle.drawing.specs.Gather.{Gathered, stopped, gathered, on-Gathered, gather_of}
use Rattle.drawing.specs.Lists.{room_of, listed, ordered, nodes_of, areas_of}
use Rattle.shown.specs.Style.{settings_shown}
use Rattle.shown.specs.Draws.{stream_drawn, written, rules_of, NodesAre, AreasAre}
use Rattle.shown.proofs.DrawKeys.{key_for, keys_of, keys_sort}
use Rattle.shown.proofs.DrawStream.{stream_keys}

-- ---- the sort, and the words

module _ (l : Bool) where
  ordered_is :
      (ws ms : List Drawn)
      → ordered (length (map (key_for l) ws)) (map (key_for l) (ws ++ ms)) ≡ keys_of l (entries (sort (not_after l) (ms ++ ws)))
  unfolding keys_of
  ordered_is ws ms =
      let k = map (key_for l) in
      rw (map-append (key_for l) ws ms, drop-append_seam (k ws) (k ms), take-append_seam (k ws) (k ms))
      (ap gathered (ap (sort key_le) (sym (map-append (key_for l) ms ws)) ∙ keys_sort l (ms ++ ws)))

  nodes_sorted :
      (d : Drawing)
      → on-Gathered (keys_of l d) stopped (ordered 0) ≡ keys_of l (join (λ xs ys. sort (not_after l) xs) d (entries []))
  unfolding on-Gathered keys_of join
  nodes_sorted (declined r) = refl
  nodes_sorted (entries xs) = ap gathered (ap (sort key_le) (append-nil (map (key_for l) xs)) ∙ keys_sort l xs)

  listed_is : (len : ℕ) (d : Drawing) → listed len (keys_of l d) ≡ written len d
  unfolding listed keys_of written
  listed_is len (declined r) = refl
  listed_is len (entries ds) = simp (map-map, length-map)

  -- the multipolygons behind the ways
  behind :
      (ws : List Drawn) (d : Drawing)
      → on-Gathered (keys_of l (join ◌++◌ (entries ws) d)) stopped (ordered (length (map (key_for l) ws)))
      ≡ keys_of l (join (λ ws ms. sort (not_after l) (ms ++ ws)) (entries ws) d)
  unfolding on-Gathered keys_of join
  behind ws (declined r) = refl
  behind ws (entries ms) = ordered_is ws ms

  areas_sorted :
      (next : List Key → Gathered) (m : ℕ → Drawing)
      → ((ws : List Drawn) → next (map (key_for l) ws) ≡ keys_of l (join ◌++◌ (entries ws) (m (length ws))))
      → (d : Drawing)
      → on-Gathered (keys_of l d) stopped (λ ks. on-Gathered (next ks) stopped (ordered (length ks)))
      ≡ keys_of l (join (λ ws ms. sort (not_after l) (ms ++ ws)) d (m (size d)))
  unfolding on-Gathered keys_of join size
  areas_sorted next m h (declined r) = refl
  areas_sorted next m h (entries ws) = rw (h ws) (behind ws (m (length ws)))

-- ---- what was to be proved

pub nodes_are : NodesAre
unfolding nodes_of pick settings_shown
nodes_are bundle rules selectors tests properties numbers colors n zoom s len nodes sound =
    let l = s.for_labels in
    let few = rules_few bundle rules selectors tests properties numbers n sound in
    let rs = rules_of bundle rules selectors tests properties numbers colors n in
    let d = stream_drawn (room_of len) (settings_shown s) zoom rs false 0 (stream_of Nodes false nodes) in
    rw sound
    (ap (λ g. listed len (on-Gathered g stopped (ordered 0)))
    (stream_keys bundle rules selectors tests properties numbers colors n.rules zoom few s (room_of len) Nodes false nodes []
    ∙ ap (keys_of l) (join_nil d))
    ∙ ap (listed len) (nodes_sorted l d)
    ∙ listed_is l len _)

pub areas_are : AreasAre
unfolding areas_of pick settings_shown
areas_are bundle rules selectors tests properties numbers colors n zoom s len ways multipolygons sound =
    let l = s.for_labels in
    let few = rules_few bundle rules selectors tests properties numbers n sound in
    let rs = rules_of bundle rules selectors tests properties numbers colors n in
    let keys = stream_keys bundle rules selectors tests properties numbers colors n.rules zoom few s (room_of len) Areas in
    let next = gather_of bundle rules selectors tests properties numbers n.rules zoom l (room_of len) Areas true multipolygons in
    let d = stream_drawn (room_of len) (settings_shown s) zoom rs false 0 (stream_of Areas false ways) in
    let m : ℕ → Drawing = λ k. stream_drawn (room_of len) (settings_shown s) zoom rs true k (stream_of Areas true multipolygons) in
    rw sound
    (ap (λ g. listed len (on-Gathered g stopped (λ ks. on-Gathered (next ks) stopped (ordered (length ks)))))
    (keys false ways [] ∙ ap (keys_of l) (join_nil d))
    ∙ ap (listed len) (areas_sorted l next m (keys true multipolygons) d)
    ∙ listed_is l len _)
