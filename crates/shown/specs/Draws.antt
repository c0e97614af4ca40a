-- The drawing lists that calls answer are the theory's, with room for so many entries, over streams that may be any bytes.
use Rattle.std.specs.Prelude.{ℕ, ◌≡◌, Bool, true, false, List, [], ◌∷◌, ◌++◌, map, Float, length, replicate, Result, Ok, Err}
use Rattle.std.proofs.Math.Option.{Option, none, some}
use Rattle.base.specs.Bytes.{Bytes}
use Rattle.base.specs.Table.{padded, flat}
use Rattle.base.specs.declared.refusal.Refusal.{Refusal}
use Rattle.entity.specs.Layout.{Stream, stream_of}
use Rattle.entity.specs.declared.Sort.TheVariants.{Nodes, Areas}
use Rattle.sheet.specs.Sheet.{Rule, Value}
use Rattle.table.specs.Value.{word}
use Rattle.cascade.specs.Draw.{Drawn, Drawing, declined, entries, not_after, join, size, stream_within}
use Rattle.cascade.specs.Sort.{sort}
use Rattle.cascade.specs.Style as theory
use Rattle.valid.specs.Valid.{tables_sound}
use Rattle.valid.specs.declared.Counts.{Counts}
use Rattle.decode.specs.Decode.{rules_at}
use Rattle.keep.specs.Lent.{lent, counted}
use Rattle.style.specs.declared.Settings.{Settings}
use Rattle.drawing.specs.Gather.{stream_rank}
use Rattle.drawing.specs.Lists.{room_of, nodes_of, areas_of}
use Rattle.shown.specs.Style.{settings_shown}

-- the refusal that ends a stream of bytes, behind all its entities
unfoldable pub ended : Option Refusal → Drawing
ended none = entries []
ended (some r) = declined r

module _ (room : ℕ) (s : theory.Settings) (zoom : ℕ) (rs : List (Rule Value)) where
  -- a stream, where n entries are taken
  abbrev pub stream_drawn : Bool → ℕ → Stream → Drawing
  stream_drawn mp n es = join ◌++◌ (stream_within room mp s zoom rs n 0 es.entities) (ended es.stopped)

  abbrev pub nodes_drawn : Stream → Drawing
  nodes_drawn nodes = join (λ xs ys. sort (not_after s.for_labels) xs) (stream_drawn false 0 nodes) (entries [])

  -- ways are judged before multipolygons; of entries that tie the multipolygons come first
  abbrev pub areas_drawn : Stream → Stream → Drawing
  areas_drawn ways multipolygons =
      let ws = stream_drawn false 0 ways in
      join (λ ws ms. sort (not_after s.for_labels) (ms ++ ws)) ws (stream_drawn true (size ws) multipolygons)

-- an entry as three words: stream, place in it, place among the entity's styled layers
abbrev pub drawn_words : Drawn → List ℕ
drawn_words d = word (stream_rank d.multipolygon) ∷ word d.place ∷ word d.styled ∷ []

-- the answer, and the list of so many words: the entries, then zeros; all zero after a refusal
unfoldable pub written : ℕ → Drawing → Result ℕ Refusal × List ℕ
written len (declined r) = (Err r, replicate len 0)
written len (entries ds) = (Ok (length ds), padded 0 len (flat (map drawn_words ds)))

module _
    (bundle : Bytes) (rules selectors tests properties : List ℕ) (numbers : List Float) (colors : List ℕ) (n : Counts) where
  abbrev pub rules_of : List (Rule Value)
  rules_of = rules_at bundle (lent (counted n.rules) rules selectors tests properties numbers colors)

-- For tables that pass their check, and any streams.
abbrev pub NodesAre : Type 0
NodesAre =
    (bundle : Bytes) (rules selectors tests properties : List ℕ) (numbers : List Float) (colors : List ℕ) (n : Counts) (zoom : ℕ)
    (s : Settings) (len : ℕ) (nodes : Bytes)
    → tables_sound rules selectors tests properties numbers n (length bundle) ≡ true
    → nodes_of bundle rules selectors tests properties numbers n zoom s len nodes
    ≡ written len
    (nodes_drawn (room_of len) (settings_shown s) zoom (rules_of bundle rules selectors tests properties numbers colors n)
    (stream_of Nodes false nodes))

abbrev pub AreasAre : Type 0
AreasAre =
    (bundle : Bytes) (rules selectors tests properties : List ℕ) (numbers : List Float) (colors : List ℕ) (n : Counts) (zoom : ℕ)
    (s : Settings) (len : ℕ) (ways multipolygons : Bytes)
    → tables_sound rules selectors tests properties numbers n (length bundle) ≡ true
    → areas_of bundle rules selectors tests properties numbers n zoom s len ways multipolygons
    ≡ written len
    (areas_drawn (room_of len) (settings_shown s) zoom (rules_of bundle rules selectors tests properties numbers colors n)
    (stream_of Areas false ways) (stream_of Areas true multipolygons))
