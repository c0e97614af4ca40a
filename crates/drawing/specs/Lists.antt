-- The drawing lists of nodes and of areas: 22, then the streams, then the sort; three words an entry, zeros behind them.
use Rattle.std.specs.Prelude.{ℕ, ◌/◌, min, true, false, List, [], ◌∷◌, ◌++◌, map, Float, length, take, drop, replicate, Result, Ok, Err}
use Rattle.base.specs.Bytes.{Bytes}
use Rattle.base.specs.Choice.{pick}
use Rattle.base.specs.Refusal.{refusal}
use Rattle.base.specs.Table.{padded, flat}
use Rattle.entity.specs.declared.Sort.TheVariants.{Nodes, Areas}
use Rattle.table.specs.Value.{word}
use Rattle.valid.specs.Valid.{tables_sound}
use Rattle.valid.specs.declared.Counts.{Counts}
use Rattle.cascade.specs.Sort.{sort}
use Rattle.style.specs.declared.Settings.{Settings}
use Rattle.order.specs.declared.Key.{Key}
use Rattle.order.specs.Keys.{key_at, key_le}
use Rattle.drawing.specs.Gather.{Gathered, stopped, gathered, on-Gathered, gather_of}
use Rattle.base.specs.declared.refusal.Refusal.{Refusal}

-- the entries that a list of so many words takes
unfoldable pub room_of : ℕ → ℕ
room_of len = min 4096 (len / 3)

-- stream, place in it, place among the entity's styled layers
abbrev pub entry_words : Key → List ℕ
entry_words k = word k.stream ∷ word k.place ∷ word k.styled ∷ []

-- the entry of key i
abbrev pub entry_at : List Key → ℕ → List ℕ
entry_at keys i = entry_words (key_at keys i)

abbrev pub entries_of : List Key → List ℕ
entries_of ks = flat (map entry_words ks)

-- the answer and the list, of so many words
unfoldable pub listed : ℕ → Gathered → Result ℕ Refusal × List ℕ
listed len (stopped r) = (Err r, replicate len 0)
listed len (gathered ks) = (Ok (length ks), padded 0 len (entries_of ks))

-- in drawing order; of those that tie the multipolygons, which were gathered behind the first `ways`, come first
abbrev pub ordered : ℕ → List Key → Gathered
ordered ways ks = gathered (sort key_le (drop ways ks ++ take ways ks))

module _
    (bundle : Bytes) (rules selectors tests properties : List ℕ) (numbers : List Float) (n : Counts) (zoom : ℕ) (s : Settings)
    (len : ℕ) where
  unfoldable pub nodes_of : Bytes → Result ℕ Refusal × List ℕ
  nodes_of nodes =
      listed len
      (pick (tables_sound rules selectors tests properties numbers n (length bundle))
      (on-Gathered
      (gather_of bundle rules selectors tests properties numbers n.rules zoom s.for_labels (room_of len) Nodes false nodes [])
      stopped (ordered 0))
      (stopped (refusal 22 0 0 0 0)))

  unfoldable pub areas_of : Bytes → Bytes → Result ℕ Refusal × List ℕ
  areas_of ways multipolygons =
      listed len
      (pick (tables_sound rules selectors tests properties numbers n (length bundle))
      (on-Gathered
      (gather_of bundle rules selectors tests properties numbers n.rules zoom s.for_labels (room_of len) Areas false ways [])
      stopped λ ws.
      on-Gathered
      (gather_of bundle rules selectors tests properties numbers n.rules zoom s.for_labels (room_of len) Areas true multipolygons ws)
      stopped (ordered (length ws)))
      (stopped (refusal 22 0 0 0 0)))
