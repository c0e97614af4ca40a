-- Laws of the two lists, one for each way through the code, over plain lists and numbers.
use Prim.Native.Nat.{ℕ, ◌+◌, ◌-◌, ◌≤◌}
use mathlib.Core.Path.{◌≡◌, sym, ◌∙◌, subst, ap, ap₂}
use mathlib.Core.Bool.{Bool, true, false}
use mathlib.Core.List.{List, [], ◌++◌}
use native.Mathlib.Omega.{arith}
use lib.Ieee.{Float}
use lib.ListN.{length, take, drop, replicate, length-append, length-replicate, take-append-drop}
use lib.Seq.{length-take-le}
use Rattle.base.specs.Bytes.{Bytes}
use Rattle.base.specs.Choice.{pick}
use Rattle.base.specs.Refusal.{refusal}
use Rattle.base.specs.Table.{padded}
use Rattle.base.specs.declared.refusal.Refusal.{Refusal}
use Rattle.entity.specs.declared.Sort.{Sort}
use Rattle.entity.specs.declared.Sort.TheVariants.{Nodes, Areas}
use Rattle.valid.specs.Valid.{tables_sound}
use Rattle.valid.specs.declared.Counts.{Counts}
use Rattle.cascade.specs.Sort.{sort}
use Rattle.style.specs.declared.Settings.{Settings}
use Rattle.order.specs.declared.Key.{Key}
use Rattle.order.specs.Keys.{key_le}
use borrow.Rule.Slice.PartMut.{put_mid, same_len_mid}
use Rattle.drawing.specs.Gather.{IsBounded, Gathered, stopped, gathered, on-Gathered, gather_of}
use Rattle.drawing.specs.Lists.{room_of, entries_of, listed, ordered, nodes_of, areas_of}
use Rattle.drawing.proofs.GatherLaws as gather
use Rattle.drawing.proofs.StreamLaws.{behind, gather_behind}
use Rattle.drawing.proofs.ListLaws.{length_sort}
use Rattle.drawing.specs.declared.Drawing.{Drawing}
use Rattle.std.specs.Prelude.{Result, Ok, Err}

-- what a Drawing gathers
abbrev pub gathered_by : ℕ → Sort → Bool → Bytes → List Key → Drawing → Gathered
gathered_by room sort multipolygons s ks d =
    gather_of d.tables.now.bundle.now d.tables.now.rules.now d.tables.now.selectors.now d.tables.now.tests.now
    d.tables.now.properties.now d.tables.now.numbers.now d.total d.zoom d.for_labels room sort multipolygons s ks

-- a list of zeros, of so many words
pub zeros : (len : ℕ) (z : List ℕ) → z ≡ replicate len 0 → length z ≡ len → z ≡ replicate (length z) 0
zeros len z e h = e ∙ sym (ap (λ n. replicate n 0) h)

-- the first n of 4096
pub part_length : {A : Type 0} (z : A) (n : ℕ) → n ≤ 4096 → length (take n (replicate 4096 z)) ≡ n
part_length z n h = length-take-le n (replicate 4096 z) (rw (length-replicate 4096 z) h)

-- what a gather counts is there
pub counted_within : (t u : List Key) (r : Result ℕ Refusal) (n : ℕ) → IsBounded (length t) r → r ≡ Ok n → length u ≡ length t → n ≤ length u
counted_within t u r n b e l = let d = subst (IsBounded (length t)) e b in omega arith

-- a second gather, behind the first w of the keys
module _ (keys : List Key) (w : ℕ) (h : w ≤ length keys) where
  abbrev rest : List Key
  rest = take (length keys - w) (drop w keys)

  pub gathered_behind :
      (sort : Sort) (multipolygons : Bool) (s : Bytes) (d e : Drawing)
      → d ≡ e
      → behind (take w keys) (gathered_by (length rest) sort multipolygons s [] d)
      ≡ gathered_by (length keys) sort multipolygons s (take w keys) e
  gathered_behind sort multipolygons s d e q =
      gather_behind (take w keys) (length keys) (length rest)
      (omega (arith, length-take-le w keys h, gather.part_length keys w h))
      d.tables.now.bundle.now d.tables.now.rules.now d.tables.now.selectors.now d.tables.now.tests.now
      d.tables.now.properties.now d.tables.now.numbers.now d.total d.zoom d.for_labels sort multipolygons s
      ∙ ap (gathered_by (length keys) sort multipolygons s (take w keys)) q

  pub both_long :
      (us : List Key) (m : ℕ)
      → m ≤ length us
      → length us ≡ length rest
      → length (take (w + m) (put_mid w (length keys - w) keys us)) ≡ w + m
  both_long us m b e =
      length-take-le (w + m) (put_mid w (length keys - w) keys us)
      (omega (arith, b, e, same_len_mid w (length keys - w) keys us e, gather.part_length keys w h))

-- ---- the answer and the list

abbrev no_list : Refusal → List ℕ → Result ℕ Refusal × List ℕ
no_list r u = (Err r, u)

abbrev is_list : ℕ → List ℕ → Result ℕ Refusal × List ℕ
is_list k u = (Ok k, u)

turned_length : (w : ℕ) (ks : List Key) → length (drop w ks ++ take w ks) ≡ length ks
turned_length w ks =
    length-append (drop w ks) (take w ks)
    ∙ omega (arith, length-append (take w ks) (drop w ks), ap length (take-append-drop w ks))

list_is :
    (len len' w k : ℕ) (ks : List Key) (u : List ℕ)
    → len' ≡ len
    → length ks ≡ k
    → u ≡ padded 0 len' (entries_of (sort key_le (drop w ks ++ take w ks)))
    → is_list k u ≡ listed len (ordered w ks)
unfolding listed
list_is len len' w k ks u e l q =
    ap₂ is_list
    (sym (length_sort key_le (drop w ks ++ take w ks) ∙ turned_length w ks ∙ l))
    (q ∙ ap (λ n. padded 0 n (entries_of (sort key_le (drop w ks ++ take w ks)))) e)

module _
    (bundle : Bytes) (rules selectors tests properties : List ℕ) (numbers : List Float) (n : Counts) (zoom : ℕ) (s : Settings)
    (len : ℕ) where
  abbrev sound : Bool
  sound = tables_sound rules selectors tests properties numbers n (length bundle)

  abbrev gathers : ℕ → Sort → Bool → Bytes → List Key → Gathered
  gathers room = gather_of bundle rules selectors tests properties numbers n.rules zoom s.for_labels room

  module _ (y : sound ≡ false) (x : Refusal) (p : x ≡ refusal 22 0 0 0 0) (u : List ℕ) (q : u ≡ replicate len 0) where
    pub nodes_broken : (nodes : Bytes) → no_list x u ≡ nodes_of bundle rules selectors tests properties numbers n zoom s len nodes
    unfolding nodes_of listed pick
    nodes_broken nodes = rw y (ap₂ no_list p q)

    pub areas_broken :
        (ways multipolygons : Bytes)
        → no_list x u ≡ areas_of bundle rules selectors tests properties numbers n zoom s len ways multipolygons
    unfolding areas_of listed pick
    areas_broken ways multipolygons = rw y (ap₂ no_list p q)

  module _
      (y : sound ≡ true) (len' : ℕ) (z : len' ≡ len) (room : ℕ) (r : room ≡ room_of len') (sofar : List Key) (f : sofar ≡ []) where
    room_is : room ≡ room_of len
    room_is = r ∙ ap room_of z

    module _ (nodes : Bytes) (g : Gathered) (h : g ≡ gathers room Nodes false nodes sofar) where
      nodes_gathered : gathers (room_of len) Nodes false nodes [] ≡ g
      nodes_gathered = sym (h ∙ ap₂ (λ (m : ℕ) (ks : List Key). gathers m Nodes false nodes ks) room_is f)

      pub nodes_refused :
          (x : Refusal)
          → g ≡ stopped x
          → (u : List ℕ)
          → u ≡ replicate len 0
          → no_list x u ≡ nodes_of bundle rules selectors tests properties numbers n zoom s len nodes
      unfolding nodes_of listed on-Gathered pick
      nodes_refused x p u q = rw (y, nodes_gathered ∙ p) (ap (no_list x) q)

      pub nodes_listed :
          (ks : List Key)
          → g ≡ gathered ks
          → (k : ℕ)
          → length ks ≡ k
          → (u : List ℕ)
          → u ≡ padded 0 len' (entries_of (sort key_le (drop 0 ks ++ take 0 ks)))
          → is_list k u ≡ nodes_of bundle rules selectors tests properties numbers n zoom s len nodes
      unfolding nodes_of on-Gathered pick
      nodes_listed ks p k l u q = rw (y, nodes_gathered ∙ p) (list_is len len' 0 k ks u z l q)

    module _ (ways multipolygons : Bytes) (g : Gathered) (h : g ≡ gathers room Areas false ways sofar) where
      ways_gathered : gathers (room_of len) Areas false ways [] ≡ g
      ways_gathered = sym (h ∙ ap₂ (λ (m : ℕ) (ks : List Key). gathers m Areas false ways ks) room_is f)

      pub ways_refused :
          (x : Refusal)
          → g ≡ stopped x
          → (u : List ℕ)
          → u ≡ replicate len 0
          → no_list x u ≡ areas_of bundle rules selectors tests properties numbers n zoom s len ways multipolygons
      unfolding areas_of listed on-Gathered pick
      ways_refused x p u q = rw (y, ways_gathered ∙ p) (ap (no_list x) q)

      module _
          (ws : List Key) (p : g ≡ gathered ws) (room' : ℕ) (r' : room' ≡ room_of len') (g' : Gathered)
          (h' : g' ≡ gathers room' Areas true multipolygons ws) where
        both_gathered : gathers (room_of len) Areas true multipolygons ws ≡ g'
        both_gathered = sym (h' ∙ ap (λ (m : ℕ). gathers m Areas true multipolygons ws) (r' ∙ ap room_of z))

        pub areas_refused :
            (x : Refusal)
            → g' ≡ stopped x
            → (u : List ℕ)
            → u ≡ replicate len 0
            → no_list x u ≡ areas_of bundle rules selectors tests properties numbers n zoom s len ways multipolygons
        unfolding areas_of listed on-Gathered pick
        areas_refused x t u q = rw (y, ways_gathered ∙ p, both_gathered ∙ t) (ap (no_list x) q)

        pub areas_listed :
            (ks : List Key)
            → g' ≡ gathered ks
            → (w k : ℕ)
            → length ws ≡ w
            → length ks ≡ k
            → (u : List ℕ)
            → u ≡ padded 0 len' (entries_of (sort key_le (drop w ks ++ take w ks)))
            → is_list k u ≡ areas_of bundle rules selectors tests properties numbers n zoom s len ways multipolygons
        unfolding areas_of on-Gathered pick
        areas_listed ks t w k v l u q =
            rw (y, ways_gathered ∙ p, both_gathered ∙ t, v) (list_is len len' w k ks u z l q)
