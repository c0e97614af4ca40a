-- The answer and the tables of plate, one law for each way through the code.
use Prim.Native.Nat.{ℕ, ◌+◌, ◌≤◌}
use mathlib.Core.Path.{◌≡◌, sym, ◌∙◌, ap, ap₂}
use mathlib.Core.List.{List}
use lib.Ieee.{Float}
use lib.ListN.{replicate, length, get_or}
use borrow.Author.Tests.{le-ltb}
use Rattle.base.specs.Bytes.{Bytes, within}
use Rattle.base.specs.Choice.{if_false, via, via_with}
use Rattle.base.specs.Refusal.{refusal}
use Rattle.base.specs.declared.Range.{Range}
use Rattle.base.specs.declared.refusal.Refusal.{Refusal}
use Rattle.group.specs.Number.{number_at}
use Rattle.keep.specs.Encode.{Lengths, lengths}
use Rattle.parser.specs.Load.{Held, held, zeros, load_of}
use Rattle.parser.specs.declared.Counts.{Counts}
use Rattle.valid.specs.declared.Counts.{Counts as Counts'}
use Rattle.walk.specs.Maps.{no_rows, maps_of}
use Rattle.printing.specs.Frame.{frame_of, range}
use Rattle.printing.specs.declared.Buffers.{Buffers}
use Rattle.printing.specs.Plate.{Plate, plate, room, five_of, mapped, loaded_plate, plate_of}
use Rattle.std.specs.Prelude.{Option, Some, None, Result, Ok, Err}
use Rattle.base.specs.Option.{option_none, option_some}

-- ---- tables of zeros

pub zeroed : {A : Type 0} (z : A) (n k : ℕ) (u : List A) → u ≡ replicate n z → n ≡ k → u ≡ replicate k z
zeroed z n k u e p = e ∙ ap (λ (k : ℕ). replicate k z) p

-- how long the tables of buffers are
abbrev pub room_of : Buffers → Lengths
room_of t = lengths (length t.rules) (length t.selectors) (length t.tests) (length t.properties) (length t.numbers) (length t.colors)

pub room_is :
    (t : Buffers)
    → length t.rules ≡ 4096
    → length t.selectors ≡ 4096
    → length t.tests ≡ 4096
    → length t.properties ≡ 4096
    → length t.numbers ≡ 512
    → length t.colors ≡ 4096
    → room_of t ≡ room
room_is t a b c d e f = rw (a, b, c, d, e, f)

-- ---- behind the frame

module _ (bundle entity : Bytes) (zoom : ℕ) (b : Range) (l : Lengths) (z : l ≡ room) where
  load_is : (r k : Result Counts Refusal) (h : Held) → (r, h) ≡ load_of bundle l → r ≡ k → load_of bundle room ≡ (k, h)
  load_is r k h e m = ap (load_of bundle) (sym z) ∙ via_with e m

  pub styled_not :
      (r : Result Counts Refusal) (h : Held) (e : Refusal) (t : List ℕ) (z : Result (Range × ℕ) Refusal)
      → (r, h) ≡ load_of bundle l
      → r ≡ Err e
      → t ≡ no_rows
      → z ≡ Err e
      → plate z h t ≡ loaded_plate zoom b bundle entity (load_of bundle room)
  unfolding loaded_plate
  styled_not r h e t z q m w y =
      ap₂ (λ (z : Result (Range × ℕ) Refusal) (t : List ℕ). plate z h t) y w
      ∙ sym (ap (loaded_plate zoom b bundle entity) (load_is r (Err e) h q m))

  module _ (r : Result Counts Refusal) (n : Counts) (five : Counts') (rs ss ts ps : List ℕ) (xs : List Float) (cs : List ℕ) where
    abbrev tables : Held
    tables = held rs ss ts ps xs cs

    walked :
        (x k : Result ℕ Refusal) (t : List ℕ)
        → (r, tables) ≡ load_of bundle l
        → r ≡ Ok n
        → five ≡ five_of n
        → (x, t) ≡ maps_of bundle rs ss ts ps xs five zoom entity
        → x ≡ k
        → mapped b tables (k, t) ≡ loaded_plate zoom b bundle entity (load_of bundle room)
    unfolding loaded_plate
    walked x k t q m f g y =
        sym
        (ap (loaded_plate zoom b bundle entity) (load_is r (Ok n) tables q m)
        ∙ ap (λ (five : Counts'). mapped b tables (maps_of bundle rs ss ts ps xs five zoom entity)) (sym f)
        ∙ ap (mapped b tables) (via_with g y))

    pub styled_refused :
        (x : Result ℕ Refusal) (e : Refusal) (t : List ℕ)
        → (r, tables) ≡ load_of bundle l
        → r ≡ Ok n
        → five ≡ five_of n
        → (x, t) ≡ maps_of bundle rs ss ts ps xs five zoom entity
        → x ≡ Err e
        → (z : Result (Range × ℕ) Refusal)
        → z ≡ Err e
        → plate z tables t ≡ loaded_plate zoom b bundle entity (load_of bundle room)
    unfolding mapped
    styled_refused x e t q m f g y z w =
        ap (λ (z : Result (Range × ℕ) Refusal). plate z tables t) w ∙ walked x (Err e) t q m f g y

    pub styled_maps :
        (x : Result ℕ Refusal) (k : ℕ) (t : List ℕ)
        → (r, tables) ≡ load_of bundle l
        → r ≡ Ok n
        → five ≡ five_of n
        → (x, t) ≡ maps_of bundle rs ss ts ps xs five zoom entity
        → x ≡ Ok k
        → plate (Ok (b, k)) tables t ≡ loaded_plate zoom b bundle entity (load_of bundle room)
    unfolding mapped
    styled_maps x k t q m f g y = walked x (Ok k) t q m f g y

-- ---- the frame

pub frame_read :
    (s : Bytes) (x : Option (ℕ × ℕ)) (n next zoom : ℕ)
    → length s ≤ 60000
    → x ≡ number_at s 1 4294967295
    → x ≡ Some (n, next)
    → next + n ≤ length s
    → zoom ≡ get_or s 0 0
    → Some (zoom, range next (next + n), range (next + n) (length s)) ≡ frame_of s
unfolding frame_of
frame_read s x n next zoom h q m w z =
    if_false _ _ _ (le-ltb 60000 (length s) h)
    (option_some _ _ _ (via q m)
    (if_false _ _ _ (le-ltb (length s) (next + n) w)
    (ap (λ (k : ℕ). Some (k, range next (next + n), range (next + n) (length s))) z)))

module _ (s : Bytes) (r : Option (ℕ × Range × Range)) (q : r ≡ frame_of s) where
  pub plate_bad :
      (h : Held) (t : List ℕ) (e : Refusal)
      → r ≡ None
      → h ≡ zeros room
      → t ≡ no_rows
      → e ≡ refusal 1 0 0 0 0
      → plate (Err e) h t ≡ plate_of s
  unfolding plate_of
  plate_bad h t e m a b c =
      option_none (frame_of s) _ _ (via q m)
      (ap (λ (e : Refusal). plate (Err e) h t) c ∙ ap₂ (λ (h : Held) (t : List ℕ). refused_with h t) a b)
    where
      refused_with : Held → List ℕ → Plate
      refused_with h t = plate (Err (refusal 1 0 0 0 0)) h t

  pub plate_framed :
      (zoom : ℕ) (b e : Range) (bundle entity : Bytes) (p : Plate)
      → r ≡ Some (zoom, b, e)
      → bundle ≡ within b s
      → entity ≡ within e s
      → p ≡ loaded_plate zoom b bundle entity (load_of bundle room)
      → p ≡ plate_of s
  unfolding plate_of
  plate_framed zoom b e bundle entity p m x y w =
      option_some (frame_of s) _ _ (via q m)
      (w ∙ ap₂ (λ (x y : Bytes). loaded_plate zoom b x y (load_of x room)) x y)
