-- The numbers of a case file, lowest byte first; past its end stand zeros.
use Rattle.std.specs.Prelude.{ℕ, ◌+◌, ◌*◌, Bool, true, false, List, [], ◌∷◌, ◌++◌, ◌&&◌, cond, eqb, ltb, leb, length, get_or, decimal, Option, Some, None}
use Prim.Native.String.{String}
use Rattle.base.specs.Bytes.{ascii}
use Rattle.base.specs.declared.Range.{Range}

-- of two bytes, of four and of eight
abbrev pub short : List ℕ → ℕ → ℕ
short s i = get_or s i 0 + 256 * get_or s (i + 1) 0

abbrev pub word : List ℕ → ℕ → ℕ
word s i = short s i + 65536 * short s (i + 2)

abbrev pub long : List ℕ → ℕ → ℕ
long s i = word s i + 4294967296 * word s (i + 4)

-- the bytes behind their number
abbrev pub piece : List ℕ → ℕ → Option Range
piece s at = let to = at + 2 + short s at in cond (leb to (length s)) (Some (record { from = at + 2; to = to })) None

-- Word i of so many that are stored from a place on, two bytes each; behind them are zeros.
abbrev pub entry : List ℕ → ℕ → ℕ → ℕ → ℕ
entry s at entries i = cond (ltb i entries) (short s (at + 2 * i)) 0

-- whether these are the stored words from word i on
unfoldable pub are_words : List ℕ → List ℕ → ℕ → ℕ → ℕ → Bool
are_words [] s at entries i = true
are_words (w ∷ t) s at entries i = eqb w (entry s at entries i) && are_words t s at entries (i + 1)

-- a refusal's five numbers, as they are stored
abbrev pub refusal : List ℕ → List ℕ → Bool
refusal s five =
    eqb (get_or s 0 0) (get_or five 0 0)
    && (eqb (get_or s 1 0) (get_or five 1 0)
    && (eqb (get_or s 2 0) (get_or five 2 0) && (eqb (short s 3) (get_or five 3 0) && eqb (short s 5) (get_or five 4 0))))

-- the five numbers of a call that is not refused: how many entries it made, and zeros
abbrev pub counted : List ℕ → ℕ → Bool
counted five n =
    eqb (get_or five 0 0) n
    && (eqb (get_or five 1 0) 0 && (eqb (get_or five 2 0) 0 && (eqb (get_or five 3 0) 0 && eqb (get_or five 4 0) 0)))

-- So many cases, one after another from the first on, end at a place, and so many of them differ. A broken case differs, and is the last.
pub data Ran (Case : ℕ → Option (ℕ × Bool) → Type 0) (size : ℕ) : ℕ → ℕ → ℕ → Type 0 where
  none : Ran Case size 0 0 0
  same : {at end run bad : ℕ} → Ran Case size at run bad → Case at (Some (end, true)) → Ran Case size end (run + 1) bad
  other : {at end run bad : ℕ} → Ran Case size at run bad → Case at (Some (end, false)) → Ran Case size end (run + 1) (bad + 1)
  broken : {at run bad : ℕ} → Ran Case size at run bad → Case at None → Ran Case size size (run + 1) (bad + 1)

-- a line of a name and a number
abbrev pub named : String → ℕ → List ℕ
named name n = ascii name ++ (32 ∷ (decimal n ++ (10 ∷ [])))

-- Cases that were read all ran, and the totals were printed. A value s is the cases, with these bytes.
pub record Replayed {S : Type 0} (bytes : S → List ℕ) (Case : S → ℕ → Option (ℕ × Bool) → Type 0) (Read Printed : List ℕ → Type 0) : Type 0 where
  pub cases : S
  pub run : ℕ
  pub bad : ℕ
  pub read : Read (bytes cases)
  pub ran : Ran (Case cases) (length (bytes cases)) (length (bytes cases)) run bad
  pub printed : Printed (named "cases" run ++ named "mismatches" bad)
