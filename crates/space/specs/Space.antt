-- Unicode's property White_Space, as the list of its 25 characters (PropList.txt).
use Rattle.std.specs.Prelude.{ℕ, Bool, true, false, ◌||◌, List, [], ◌∷◌, eqb, ltb}
use Rattle.base.specs.Choice.{pick}

abbrev pub white_space : List ℕ
white_space =
    0x9
    ∷ 0xA
    ∷ 0xB
    ∷ 0xC
    ∷ 0xD
    ∷ 0x20
    ∷ 0x85
    ∷ 0xA0
    ∷ 0x1680
    ∷ 0x2000
    ∷ 0x2001
    ∷ 0x2002
    ∷ 0x2003
    ∷ 0x2004
    ∷ 0x2005
    ∷ 0x2006
    ∷ 0x2007
    ∷ 0x2008
    ∷ 0x2009
    ∷ 0x200A
    ∷ 0x2028
    ∷ 0x2029
    ∷ 0x202F
    ∷ 0x205F
    ∷ 0x3000
    ∷ []

unfoldable pub among : ℕ → List ℕ → Bool
among k [] = false
among k (x ∷ xs) = eqb k x || among k xs

unfoldable pub is_white_space : ℕ → Bool
is_white_space k = among k white_space

-- The same characters as runs, each from its first character up to the one behind its last, in rising order: what the code tests.
pub record Run : Type 0 where
  pub first : ℕ
  pub behind : ℕ

abbrev pub run : ℕ → ℕ → Run
run f b = record { first = f; behind = b }

unfoldable pub rising : List Run → ℕ → Bool
rising [] k = false
rising (r ∷ rs) k = pick (ltb k r.first) false (pick (ltb k r.behind) true (rising rs k))

abbrev pub general_runs : List Run
general_runs = run 0x2028 0x202A ∷ run 0x202F 0x2030 ∷ run 0x205F 0x2060 ∷ run 0x3000 0x3001 ∷ []

abbrev pub wide_runs : List Run
wide_runs = run 0x85 0x86 ∷ run 0xA0 0xA1 ∷ run 0x1680 0x1681 ∷ run 0x2000 0x200B ∷ general_runs

abbrev pub all_runs : List Run
all_runs = run 0x9 0xE ∷ run 0x20 0x21 ∷ wide_runs
