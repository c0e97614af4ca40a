-- What was stored is read back: word j of entry i of a table is word j of the i-th entry.
use Prim.Native.Nat.{ℕ, zero, suc, ◌+◌, ◌*◌, ◌<◌}
use native.Mathlib.Omega.{arith}
use mathlib.Core.Path.{◌≡◌, ◌∙◌}
use mathlib.Core.List.{List, [], ◌∷◌, ◌++◌, append_assoc}
use lib.ListN.{length, get_or, get_or-append}
use lib.Seq.{get_or-append-add}
use Rattle.base.specs.Table.{flat}
use Rattle.table.specs.Value.{word_at}

-- entries of eight words each
pub data Eights : List (List ℕ) → Type 0 where
  none : Eights []
  next : {e : List ℕ} {es : List (List ℕ)} → length e ≡ 8 → Eights es → Eights (e ∷ es)

pub word_back :
    (es : List (List ℕ)) (z : List ℕ) (i j : ℕ)
    → Eights es
    → i < length es
    → j < 8
    → word_at (flat es ++ z) i j ≡ get_or (get_or es i []) j 0
word_back [] z i j a h g = absurd (omega arith)
word_back (e ∷ es) z zero j (next l a) h g =
    let p : 0 * 8 + j ≡ j = omega arith in
    rw (p, append_assoc e (flat es) z) (get_or-append e (flat es ++ z) 0 j (omega arith))
word_back (e ∷ es) z (suc i) j (next l a) h g =
    let p : suc i * 8 + j ≡ length e + (i * 8 + j) = omega arith in
    rw (p, append_assoc e (flat es) z)
    (get_or-append-add e (flat es ++ z) (i * 8 + j) 0 ∙ word_back es z i j a (omega arith) g)
