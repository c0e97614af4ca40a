-- Group numbers: seven bits a byte, lowest first, the top bit set on all bytes but the last, shortest form only.
use Rattle.std.specs.Prelude.{ℕ, zero, suc, ◌+◌, ◌*◌, ◌/◌, ◌%◌, [], ◌∷◌, ltb, leb, eqb, drop, Option, Some, None}
use Rattle.base.specs.Bytes.{Bytes}
use Rattle.base.specs.Choice.{pick}
use Rattle.base.specs.Option.{on_option2}

-- the number that bytes begin with, and how many bytes it takes; a last byte of 0 behind another is needless
unfoldable pub number_from : Bytes → Option (ℕ × ℕ)
number_from [] = None
number_from (b ∷ s) =
    pick (ltb b 128) (Some (b, 1))
    (on_option2 (number_from s) None λ v w. pick (eqb v 0) None (Some (b % 128 + 128 * v, w + 1)))

-- the number at a place, if it is at most `most`, with the place behind it
unfoldable pub number_at : Bytes → ℕ → ℕ → Option (ℕ × ℕ)
number_at s at most = on_option2 (number_from (drop at s)) None λ v w. pick (leb v most) (Some (v, at + w)) None

-- the bytes of a number; the first argument bounds how many
unfoldable pub groups_of : ℕ → ℕ → Bytes
groups_of zero n = []
groups_of (suc f) n = pick (ltb n 128) (n ∷ []) ((128 + n % 128) ∷ groups_of f (n / 128))

unfoldable pub group_of : ℕ → Bytes
group_of n = groups_of (suc n) n

-- what the code makes of a number's first byte: of the only one, and of one before the rest of the number
unfoldable pub single : ℕ → ℕ → ℕ → Option (ℕ × ℕ)
single b most next = pick (leb b most) (Some (b, next)) None

unfoldable pub joined : ℕ → ℕ → ℕ → ℕ → Option (ℕ × ℕ)
joined b v most next = pick (eqb v 0) None (pick (leb (b % 128 + 128 * v) most) (Some (b % 128 + 128 * v, next)) None)
