-- Classes of characters.
use Rattle.std.specs.Prelude.{ℕ, ◌-◌, Bool, true, ◌&&◌, eqb, ltb, leb, Option, Some, None}
use Rattle.base.specs.Choice.{pick}

-- the characters low to high
abbrev pub in_span : ℕ → ℕ → ℕ → Bool
in_span low high k = leb low k && leb k high

-- _ a-z 0-9
unfoldable pub can_be_in_at_directive : ℕ → Bool
can_be_in_at_directive k = pick (eqb k 95) true (pick (in_span 97 122 k) true (in_span 48 57 k))

-- _ a-z A-Z
unfoldable pub can_start_identifier : ℕ → Bool
can_start_identifier k = pick (eqb k 95) true (pick (in_span 97 122 k) true (in_span 65 90 k))

-- those, and - . / 0-9, which stand in a row
unfoldable pub can_continue_identifier : ℕ → Bool
can_continue_identifier k = pick (in_span 45 57 k) true (can_start_identifier k)

-- 0-9 A-Z a-z
unfoldable pub digit_value : ℕ → ℕ
digit_value k =
    pick (ltb k 48) 255
    (pick (ltb k 58) (k - 48)
    (pick (ltb k 65) 255
    (pick (ltb k 91) (k - 55)
    (pick (ltb k 97) 255
    (pick (ltb k 123) (k - 87)
    255)))))

unfoldable pub to_digit : ℕ → ℕ → Option ℕ
to_digit k radix = pick (ltb (digit_value k) radix) (Some (digit_value k)) None
