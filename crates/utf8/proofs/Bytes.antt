-- The rows of the table of well-formed sequences over four bytes: what each row that fits answers, and what none does.
use Rattle.std.proofs.Common.{◌≡◌, refl, ℕ, false, [], ◌∷◌, ◌+◌, ◌*◌, ◌%◌, ◌<◌, ◌≤◌, arith}
use Rattle.std.proofs.lemmas.Bool.Decides.{nat_tests}
use Rattle.base.specs.Choice.{pick, if_false}
use Rattle.utf8.specs.Utf8.{span, tail, decode_of, by_row, fits, gathered}
use Rattle.utf8.proofs.Rows.{one_not}
use Rattle.utf8.specs.declared.Char.TheVariants.{Bad, Code}

module _ (a b c d : ℕ) where
  pub one : a ≤ 0x7F → Code a 1 ≡ decode_of a b c d
  unfolding decode_of by_row fits gathered pick
  one h = grind (arith, nat_tests)

  module _ (k : ℕ) where
    pub two : k ≡ a % 32 * 64 + b % 64 → 0xC2 ≤ a → a ≤ 0xDF → 0x80 ≤ b → b ≤ 0xBF → Code k 2 ≡ decode_of a b c d
    unfolding decode_of by_row fits gathered pick
    two e h0 h1 h2 h3 = grind (arith, nat_tests)

    pub first_three : k ≡ a % 16 * 4096 + b % 64 * 64 + c % 64 → a ≡ 0xE0 → 0xA0 ≤ b → b ≤ 0xBF → 0x80 ≤ c → c ≤ 0xBF → Code k 3 ≡ decode_of a b c d
    unfolding decode_of by_row fits gathered pick
    first_three e h0 h1 h2 h3 h4 = grind (arith, nat_tests)

    pub second_three : k ≡ a % 16 * 4096 + b % 64 * 64 + c % 64 → 0xE1 ≤ a → a ≤ 0xEC → 0x80 ≤ b → b ≤ 0xBF → 0x80 ≤ c → c ≤ 0xBF → Code k 3 ≡ decode_of a b c d
    unfolding decode_of by_row fits gathered pick
    second_three e h0 h1 h2 h3 h4 h5 = grind (arith, nat_tests)

    pub third_three : k ≡ a % 16 * 4096 + b % 64 * 64 + c % 64 → a ≡ 0xED → 0x80 ≤ b → b ≤ 0x9F → 0x80 ≤ c → c ≤ 0xBF → Code k 3 ≡ decode_of a b c d
    unfolding decode_of by_row fits gathered pick
    third_three e h0 h1 h2 h3 h4 = grind (arith, nat_tests)

    pub fourth_three : k ≡ a % 16 * 4096 + b % 64 * 64 + c % 64 → 0xEE ≤ a → a ≤ 0xEF → 0x80 ≤ b → b ≤ 0xBF → 0x80 ≤ c → c ≤ 0xBF → Code k 3 ≡ decode_of a b c d
    unfolding decode_of by_row fits gathered pick
    fourth_three e h0 h1 h2 h3 h4 h5 = grind (arith, nat_tests)

    pub first_four : k ≡ a % 8 * 262144 + b % 64 * 4096 + c % 64 * 64 + d % 64 → a ≡ 0xF0 → 0x90 ≤ b → b ≤ 0xBF → 0x80 ≤ c → c ≤ 0xBF → 0x80 ≤ d → d ≤ 0xBF → Code k 4 ≡ decode_of a b c d
    unfolding decode_of by_row fits gathered pick
    first_four e h0 h1 h2 h3 h4 h5 h6 = grind (arith, nat_tests)

    pub second_four : k ≡ a % 8 * 262144 + b % 64 * 4096 + c % 64 * 64 + d % 64 → 0xF1 ≤ a → a ≤ 0xF3 → 0x80 ≤ b → b ≤ 0xBF → 0x80 ≤ c → c ≤ 0xBF → 0x80 ≤ d → d ≤ 0xBF → Code k 4 ≡ decode_of a b c d
    unfolding decode_of by_row fits gathered pick
    second_four e h0 h1 h2 h3 h4 h5 h6 h7 = grind (arith, nat_tests)

    pub third_four : k ≡ a % 8 * 262144 + b % 64 * 4096 + c % 64 * 64 + d % 64 → a ≡ 0xF4 → 0x80 ≤ b → b ≤ 0x8F → 0x80 ≤ c → c ≤ 0xBF → 0x80 ≤ d → d ≤ 0xBF → Code k 4 ≡ decode_of a b c d
    unfolding decode_of by_row fits gathered pick
    third_four e h0 h1 h2 h3 h4 h5 h6 = grind (arith, nat_tests)

  -- the rows that four bytes do not fit
  no_two : (l h : ℕ) → (l ≤ a → a ≤ h → 0x80 ≤ b → b ≤ 0xBF → ⊥) → fits (span l h ∷ tail ∷ []) (a ∷ b ∷ c ∷ d ∷ []) ≡ false
  unfolding fits
  no_two l h f = grind (arith, nat_tests)

  no_three : (l h m n : ℕ) → (l ≤ a → a ≤ h → m ≤ b → b ≤ n → 0x80 ≤ c → c ≤ 0xBF → ⊥) → fits (span l h ∷ span m n ∷ tail ∷ []) (a ∷ b ∷ c ∷ d ∷ []) ≡ false
  unfolding fits
  no_three l h m n f = grind (arith, nat_tests)

  no_four : (l h m n : ℕ) → (l ≤ a → a ≤ h → m ≤ b → b ≤ n → 0x80 ≤ c → c ≤ 0xBF → 0x80 ≤ d → d ≤ 0xBF → ⊥) → fits (span l h ∷ span m n ∷ tail ∷ tail ∷ []) (a ∷ b ∷ c ∷ d ∷ []) ≡ false
  unfolding fits
  no_four l h m n f = grind (arith, nat_tests)

  pub none :
      0x7F < a
      → (0xC2 ≤ a → a ≤ 0xDF → 0x80 ≤ b → b ≤ 0xBF → ⊥)
      → (0xE0 ≤ a → a ≤ 0xE0 → 0xA0 ≤ b → b ≤ 0xBF → 0x80 ≤ c → c ≤ 0xBF → ⊥)
      → (0xE1 ≤ a → a ≤ 0xEC → 0x80 ≤ b → b ≤ 0xBF → 0x80 ≤ c → c ≤ 0xBF → ⊥)
      → (0xED ≤ a → a ≤ 0xED → 0x80 ≤ b → b ≤ 0x9F → 0x80 ≤ c → c ≤ 0xBF → ⊥)
      → (0xEE ≤ a → a ≤ 0xEF → 0x80 ≤ b → b ≤ 0xBF → 0x80 ≤ c → c ≤ 0xBF → ⊥)
      → (0xF0 ≤ a → a ≤ 0xF0 → 0x90 ≤ b → b ≤ 0xBF → 0x80 ≤ c → c ≤ 0xBF → 0x80 ≤ d → d ≤ 0xBF → ⊥)
      → (0xF1 ≤ a → a ≤ 0xF3 → 0x80 ≤ b → b ≤ 0xBF → 0x80 ≤ c → c ≤ 0xBF → 0x80 ≤ d → d ≤ 0xBF → ⊥)
      → (0xF4 ≤ a → a ≤ 0xF4 → 0x80 ≤ b → b ≤ 0x8F → 0x80 ≤ c → c ≤ 0xBF → 0x80 ≤ d → d ≤ 0xBF → ⊥)
      → Bad ≡ decode_of a b c d
  unfolding decode_of by_row fits pick
  none h0 h1 h2 h3 h4 h5 h6 h7 h8 =
      if_false _ _ _ (one_not a h0)
      (if_false _ _ _ (no_two _ _ h1)
      (if_false _ _ _ (no_three _ _ _ _ h2)
      (if_false _ _ _ (no_three _ _ _ _ h3)
      (if_false _ _ _ (no_three _ _ _ _ h4)
      (if_false _ _ _ (no_three _ _ _ _ h5)
      (if_false _ _ _ (no_four _ _ _ _ h6)
      (if_false _ _ _ (no_four _ _ _ _ h7)
      (if_false _ _ _ (no_four _ _ _ _ h8) refl))))))))

pub ruleset rows = (one, two, first_three, second_three, third_three, fourth_three, first_four, second_four, third_four, none)
