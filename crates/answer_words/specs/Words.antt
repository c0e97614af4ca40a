-- The words of an answer: five, of a load six.
use Rattle.std.specs.Prelude.{ℕ, [], ◌∷◌}
use Rattle.base.specs.declared.refusal.Refusal.{Refusal}
use Rattle.answer_words.specs.declared.Answer.{Answer}

abbrev pub five : ℕ → ℕ → ℕ → ℕ → ℕ → ℕ → Answer 5
five k a b c d e = record { kind = k; words = a ∷ b ∷ c ∷ d ∷ e ∷ [] }

unfoldable pub refused : Refusal → Answer 5
refused x = five x.number x.number x.reason x.text x.line x.character

abbrev pub counted : ℕ → Answer 5
counted n = five 0 n 0 0 0 0

abbrev pub six : ℕ → ℕ → ℕ → ℕ → ℕ → ℕ → ℕ → Answer 6
six k a b c d e f = record { kind = k; words = a ∷ b ∷ c ∷ d ∷ e ∷ f ∷ [] }
