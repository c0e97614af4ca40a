-- A refusal's five numbers.
use Rattle.std.specs.Prelude.{ℕ, Bool, true, false, List, [], ◌∷◌}
use Rattle.base.specs.declared.refusal.Refusal.{Refusal}

-- number, reason, text, line, character
abbrev pub refusal : ℕ → ℕ → ℕ → ℕ → ℕ → Refusal
refusal n r t l c = record { number = n; reason = r; text = t; line = l; character = c }

abbrev pub numbers_of : Refusal → List ℕ
numbers_of x = x.number ∷ x.reason ∷ x.text ∷ x.line ∷ x.character ∷ []

-- of the entity at a place of its stream: 1 stands second for the stream of multipolygons
abbrev pub of_entity : ℕ → Bool → ℕ → Refusal
of_entity n true place = refusal n 1 place 0 0
of_entity n false place = refusal n 0 place 0 0
