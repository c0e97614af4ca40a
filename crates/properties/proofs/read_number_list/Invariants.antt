use Rattle.keep.specs.Answers.{Reads}
use Rattle.keep.specs.Lent.{lent_in, beside_numbers}
use Rattle.keep.specs.Source.{reading}
use Prim.Native.Nat.{ℕ, ◌<◌}
use mathlib.Core.Path.{◌≡◌}
use Rattle.input.specs.Source.{spot}
use Rattle.input.specs.Text.{left}
use Rattle.grammar.specs.Reader.{read_number_list}
use Rattle.properties.proofs.Turns.{Goes}
use Rattle.properties.proofs.read_number_list.Given as goal

abbrev pub invariant-loop-text : goal.invariant-loop-text
invariant-loop-text l = ((f : ℕ)
    → left l.text.bundle.now l.text.source l.initial.at < f
    → Goes (Reads l.text.bundle.now l.text.source) l.text.bundle.now l.text.source (left l.text.bundle.now l.text.source l.initial.at)
    (read_number_list (reading l.text.bundle.now) f l.initial.y (spot l.text.source l.initial.at) (lent_in l.initial.store)) l.at
    (λ f. read_number_list (reading l.text.bundle.now) f l.y (spot l.text.source l.at) (lent_in l.store)))
    × (beside_numbers l.store ≡ beside_numbers l.initial.store)

abbrev pub decreases-loop-text : goal.decreases-loop-text
decreases-loop-text l = left l.text.bundle.now l.text.source l.at
