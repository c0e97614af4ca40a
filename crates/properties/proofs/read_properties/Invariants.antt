use Rattle.keep.specs.Answers.{Reads}
use Rattle.keep.specs.Lent.{lent_in, beside_properties, colors_of}
use Rattle.keep.specs.Source.{reading}
use Prim.Native.Nat.{ℕ, ◌<◌}
use mathlib.Core.Path.{◌≡◌}
use Rattle.input.specs.Source.{spot}
use Rattle.input.specs.Text.{left}
use Rattle.grammar.specs.Reader.{read_properties}
use Rattle.properties.proofs.Turns.{Goes}
use Rattle.properties.proofs.read_properties.Given as goal

abbrev pub invariant-loop-head : goal.invariant-loop-head
invariant-loop-head l = ((f : ℕ)
    → left l.text.bundle.now l.text.source l.initial.at < f
    → Goes (Reads l.text.bundle.now l.text.source) l.text.bundle.now l.text.source (left l.text.bundle.now l.text.source l.initial.at)
    (read_properties (reading l.text.bundle.now) f (colors_of l.text.bundle.now l.initial.store.colors.now l.known) (spot l.text.source l.initial.at) (lent_in l.initial.store)) l.at
    (λ f. read_properties (reading l.text.bundle.now) f (colors_of l.text.bundle.now l.initial.store.colors.now l.known) (spot l.text.source l.at) (lent_in l.store)))
    × (beside_properties l.store ≡ beside_properties l.initial.store)

abbrev pub decreases-loop-head : goal.decreases-loop-head
decreases-loop-head l = left l.text.bundle.now l.text.source l.at
