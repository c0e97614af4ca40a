use Rattle.properties.proofs.Turns.{Goes}
use Rattle.rules.specs.Rules.{Shown, Selects}
use Rattle.input.specs.Text.{left}
use Rattle.input.specs.Source.{spot}
use Rattle.keep.specs.Source.{reading}
use Rattle.keep.specs.Lent.{lent_in, beside_selectors, type_number}
use Rattle.grammar.specs.Reader.{read_parts}
use Rattle.grammar.specs.Reading.{Selector, bare}
use Rattle.sheet.specs.Sheet.{ObjectType}
use mathlib.Core.Path.{◌≡◌}
use Prim.Native.Nat.{ℕ, ◌<◌}
use Rattle.table.specs.Kind.{object_number}
use Rattle.rules.proofs.read_selector.Given as goal

abbrev pub invariant-loop-more : goal.invariant-loop-more
invariant-loop-more l = ((f : ℕ) (y : ObjectType)
    → type_number y ≡ object_number l.kind
    → left l.text.bundle.now l.text.source l.initial.at < f
    → (σ : Selector)
    × (Shown σ (object_number l.kind) l.min l.max l.layer
    × Goes (Selects l.text.bundle.now l.text.source) l.text.bundle.now l.text.source (left l.text.bundle.now l.text.source l.initial.at)
    (read_parts (reading l.text.bundle.now) f (bare y) (spot l.text.source l.initial.at) (lent_in l.initial.store)) l.at
    (λ f. read_parts (reading l.text.bundle.now) f σ (spot l.text.source l.at) (lent_in l.store))))
    × (beside_selectors l.store ≡ beside_selectors l.initial.store)

abbrev pub decreases-loop-more : goal.decreases-loop-more
decreases-loop-more l = left l.text.bundle.now l.text.source l.at
