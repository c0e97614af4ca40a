use Rattle.properties.proofs.Turns.{Goes}
use Rattle.keep.specs.Answers.{Reads}
use Rattle.input.specs.Text.{left, token_of}
use Rattle.input.specs.Source.{spot}
use Rattle.keep.specs.Source.{reading}
use Rattle.keep.specs.Lent.{lent_in, beside_rules, colors_of}
use Rattle.grammar.specs.Reader.{read_rule}
use mathlib.Core.Path.{◌≡◌}
use Prim.Native.Nat.{ℕ, suc, ◌<◌}
use Rattle.rules.proofs.read_rule.Given as goal

abbrev pub invariant-loop-text : goal.invariant-loop-text
invariant-loop-text l = ((f : ℕ)
    → left l.text.bundle.now l.text.source l.initial.at < f
    → Goes (Reads l.text.bundle.now l.text.source) l.text.bundle.now l.text.source (left l.text.bundle.now l.text.source l.initial.at)
    (read_rule (reading l.text.bundle.now) (suc f) (colors_of l.text.bundle.now l.initial.store.colors.now l.known) (lent_in l.initial.store) (token_of l.text.bundle.now l.initial.first) l.initial.begins (spot l.text.source l.initial.at)) l.at
    (λ f. read_rule (reading l.text.bundle.now) (suc f) (colors_of l.text.bundle.now l.initial.store.colors.now l.known) (lent_in l.store) (token_of l.text.bundle.now l.first) l.begins (spot l.text.source l.at)))
    × (beside_rules l.store ≡ beside_rules l.initial.store)

abbrev pub decreases-loop-text : goal.decreases-loop-text
decreases-loop-text l = left l.text.bundle.now l.text.source l.at
