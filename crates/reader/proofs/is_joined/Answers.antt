use Rattle.std.proofs.Common.{arith, ap, ◌∙◌}
use Rattle.std.specs.Prelude.{Some}
use Rattle.std.proofs.lemmas.Bool.Decides.{Decides-eqb}
use Rattle.std.proofs.lemmas.Grind.{common_steps}
use Rattle.std.proofs.lemmas.List.{take_rest}
use Rattle.std.proofs.lemmas.Slice.Eq.{strip_prefix_is}
use Rattle.base.specs.Bytes.{same}
use Rattle.reader.proofs.Lookup.{joined_unmarked, joined_none, joined_else, joined_rest}
use Rattle.reader.proofs.is_joined.Goals as goal

pub returns-then-byte_at-ne58 : goal.returns-then-byte_at-ne58
returns-then-byte_at-ne58 c = joined_unmarked _ _ _ (λ e. c.if-byte_at-ne58.true (c.byte_at.ensures ∙ e))

pub returns-in-Some-eq58 : goal.returns-in-Some-eq58
returns-in-Some-eq58 c =
    c.same_bytes.ensures
    ∙ ap (same c.args.second.now) (take_rest c.in-Some-eq58.field-0.now 1)
    ∙ joined_rest _ _ _ _ (strip_prefix_is Decides-eqb _ _ (Some c.in-Some-eq58.field-0) c.in-Some-eq58.ensures.cases) (omega arith)

pub returns-in_default : goal.returns-in_default
returns-in_default c =
    joined_else _ _ _ _
    (rw c.in_default.is at (strip_prefix_is Decides-eqb c.args.key.now c.args.first.now _ c.strip_prefix.ensures.cases)) (λ z. grind (arith, common_steps))

pub returns-in_default-2 : goal.returns-in_default-2
returns-in_default-2 c =
    joined_else _ _ _ _
    (rw c.in_default.is at (strip_prefix_is Decides-eqb c.args.key.now c.args.first.now _ c.strip_prefix.ensures.cases)) (λ z. grind (arith, common_steps))

pub returns-in_default-3 : goal.returns-in_default-3
returns-in_default-3 c = joined_none _ _ _ (rw c.in_default.is at (strip_prefix_is Decides-eqb c.args.key.now c.args.first.now _ c.strip_prefix.ensures.cases))
