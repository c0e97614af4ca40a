use Rattle.input.proofs.Placing.{both_fit}
use Rattle.input.proofs.TokenLaws.{placed_other}
use Rattle.input.specs.Text.{placed}
use Rattle.token_kind.specs.declared.Token.TheVariants.{Import, Identifier, Text, ColorRef}
use Rattle.token_laws.specs.Claims.{Inside}
use mathlib.Core.Path.{sym, ap, subst, ◌∙◌}
use borrow.Enum.Refused.{opened}
use Rattle.input.proofs.tokens.placed.Goals as goal

pub shifted-requires : goal.shifted-requires
shifted-requires c = both_fit _ _ _ _ (subst (Inside _ _) c.in-Import.is c.requires.1.1.0) c.requires.1.1.1

pub shifted-requires-in-Identifier : goal.shifted-requires-in-Identifier
shifted-requires-in-Identifier c = both_fit _ _ _ _ (subst (Inside _ _) c.in-Identifier.is c.requires.1.1.0) c.requires.1.1.1

pub shifted-requires-in-Text : goal.shifted-requires-in-Text
shifted-requires-in-Text c = both_fit _ _ _ _ (subst (Inside _ _) c.in-Text.is c.requires.1.1.0) c.requires.1.1.1

pub shifted-requires-in-ColorRef : goal.shifted-requires-in-ColorRef
shifted-requires-in-ColorRef c = both_fit _ _ _ _ (subst (Inside _ _) c.in-ColorRef.is c.requires.1.1.0) c.requires.1.1.1

pub returns-in-Import : goal.returns-in-Import
returns-in-Import c = ap Import c.shifted.ensures ∙ sym (ap (placed _) c.in-Import.is)

pub returns-in-Identifier : goal.returns-in-Identifier
returns-in-Identifier c = ap Identifier c.shifted-in-Identifier.ensures ∙ sym (ap (placed _) c.in-Identifier.is)

pub returns-in-Text : goal.returns-in-Text
returns-in-Text c = ap Text c.shifted-in-Text.ensures ∙ sym (ap (placed _) c.in-Text.is)

pub returns-in-ColorRef : goal.returns-in-ColorRef
returns-in-ColorRef c = ap ColorRef c.shifted-in-ColorRef.ensures ∙ sym (ap (placed _) c.in-ColorRef.is)

pub returns-in_default : goal.returns-in_default
returns-in_default c = placed_other _ _ (opened c.in_default.in_default-own.keys5)
