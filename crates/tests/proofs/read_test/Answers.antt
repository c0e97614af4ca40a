use mathlib.Core.Path.{refl}
use native.Mathlib.Omega.{arith}
use Rattle.std.proofs.Common.{⊎_elim}
use mathlib.Core.List.{[], ◌∷◌}
use Rattle.base.specs.Choice.{via}
use Rattle.input.proofs.TokenLaws.{not_sign, not_identifier, not_string}
use Rattle.keep.proofs.Laws.{no_token, got, got_as, no_way, widen}
use Rattle.keep.specs.Answers.{Reads, refuses}
use Rattle.grammar.specs.Token.{bang}
use Rattle.grammar.specs.View.{is_sign, on_identifier, on_string}
use Rattle.input.specs.Text.{token_of}
use Rattle.grammar.specs.Reader.{read_test}
use borrow.Enum.Refused.{opened}
use Rattle.tests.proofs.read_test.Goals as goal
use Rattle.base.proofs.Options.{handed_on}

pub returns-in_err-t-clause-read : goal.returns-in_err-t-clause-read
unfolding read_test token_of is_sign on_identifier on_string
returns-in_err-t-clause-read c = rw (handed_on _ c.from_residual.ensures) (no_token (Reads _ _ _ _ _) _ _ _ _ _ (via c.read_mandatory_token.ensures c.in_err-t.was) (refuses refl))

pub returns-in-Identifier-clause-read : goal.returns-in-Identifier-clause-read
unfolding read_test token_of is_sign on_identifier on_string
returns-in-Identifier-clause-read c =
    let q = via c.read_mandatory_token.ensures c.in_ok-t.was in
    ⊎_elim
    (λ p. got_as (Reads _ _ _ _ _) _ _ _ _ _ q p (λ m1. widen (omega arith) (c.read_plain.ensures.read)))
    (λ p. got_as (Reads _ _ _ _ _) _ _ _ _ _ q p (λ m1. widen (omega arith) (c.read_plain.ensures.read)))
    c.in-Identifier.is

pub returns-in-Bang-clause-read : goal.returns-in-Bang-clause-read
unfolding read_test token_of is_sign on_identifier on_string
returns-in-Bang-clause-read c = got_as (Reads _ _ _ _ _) _ _ _ _ _ (via c.read_mandatory_token.ensures c.in_ok-t.was) c.in-Bang.is (λ m1. widen (omega arith) (c.read_bang.ensures.read))

pub returns-in_default-clause-read : goal.returns-in_default-clause-read
unfolding read_test
returns-in_default-clause-read c =
    let taken = 1 ∷ 2 ∷ 20 ∷ [] in
    let own = opened c.in_default.in_default-own.keys4 in
    got (Reads _ _ _ _ _) _ _ _ _ _ (via c.read_mandatory_token.ensures c.in_ok-t.was) (λ m1. not_identifier _ taken _ own (Reads _ _ _ _ _) _ _ tt (not_string _ taken _ own (Reads _ _ _ _ _) _ _ tt (no_way (Reads _ _ _ _ _) _ _ _ (not_sign _ taken _ own bang tt) (refuses c.refuse.ensures))))
