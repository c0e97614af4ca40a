-- What the judgement of tables says, by its answer.
use Rattle.std.specs.Prelude.{◌≡◌, Bool, true, false, Result, Ok, Err, is_ok}
use Rattle.std.proofs.Common.{refl, sym, ap, ◌∙◌, true≢false}
use Rattle.base.specs.Choice.{pick}

pub judged_err :
    {A E : Type 0} (b : Bool) (x : A) {j : Result A E} {y e : E}
    → j ≡ pick b (Ok x) (Err y)
    → j ≡ Err e
    → (b ≡ false) × (e ≡ y)
unfolding pick
judged_err true _ h q = absurd (true≢false (ap is_ok (sym h ∙ q)))
judged_err false _ h q = (refl, let p = sym q ∙ h in cc)

pub judged_ok :
    {A E : Type 0} (b : Bool) (y : E) {j : Result A E} {x a : A}
    → j ≡ pick b (Ok x) (Err y)
    → j ≡ Ok a
    → (b ≡ true) × (a ≡ x)
unfolding pick
judged_ok true _ h q = (refl, let p = sym q ∙ h in cc)
judged_ok false _ h q = absurd (true≢false (ap is_ok (sym q ∙ h)))
