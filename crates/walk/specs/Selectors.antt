-- What the walk asks of a selector: the name of its layer, and the verdict on it.
use Rattle.std.specs.Prelude.{ℕ, ◌≡◌, refl, List, Float}
use Rattle.std.proofs.Math.Option.{get_or}
use Rattle.base.specs.Bytes.{Bytes}
use Rattle.entity.specs.Layout.{value_of}
use Rattle.entity.specs.declared.EntityRange.{EntityRange}
use Rattle.cascade.specs.Clause.{default_name, layer_name}
use Rattle.cascade.specs.Match.{Verdict, verdict}
use Rattle.decode.specs.Decode.{layer_at, selector_in}

-- the name needs the bundle and the table of selectors alone
abbrev pub layer_in : Bytes → List ℕ → ℕ → Bytes
layer_in bundle selectors s = get_or (layer_at bundle selectors s) default_name

pub layer_is :
    (bundle : Bytes) (selectors tests : List ℕ) (numbers : List Float) (s : ℕ)
    → layer_name (selector_in bundle selectors tests numbers s) ≡ layer_in bundle selectors s
layer_is bundle selectors tests numbers s = refl

abbrev pub verdict_in : Bytes → List ℕ → List ℕ → List Float → ℕ → Bytes → EntityRange → ℕ → Verdict
verdict_in bundle selectors tests numbers zoom entity e s =
    verdict zoom (value_of entity e) (selector_in bundle selectors tests numbers s)
