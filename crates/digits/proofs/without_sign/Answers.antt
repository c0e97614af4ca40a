use Rattle.std.proofs.Common.{T, sym, ◌∙◌, subst}
use Rattle.digits.proofs.Wholes.{size_is}
use Rattle.digits.proofs.without_sign.Goals as goal

pub returns : goal.returns
returns c = c.abs.ensures.value ∙ size_is c.args.x (subst T (sym c.well_formed.0.1) tt)
