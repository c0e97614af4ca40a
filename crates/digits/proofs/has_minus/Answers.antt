use Rattle.std.proofs.Common.{T, sym, ◌∙◌, subst}
use Rattle.digits.proofs.Wholes.{sign_is}
use Rattle.digits.proofs.has_minus.Goals as goal

pub returns : goal.returns
returns c = c.is_sign_negative.ensures ∙ sign_is c.args.x (subst T (sym c.well_formed.0.1) tt) c.requires
