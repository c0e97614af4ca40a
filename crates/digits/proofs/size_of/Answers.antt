use Rattle.std.proofs.Common.{T, sym, ap, ◌∙◌, subst}
use lib.Ieee.{to_unsigned}
use Rattle.digits.proofs.Wholes.{whole_number_lem, whole_below, whole_from, whole_to}
use Rattle.sheet.specs.Digits.{size_of}
use Rattle.digits.proofs.size_of.Goals as goal

pub without_sign-requires : goal.without_sign-requires
without_sign-requires c = whole_number_lem c.args.x c.requires

pub truncating_f64_to_u64-requires : goal.truncating_f64_to_u64-requires
truncating_f64_to_u64-requires c = record {
  lower_bound = whole_from c.args.x _ (subst T (sym c.well_formed.0.1) tt) c.without_sign.ensures
      (whole_below c.args.x _ (subst T (sym c.well_formed.0.1) tt) c.without_sign.ensures
      c.requires);
  upper_bound = whole_to c.args.x _ (subst T (sym c.well_formed.0.1) tt) c.without_sign.ensures
      (whole_below c.args.x _ (subst T (sym c.well_formed.0.1) tt) c.without_sign.ensures
      c.requires);
}

pub returns : goal.returns
unfolding size_of
returns c = c.truncating_f64_to_u64.ensures ∙ ap (to_unsigned 64) c.without_sign.ensures
