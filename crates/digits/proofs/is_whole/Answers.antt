use Rattle.std.proofs.Common.{T, sym, subst, ◌∙◌}
use Rattle.digits.proofs.Wholes.{whole_nan, whole_from, whole_to, whole_float, whole_same, whole_large}
use Rattle.digits.proofs.is_whole.Goals as goal

pub returns-then-is_nan : goal.returns-then-is_nan
returns-then-is_nan c = whole_nan c.args.x c.if-is_nan.ensures.value

pub truncating_f64_to_u64-requires : goal.truncating_f64_to_u64-requires
truncating_f64_to_u64-requires c = record {
  lower_bound = whole_from c.args.x _ (subst T (sym c.well_formed.0.1) tt)
      c.without_sign-a.ensures c.if-a.true;
  upper_bound = whole_to c.args.x _ (subst T (sym c.well_formed.0.1) tt)
      c.without_sign-a.ensures c.if-a.true;
}

pub int_to_float-result : goal.int_to_float-result
int_to_float-result c = whole_float c.args.x _
    (subst T (sym c.well_formed.0.1) tt)
    c.without_sign-a.ensures c.if-a.true _
    c.truncating_f64_to_u64.ensures

pub returns-then-a : goal.returns-then-a
returns-then-a c = whole_same c.args.x _
    (subst T (sym c.well_formed.0.1) tt)
    c.without_sign-a.ensures c.if-a.true _
    c.truncating_f64_to_u64.ensures

pub returns-else-a : goal.returns-else-a
returns-else-a c = c.if-a.false ∙ whole_large c.args.x _ (subst T (sym c.well_formed.0.1) tt)
    c.without_sign-a.ensures c.if-a.false
