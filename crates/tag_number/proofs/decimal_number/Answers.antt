use borrow.Author.Rules.{rules}
use Rattle.base.proofs.Options.{handed_on, or_some, or_none, or_err}
use Rattle.tag_number.proofs.Decimals.{decimal_cut, decimal_empty, decimal_value}
use Rattle.tag_number.proofs.decimal_number.Goals as goal

pub returns-then-ds-n-eq0 : goal.returns-then-ds-n-eq0
returns-then-ds-n-eq0 c = decimal_empty
    c.args.minus
    c.args.t.now _ _ _ _ _
    c.split_digits.ensures.first
    c.split_digits.ensures.rest
    c.split_decimals.ensures.first
    c.split_decimals.ensures.rest
    c.power_of.ensures c.if-ds-n-eq0.true

pub returns-in_err-down : goal.returns-in_err-down
returns-in_err-down c = rw (handed_on _ c.from_residual.ensures, or_err _ c.ok_or.ensures.value c.in_err-down.was) (decimal_cut
    c.args.minus
    c.args.t.now _ _ _ _ _
    c.split_digits.ensures.first
    c.split_digits.ensures.rest
    c.split_decimals.ensures.first
    c.split_decimals.ensures.rest c.power_of.ensures
    (or_none c.ok_or.ensures.ok_part c.in_err-down.was))

pub returns : goal.returns
returns c = decimal_value
    c.args.minus
    c.args.t.now _ _ _ _ _
    c.split_digits.ensures.first
    c.split_digits.ensures.rest
    c.split_decimals.ensures.first
    c.split_decimals.ensures.rest
    c.power_of.ensures _ _ _ _ _
    (or_some c.ok_or.ensures.ok_part c.in_ok-down.was) c.if-ds-n-eq0.false
    c.spell.ensures c.spell-2.ensures (search rules) c.value_of.ensures
