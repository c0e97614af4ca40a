use native.Mathlib.Omega.{arith}
use Rattle.table.proofs.Values.{value_1, value_2, value_3, value_4, value_5, value_6, value_none}
use Rattle.table.proofs.property_value.Goals as goal

pub returns-in-1 : goal.returns-in-1
returns-in-1 c = value_1 c.args.properties.now c.args.numbers.now c.args.i _ c.word_of.ensures _ c.range_of.ensures c.in-1.is

pub returns-in-2 : goal.returns-in-2
returns-in-2 c = value_2 c.args.properties.now c.args.numbers.now c.args.i _ c.word_of.ensures _ c.joined_value.ensures c.in-2.is

pub returns-in-3 : goal.returns-in-3
returns-in-3 c = value_3 c.args.properties.now c.args.numbers.now c.args.i _ c.word_of.ensures _ c.range_of-in-3.ensures c.in-3.is

pub returns-in-4 : goal.returns-in-4
returns-in-4 c = value_4 c.args.properties.now c.args.numbers.now c.args.i _ c.word_of.ensures _ c.color_at.ensures c.in-4.is

pub returns-in-5 : goal.returns-in-5
returns-in-5 c = value_5 c.args.properties.now c.args.numbers.now c.args.i _ c.word_of.ensures _ c.range_of-in-5.ensures c.in-5.is

pub returns-in-6 : goal.returns-in-6
returns-in-6 c = value_6 c.args.properties.now c.args.numbers.now c.args.i _ c.word_of.ensures _ _ c.word_of-in-6.ensures c.float_at.ensures c.in-6.is

pub returns-in_default : goal.returns-in_default
returns-in_default c = value_none c.args.properties.now c.args.numbers.now c.args.i _ c.word_of.ensures (λ q. omega (arith, q)) (λ q. omega (arith, q)) (λ q. omega (arith, q)) (λ q. omega (arith, q)) (λ q. omega (arith, q)) (λ q. omega (arith, q))
