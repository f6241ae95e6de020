use Rattle.std.proofs.Common.{arith}
use Rattle.mv_bits.proofs.Tails.{trailing_inside, Before-found, LacksOne-number}
use Rattle.mv_bits.proofs.ending.before_last_one.Goals as goal

pub returns-then-zeros-gt7 : goal.returns-then-zeros-gt7
returns-then-zeros-gt7 c = LacksOne-number c.args.count c.args.word c.requires.0 c.requires.1 c.if-zeros-gt7.true

pub overflow_sub-result : goal.overflow_sub-result
overflow_sub-result c = omega (arith, trailing_inside c.args.count c.args.word c.requires.0 c.requires.1 c.if-zeros-gt7.false)

pub overflow_sub-result-2 : goal.overflow_sub-result-2
overflow_sub-result-2 c = omega (arith, trailing_inside c.args.count c.args.word c.requires.0 c.requires.1 c.if-zeros-gt7.false)

pub returns : goal.returns
returns c = Before-found c.args.count c.args.word c.requires.0 c.requires.1 c.if-zeros-gt7.false
