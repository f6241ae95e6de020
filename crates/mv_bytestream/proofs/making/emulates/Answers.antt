use Rattle.std.proofs.Common.{arith}
use Rattle.mv_bytestream.proofs.Emulates.{at_none-on, at_none-off, at_one, at_two, with_three}
use Rattle.mv_bytestream.proofs.making.emulates.Goals as goal

pub returns-then-ends_in_three-clause-value : goal.returns-then-ends_in_three-clause-value
returns-then-ends_in_three-clause-value c = λ q. at_none-on c.args.unit.now c.args.zeros c.args.byte c.ends_in_three.result c.ends_in_three.ensures c.if-ends_in_three.true c.in-0.is c.requires.nonzero q

pub returns-else-ends_in_three-clause-value : goal.returns-else-ends_in_three-clause-value
returns-else-ends_in_three-clause-value c = λ q. at_none-off c.args.unit.now c.args.zeros c.args.byte c.ends_in_three.result c.ends_in_three.ensures c.if-ends_in_three.false c.in-0.is c.requires.nonzero q

pub returns-in-1-clause-value : goal.returns-in-1-clause-value
returns-in-1-clause-value c = λ q. at_one c.args.unit.now c.args.zeros c.args.byte c.in-1.is q

pub returns-in-2-clause-value : goal.returns-in-2-clause-value
returns-in-2-clause-value c = λ q. at_two c.args.unit.now c.args.zeros c.args.byte c.in-2.is c.requires.nonzero q

pub returns-in_default-clause-value : goal.returns-in_default-clause-value
returns-in_default-clause-value c = λ q. with_three c.args.unit.now c.args.zeros c.args.byte (omega arith)
