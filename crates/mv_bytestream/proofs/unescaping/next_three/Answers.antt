use Rattle.mv_bytestream.proofs.Prevented.{next-prevented, none-prevented}
use Rattle.mv_bytestream.proofs.unescaping.next_three.Goals as goal

pub returns-in-Some-clause-run : goal.returns-in-Some-clause-run
returns-in-Some-clause-run c = next-prevented c.args.unit.now c.args.from c.in-Some.zeros c.requires.low c.requires.high c.in-Some.ensures.0.before c.in-Some.ensures.1

pub returns-in-None-clause-run : goal.returns-in-None-clause-run
returns-in-None-clause-run c = none-prevented c.args.unit.now c.args.from c.requires.low c.requires.high c.in-None.ensures
