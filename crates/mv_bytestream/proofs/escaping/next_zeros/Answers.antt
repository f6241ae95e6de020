use Rattle.mv_bytestream.proofs.Prevented.{next-zeros, none-zeros}
use Rattle.mv_bytestream.proofs.escaping.next_zeros.Goals as goal

pub returns-in-Some-clause-run : goal.returns-in-Some-clause-run
returns-in-Some-clause-run c = next-zeros c.args.payload.now c.args.from c.in-Some.at c.in-Some.ensures.0.before c.in-Some.ensures.1

pub returns-in-None-clause-last : goal.returns-in-None-clause-last
returns-in-None-clause-last c = none-zeros c.args.payload.now c.args.from c.in-None.ensures
