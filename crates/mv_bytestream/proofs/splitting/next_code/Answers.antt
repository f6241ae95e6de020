use Rattle.mv_bytestream.proofs.Codes.{next-clean, next-stands, none-clean}
use Rattle.mv_bytestream.proofs.splitting.next_code.Goals as goal

pub returns-in-Some-clause-clean : goal.returns-in-Some-clause-clean
returns-in-Some-clause-clean c = next-clean c.args.bytes.now c.args.from c.in-Some.at c.in-Some.ensures.0.before

pub returns-in-Some-clause-stands : goal.returns-in-Some-clause-stands
returns-in-Some-clause-stands c = next-stands c.args.bytes.now c.args.from c.in-Some.at c.requires c.in-Some.ensures.1

pub returns-in-None-clause-clean : goal.returns-in-None-clause-clean
returns-in-None-clause-clean c = none-clean c.args.bytes.now c.args.from c.requires c.in-None.ensures
