use Rattle.std.proofs.Common.{arith, refl}
use Rattle.mv_bytestream.proofs.Run.{found-clean, found-quiet, found-ends, none-clean, none-quiet, less-ends, all-ends}
use Rattle.mv_bytestream.proofs.making.run_length.Goals as goal

pub returns-in-Some-clause-clean : goal.returns-in-Some-clause-clean
returns-in-Some-clause-clean c = found-clean c.args.bytes.now c.in-Some.at c.in-Some.ensures.0.before c.in-Some.ensures.1

pub returns-in-Some-clause-quiet : goal.returns-in-Some-clause-quiet
returns-in-Some-clause-quiet c = found-quiet c.args.bytes.now c.in-Some.at c.in-Some.ensures.0.before c.in-Some.ensures.1

pub returns-in-Some-clause-ends : goal.returns-in-Some-clause-ends
returns-in-Some-clause-ends c = found-ends c.args.bytes.now c.in-Some.at c.in-Some.ensures.0.before c.in-Some.ensures.1

pub returns-in-None-clause-clean : goal.returns-in-None-clause-clean
returns-in-None-clause-clean c = none-clean c.args.bytes.now _ c.in-None.ensures (omega arith)

pub returns-in-None-clause-quiet : goal.returns-in-None-clause-quiet
returns-in-None-clause-quiet c = none-quiet c.args.bytes.now _ c.in-None.ensures (omega arith)

pub returns-in-None-clause-ends : goal.returns-in-None-clause-ends
returns-in-None-clause-ends c = less-ends c.args.bytes.now _ c.in-None.ensures c.if-bytes-gt0.true refl c.if-bytes-eq0.true

pub returns-in-None-2-clause-clean : goal.returns-in-None-2-clause-clean
returns-in-None-2-clause-clean c = none-clean c.args.bytes.now _ c.in-None-2.ensures (omega arith)

pub returns-in-None-2-clause-quiet : goal.returns-in-None-2-clause-quiet
returns-in-None-2-clause-quiet c = none-quiet c.args.bytes.now _ c.in-None-2.ensures (omega arith)

pub returns-in-None-2-clause-ends : goal.returns-in-None-2-clause-ends
returns-in-None-2-clause-ends c = all-ends c.args.bytes.now _ refl (λ some. c.if-bytes-eq0.false)

pub returns-in-None-2-2-clause-clean : goal.returns-in-None-2-2-clause-clean
returns-in-None-2-2-clause-clean c = none-clean c.args.bytes.now _ c.in-None-2.ensures (omega arith)

pub returns-in-None-2-2-clause-quiet : goal.returns-in-None-2-2-clause-quiet
returns-in-None-2-2-clause-quiet c = none-quiet c.args.bytes.now _ c.in-None-2.ensures (omega arith)

pub returns-in-None-2-2-clause-ends : goal.returns-in-None-2-2-clause-ends
returns-in-None-2-2-clause-ends c = all-ends c.args.bytes.now _ refl (λ some. absurd (omega (arith, some, c.if-bytes-gt0.false)))
