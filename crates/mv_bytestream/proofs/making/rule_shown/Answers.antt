use Rattle.std.proofs.Common.{arith}
use Rattle.mv_bytestream.proofs.Emulates.{shown-emulation, shown-long, shown-none}
use Rattle.mv_bytestream.proofs.making.rule_shown.Goals as goal

pub returns-then-emulates-within-clause-rule : goal.returns-then-emulates-within-clause-rule
returns-then-emulates-within-clause-rule c = shown-emulation c.args.unit.now c.args.zeros c.args.byte c.min.result c.emulates.result c.requires.most c.emulates.ensures.value c.min.ensures c.if-emulates-within.true

pub returns-then-room-zeros-clause-rule : goal.returns-then-room-zeros-clause-rule
returns-then-room-zeros-clause-rule c = shown-long c.args.unit.now c.args.zeros c.args.byte c.min.result c.emulates.result c.requires.most c.emulates.ensures.value c.min.ensures c.if-emulates-within.false c.if-room-zeros.true

pub returns-else-room-zeros-clause-rule : goal.returns-else-room-zeros-clause-rule
returns-else-room-zeros-clause-rule c = shown-none c.args.unit.now c.args.zeros c.args.byte c.min.result c.emulates.result c.requires.most c.emulates.ensures.value c.min.ensures c.if-emulates-within.false (omega (arith, c.if-room-zeros.false))
