use Rattle.std.proofs.Common.{Ok, subst}
use Rattle.mv_syntax.specs.Bits.{byte_bits}
use Rattle.mv_units.specs.Escapes.{payload}
use Rattle.mv_slice.specs.Header.{ReadsStart}
use Rattle.mv_slice.specs.Slice.{slice_header}
use Rattle.mv_contexts.proofs.Reading.{header-here, why-here, why-none}
use Rattle.mv_contexts.proofs.units.read_whole.Goals as goal

pub returns-in-Ok-Some-clause-header : goal.returns-in-Ok-Some-clause-header
returns-in-Ok-Some-clause-header c =
    header-here c.args.ctx.now c.args.head c.args.unit.now c.in-Ok-Some.read
    (subst (λ o. ReadsStart (slice_header c.args.ctx.now c.args.head.kind) (byte_bits (payload c.args.unit.now)) (Ok o)) c.in-Ok-Some.field-0-is c.in-Ok-Some.ensures)

pub returns-in-Ok-None-clause-refused : goal.returns-in-Ok-None-clause-refused
returns-in-Ok-None-clause-refused c =
    why-none c.args.ctx.now c.args.head c.args.unit.now
    (subst (λ o. ReadsStart (slice_header c.args.ctx.now c.args.head.kind) (byte_bits (payload c.args.unit.now)) (Ok o)) c.in-Ok-None.field-0-is c.in-Ok-None.ensures)

pub returns-in-Err-clause-refused : goal.returns-in-Err-clause-refused
returns-in-Err-clause-refused c = why-here c.args.ctx.now c.args.head c.args.unit.now c.in-Err.fault c.in-Err.ensures
