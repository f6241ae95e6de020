use Rattle.std.proofs.Common.{Err, Ok, Some, subst}
use Rattle.mv_syntax.specs.Bits.{byte_bits}
use Rattle.mv_units.specs.Escapes.{payload}
use Rattle.mv_slice.specs.Header.{ReadsStart}
use Rattle.mv_slice.specs.Slice.{slice_header}
use Rattle.mv_contexts.proofs.Reading.{header-there, why-there}
use Rattle.mv_contexts.proofs.units.read_unit.Goals as goal

pub returns-in-Ok-Some-clause-header : goal.returns-in-Ok-Some-clause-header
returns-in-Ok-Some-clause-header c =
    let t = slice_header c.args.ctx.now c.args.head.kind in
    header-there c.args.ctx.now c.args.head 128 c.args.unit.now c.in-Ok-Some.read
    (subst (λ s. ReadsStart t (byte_bits (payload s)) (Ok (Some c.in-Ok-Some.read))) c.first_bytes.ensures
    (subst (λ o. ReadsStart t (byte_bits (payload c.first_bytes.result.now)) (Ok o)) c.in-Ok-Some.field-0-is c.in-Ok-Some.ensures))

pub returns-in-Err-clause-refused : goal.returns-in-Err-clause-refused
returns-in-Err-clause-refused c =
    why-there c.args.ctx.now c.args.head 128 c.args.unit.now c.in-Err.fault
    (subst (λ s. ReadsStart (slice_header c.args.ctx.now c.args.head.kind) (byte_bits (payload s)) (Err c.in-Err.fault)) c.first_bytes.ensures c.in-Err.ensures)
