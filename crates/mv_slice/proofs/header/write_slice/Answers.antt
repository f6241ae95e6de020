use Rattle.std.proofs.Common.{◌∙◌}
use Rattle.mv_slice.specs.Slice.{slice_fields, slice_header}
use Rattle.mv_slice.proofs.Heads.{head_written, head_is_bits}
use Rattle.mv_slice.proofs.header.write_slice.Goals as goal

pub into_bytes-requires-clause-bits : goal.into_bytes-requires-clause-bits
into_bytes-requires-clause-bits c =
    head_is_bits (slice_fields c.args.ctx.now c.args.head.kind) c.args.value.now _ _ _ c.bits-out.ensures c.in_ok-print_fields.ensures c.in_ok-end.ensures.printed

pub returns : goal.returns
unfolding slice_header
returns c =
    head_written (slice_fields c.args.ctx.now c.args.head.kind) c.args.value.now _ _ _ _ c.bits-out.ensures c.in_ok-print_fields.ensures c.in_ok-end.ensures.printed
    c.into_bytes.ensures
