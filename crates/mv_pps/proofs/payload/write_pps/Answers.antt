use Rattle.std.proofs.Common.{ap}
use Rattle.mv_fields.proofs.Payloads.{written, written_bits}
use Rattle.mv_pps.specs.Pps.{pps}
use Rattle.mv_pps.proofs.payload.write_pps.Goals as goal

pub into_bytes-requires-clause-bits : goal.into_bytes-requires-clause-bits
into_bytes-requires-clause-bits c =
    written_bits pps c.args.value.now _ _ _ _ c.bits-out.ensures c.in_ok-print_fields.ensures (ap (λ v. v.1) c.value.view_is) c.in_ok-end.ensures.printed

pub returns : goal.returns
returns c =
    written pps c.args.value.now _ _ _ _ _ c.bits-out.ensures c.in_ok-print_fields.ensures (ap (λ v. v.1) c.value.view_is) c.in_ok-end.ensures.printed
    c.into_bytes.ensures
