use Rattle.std.proofs.Common.{ap, inl}
use Rattle.mv_fields.proofs.Payloads.{written, written_bits}
use Rattle.mv_vps.specs.Vps.{vps}
use Rattle.mv_vps.proofs.Extending.{few_valid, args_valid}
use Rattle.mv_vps.proofs.Getting.{base_valid}
use Rattle.mv_vps.proofs.payload.write_vps.Goals as goal

pub print_fields-requires-clause-at_head : goal.print_fields-requires-clause-at_head
print_fields-requires-clause-at_head c = inl c.bits-out.ensures

pub print_fields-requires-clause-few : goal.print_fields-requires-clause-few
print_fields-requires-clause-few c = few_valid c.args.value.now.coded.0.base (base_valid c.args.value.now.coded.0 c.requires.payload.fields)

pub print_fields-requires-clause-args : goal.print_fields-requires-clause-args
print_fields-requires-clause-args c = args_valid c.args.value.now.coded.0.base (base_valid c.args.value.now.coded.0 c.requires.payload.fields)

pub into_bytes-requires-clause-bits : goal.into_bytes-requires-clause-bits
into_bytes-requires-clause-bits c = written_bits vps c.args.value.now.coded _ _ _ _ c.bits-out.ensures c.in_ok-print_fields.ensures (ap (λ v. v.coded.1) c.value.view_is) c.in_ok-end.ensures.printed

pub returns : goal.returns
returns c =
    written vps c.args.value.now.coded _ _ _ _ _ c.bits-out.ensures c.in_ok-print_fields.ensures (ap (λ v. v.coded.1) c.value.view_is) c.in_ok-end.ensures.printed
    c.into_bytes.ensures
