use Rattle.std.proofs.Common.{ap, inr}
use Rattle.mv_fields.proofs.Payloads.{shown}
use Rattle.mv_vps.specs.Vps.{vps}
use Rattle.mv_vps.proofs.Extending.{few_valid, args_valid}
use Rattle.mv_vps.proofs.Getting.{base_valid}
use Rattle.mv_vps.proofs.payload.show_vps.Goals as goal

pub print_fields-requires-clause-at_head : goal.print_fields-requires-clause-at_head
print_fields-requires-clause-at_head c = inr c.requires.text

pub print_fields-requires-clause-few : goal.print_fields-requires-clause-few
print_fields-requires-clause-few c = few_valid c.args.value.now.coded.0.base (base_valid c.args.value.now.coded.0 c.requires.valid.payload.fields)

pub print_fields-requires-clause-args : goal.print_fields-requires-clause-args
print_fields-requires-clause-args c = args_valid c.args.value.now.coded.0.base (base_valid c.args.value.now.coded.0 c.requires.valid.payload.fields)

pub returns : goal.returns
returns c = shown vps c.args.value.now.coded _ _ _ _ c.requires.text c.in_ok-print_fields.ensures (ap (λ v. v.coded.1) c.value.view_is) c.in_ok-end.ensures.printed
