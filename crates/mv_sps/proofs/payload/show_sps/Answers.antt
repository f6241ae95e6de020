use Rattle.std.proofs.Common.{ap}
use Rattle.mv_fields.proofs.Payloads.{shown}
use Rattle.mv_sps.specs.Sps.{sps_payload}
use Rattle.mv_sps.proofs.Bounds.{fields_few, fields_lsb}
use Rattle.mv_sps.proofs.payload.show_sps.Goals as goal

pub print_fields-requires-clause-few : goal.print_fields-requires-clause-few
unfolding sps_payload
print_fields-requires-clause-few c = fields_few c.args.layer c.args.vps_sub_layers c.args.sps.now.0 c.requires.subs c.requires.valid.fields

pub print_fields-requires-clause-lsb : goal.print_fields-requires-clause-lsb
unfolding sps_payload
print_fields-requires-clause-lsb c = fields_lsb c.args.layer c.args.vps_sub_layers c.args.sps.now.0 c.requires.valid.fields

pub print_fields-requires-clause-valid : goal.print_fields-requires-clause-valid
unfolding sps_payload
print_fields-requires-clause-valid c = c.requires.valid.fields

pub returns : goal.returns
unfolding sps_payload
returns c =
    shown (sps_payload c.args.layer c.args.vps_sub_layers) c.args.sps.now _ _ _ _ c.requires.text c.in_ok-print_fields.ensures (ap (λ s. s.1) c.sps.view_is) c.in_ok-end.ensures.printed
