use Rattle.std.proofs.Common.{ap, ◌∙◌, sym, Ok, option_map}
use Rattle.mv_fields.specs.Faults.{means}
use Rattle.mv_sps.specs.Sps.{sps_payload}
use Rattle.mv_fields.proofs.Payloads.{too_long, fields_fault, ends, ends_fault}
use Rattle.mv_sps.proofs.payload.payload_of.Goals as goal

pub returns-then-payload-gt-MAX_BYTES : goal.returns-then-payload-gt-MAX_BYTES
unfolding sps_payload
returns-then-payload-gt-MAX_BYTES c = too_long (sps_payload c.args.layer c.args.vps_sub_layers) c.args.payload.now c.if-payload-gt-MAX_BYTES.true

pub returns-in-Err : goal.returns-in-Err
unfolding sps_payload
returns-in-Err c = fields_fault (sps_payload c.args.layer c.args.vps_sub_layers) c.args.payload.now c.new-bits.result (means c.in-Err.fault) c.if-payload-gt-MAX_BYTES.false c.new-bits.ensures.all c.in-Err.ensures

pub returns-in-Ok-payload_end_of : goal.returns-in-Ok-payload_end_of
unfolding sps_payload
returns-in-Ok-payload_end_of c =
    ends (sps_payload c.args.layer c.args.vps_sub_layers) c.args.payload.now c.new-bits.result c.fields_of.new.bits c.in-Ok.value.0 _ _ c.has_tail-tailed.ensures c.if-payload-gt-MAX_BYTES.false
    c.new-bits.ensures.whole c.new-bits.ensures.all c.in-Ok.ensures.0 c.in-Ok.ensures.1 c.in-Ok-payload_end_of.ensures
    ∙ ap (λ s. Ok (s.0, option_map (λ v. v.items) c.in-Ok-payload_end_of.tail)) (sym c.value.view_is)

pub returns-in-Err-payload_end_of : goal.returns-in-Err-payload_end_of
unfolding sps_payload
returns-in-Err-payload_end_of c =
    ends_fault (sps_payload c.args.layer c.args.vps_sub_layers) c.args.payload.now c.new-bits.result c.fields_of.new.bits c.in-Ok.value.0 (means c.in-Err-payload_end_of.fault) _ c.has_tail-tailed.ensures c.if-payload-gt-MAX_BYTES.false
    c.new-bits.ensures.whole c.new-bits.ensures.all c.in-Ok.ensures.0 c.in-Ok.ensures.1
    c.in-Err-payload_end_of.ensures
