use Rattle.std.proofs.Common.{ap, ◌∙◌, sym, Ok, option_map, length, arith}
use Rattle.mv_syntax.proofs.BitLaws.{length-byte_bits}
use Rattle.mv_fields.specs.Faults.{means}
use Rattle.mv_fields.proofs.Payloads.{too_long, fields_fault, ends, ends_fault}
use Rattle.mv_vps.specs.Vps.{vps}
use Rattle.mv_vps.proofs.payload.payload_of.Goals as goal

pub returns-then-payload-gt-MAX_BYTES-clause-fills : goal.returns-then-payload-gt-MAX_BYTES-clause-fills
returns-then-payload-gt-MAX_BYTES-clause-fills c = too_long vps c.args.payload.now c.if-payload-gt-MAX_BYTES.true

pub fields_of-requires-clause-at_head : goal.fields_of-requires-clause-at_head
fields_of-requires-clause-at_head c = c.new-bits.ensures.whole ∙ sym (ap length c.new-bits.ensures.all ∙ length-byte_bits c.args.payload.now)

pub fields_of-requires-clause-few : goal.fields_of-requires-clause-few
fields_of-requires-clause-few c = omega (arith, c.if-payload-gt-MAX_BYTES.false, c.new-bits.ensures.whole)

pub returns-in-Err-clause-fills : goal.returns-in-Err-clause-fills
returns-in-Err-clause-fills c = fields_fault vps c.args.payload.now c.new-bits.result (means c.in-Err.fault) c.if-payload-gt-MAX_BYTES.false c.new-bits.ensures.all c.in-Err.ensures.fills

pub returns-in-Ok-payload_end_of-clause-fills : goal.returns-in-Ok-payload_end_of-clause-fills
returns-in-Ok-payload_end_of-clause-fills c =
    ends vps c.args.payload.now c.new-bits.result c.fields_of.new.bits c.in-Ok.value.coded.0 _ _ c.has_tail-tailed.ensures c.if-payload-gt-MAX_BYTES.false c.new-bits.ensures.whole
    c.new-bits.ensures.all c.in-Ok.ensures.fills.0 c.in-Ok.ensures.fills.1 c.in-Ok-payload_end_of.ensures
    ∙ ap (λ v. Ok (v.coded.0, option_map (λ t. t.items) c.in-Ok-payload_end_of.tail)) (sym c.value.view_is)

pub returns-in-Err-payload_end_of-clause-fills : goal.returns-in-Err-payload_end_of-clause-fills
returns-in-Err-payload_end_of-clause-fills c =
    ends_fault vps c.args.payload.now c.new-bits.result c.fields_of.new.bits c.in-Ok.value.coded.0 (means c.in-Err-payload_end_of.fault) _ c.has_tail-tailed.ensures c.if-payload-gt-MAX_BYTES.false
    c.new-bits.ensures.whole c.new-bits.ensures.all c.in-Ok.ensures.fills.0 c.in-Ok.ensures.fills.1 c.in-Err-payload_end_of.ensures
