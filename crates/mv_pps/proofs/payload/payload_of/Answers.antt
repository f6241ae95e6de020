use Rattle.std.proofs.Common.{ap, ◌∙◌, sym, Ok}
use Rattle.mv_fields.specs.Faults.{means}
use Rattle.mv_fields.proofs.Payloads.{too_long, fields_fault, ends, ends_fault}
use Rattle.mv_pps.specs.Pps.{pps}
use Rattle.mv_pps.proofs.payload.payload_of.Goals as goal

pub returns-then-payload-gt-MAX_BYTES : goal.returns-then-payload-gt-MAX_BYTES
returns-then-payload-gt-MAX_BYTES c = too_long pps c.args.payload.now c.if-payload-gt-MAX_BYTES.true

pub returns-in-Err : goal.returns-in-Err
returns-in-Err c = fields_fault pps c.args.payload.now c.new-bits.result (means c.in-Err.fault) c.if-payload-gt-MAX_BYTES.false c.new-bits.ensures.all c.in-Err.ensures

pub returns-in-Ok-payload_end_of : goal.returns-in-Ok-payload_end_of
returns-in-Ok-payload_end_of c =
    ends pps c.args.payload.now c.new-bits.result c.fields_of.new.bits _ _ _ c.has_tail.ensures c.if-payload-gt-MAX_BYTES.false
    c.new-bits.ensures.whole c.new-bits.ensures.all (c.in-Ok.ensures.0 ∙ ap (λ v. Ok (v.0, c.fields_of.new.bits.left)) (sym c.value.view_is)) c.in-Ok.ensures.1
    c.in-Ok-payload_end_of.ensures

pub returns-in-Err-payload_end_of : goal.returns-in-Err-payload_end_of
returns-in-Err-payload_end_of c =
    ends_fault pps c.args.payload.now c.new-bits.result c.fields_of.new.bits _ (means c.in-Err-payload_end_of.fault) _ c.has_tail.ensures c.if-payload-gt-MAX_BYTES.false
    c.new-bits.ensures.whole c.new-bits.ensures.all (c.in-Ok.ensures.0 ∙ ap (λ v. Ok (v.0, c.fields_of.new.bits.left)) (sym c.value.view_is)) c.in-Ok.ensures.1
    c.in-Err-payload_end_of.ensures
