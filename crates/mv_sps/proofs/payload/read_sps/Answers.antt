use Rattle.std.proofs.Common.{Err, sym, subst}
use Rattle.mv_syntax.specs.Bits.{byte_bits}
use Rattle.mv_syntax.specs.Payload.{ReadsPayload, CutPayload}
use Rattle.mv_syntax.proofs.PayloadLaws.{reads-read_payload}
use Rattle.mv_rules.specs.declared.rule.Rule.TheVariants.{SpsSyntax}
use Rattle.mv_fields.specs.Reading.{ReadsWhole}
use Rattle.mv_fields.proofs.Payloads.{payload_refused}
use Rattle.mv_sps.specs.Sps.{sps_payload}
use Rattle.mv_sps.proofs.payload.read_sps.Goals as goal

pub returns-in-Ok : goal.returns-in-Ok
returns-in-Ok c = reads-read_payload (sps_payload c.args.layer c.args.vps_sub_layers) (byte_bits c.args.payload.now) c.in-Ok.value c.in-Ok.ensures

pub returns-in-Err : goal.returns-in-Err
returns-in-Err c =
    subst
    (λ e.
    ReadsWhole (ReadsPayload (sps_payload c.args.layer c.args.vps_sub_layers) (byte_bits c.args.payload.now)) (CutPayload (sps_payload c.args.layer c.args.vps_sub_layers) (byte_bits c.args.payload.now)) SpsSyntax (Err e))
    (sym c.refusal.ensures) (payload_refused (sps_payload c.args.layer c.args.vps_sub_layers) (byte_bits c.args.payload.now) SpsSyntax c.in-Err.fault c.in-Err.ensures)
