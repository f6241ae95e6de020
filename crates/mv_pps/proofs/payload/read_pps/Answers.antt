use Rattle.std.proofs.Common.{Err, sym, subst}
use Rattle.mv_syntax.specs.Bits.{byte_bits}
use Rattle.mv_syntax.specs.Payload.{ReadsPayload, CutPayload}
use Rattle.mv_syntax.proofs.PayloadLaws.{reads-read_payload}
use Rattle.mv_rules.specs.declared.rule.Rule.TheVariants.{PpsSyntax}
use Rattle.mv_fields.specs.Reading.{ReadsWhole}
use Rattle.mv_fields.proofs.Payloads.{payload_refused}
use Rattle.mv_pps.specs.Pps.{pps}
use Rattle.mv_pps.proofs.payload.read_pps.Goals as goal

pub returns-in-Ok : goal.returns-in-Ok
returns-in-Ok c = reads-read_payload pps (byte_bits c.args.payload.now) c.in-Ok.value c.in-Ok.ensures

pub returns-in-Err : goal.returns-in-Err
returns-in-Err c =
    subst (λ e. ReadsWhole (ReadsPayload pps (byte_bits c.args.payload.now)) (CutPayload pps (byte_bits c.args.payload.now)) PpsSyntax (Err e)) (sym c.refusal.ensures)
    (payload_refused pps (byte_bits c.args.payload.now) PpsSyntax c.in-Err.fault c.in-Err.ensures)
