use Rattle.std.proofs.Common.{Err, sym, subst}
use Rattle.mv_syntax.specs.Bits.{byte_bits}
use Rattle.mv_syntax.specs.Payload.{ReadsPayload, CutPayload}
use Rattle.mv_syntax.proofs.PayloadLaws.{reads-read_payload}
use Rattle.mv_rules.specs.declared.rule.Rule.TheVariants.{VpsSyntax}
use Rattle.mv_fields.specs.Faults.{refusal}
use Rattle.mv_fields.specs.Reading.{ReadsWhole}
use Rattle.mv_fields.proofs.Payloads.{payload_refused}
use Rattle.mv_vps.specs.Vps.{vps, WholeVps}
use Rattle.mv_vps.proofs.Whole.{whole_refused}
use Rattle.mv_vps.proofs.payload.read_vps.Goals as goal

pub returns-in-Ok : goal.returns-in-Ok
returns-in-Ok c =
    let reads : ReadsPayload vps (byte_bits c.args.payload.now) c.in-Ok.value.coded = reads-read_payload vps (byte_bits c.args.payload.now) c.in-Ok.value.coded c.in-Ok.ensures.fills in
    record { coded = reads; valid = record { payload = reads.valid; derived = c.in-Ok.ensures.derived } }

pub returns-in-Err-clause-coded : goal.returns-in-Err-clause-coded
returns-in-Err-clause-coded c =
    subst (λ e. ReadsWhole {X = WholeVps} (λ v. ReadsPayload vps (byte_bits c.args.payload.now) v.coded) (CutPayload vps (byte_bits c.args.payload.now)) VpsSyntax (Err e)) (sym c.refusal.ensures)
    (whole_refused (byte_bits c.args.payload.now) (refusal VpsSyntax c.in-Err.fault) (payload_refused vps (byte_bits c.args.payload.now) VpsSyntax c.in-Err.fault c.in-Err.ensures.fills))
