-- A payload that is refused reads as no whole video parameter set, whatever is derived of it.
use Rattle.std.proofs.Common.{◌≡◌, Bool, List, Err, inl, inr}
use Rattle.mv_syntax.specs.Payload.{ReadsPayload, CutPayload}
use Rattle.mv_rules.specs.declared.rule.Rule.TheVariants.{VpsSyntax}
use Rattle.mv_rules.specs.declared.refusal.ReadFault.{ReadFault}
use Rattle.mv_rules.specs.declared.refusal.ReadFault.TheVariants.{Refused, Memory}
use Rattle.mv_fields.specs.Reading.{ReadsWhole}
use Rattle.mv_vps.specs.Vps.{vps, WholeVps}

pub whole_refused : (b : List Bool) (refusal : ReadFault) → ReadsWhole (ReadsPayload vps b) (CutPayload vps b) VpsSyntax (Err refusal)
    → ReadsWhole {X = WholeVps} (λ v. ReadsPayload vps b v.coded) (CutPayload vps b) VpsSyntax (Err refusal)
whole_refused b (Refused rule) (inl cut) = inl cut
whole_refused b (Refused rule) (inr (syntax, (none, uncut))) = inr (syntax, ((λ v. none (v.0.coded, v.1)), uncut))
whole_refused b Memory h = tt
