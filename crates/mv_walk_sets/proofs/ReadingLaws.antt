-- What is answered of a payload, in the words of its reading.
use Rattle.std.proofs.Common.{◌≡◌, inl, inr, ℕ, Bool, true, List, ◌∷◌, Option, Result, Ok, Err, refl, sym, ap, ◌∙◌}
use Rattle.std.specs.Prelude.{IfOk}
use Rattle.mv_syntax.specs.Bits.{Fault, short, breaks, byte_bits}
use Rattle.mv_syntax.specs.Payload.{CutPayload, Payload, ReadsPayload}
use Rattle.mv_syntax.specs.inner.PayloadReader.{read_payload}
use Rattle.mv_syntax.proofs.PayloadLaws.{payload_answered}
use Rattle.mv_rules.specs.Rule.{rule_number}
use Rattle.mv_rules.specs.declared.rule.Rule.{Rule}
use Rattle.mv_rules.specs.declared.refusal.ReadFault.{ReadFault}
use Rattle.mv_rules.specs.declared.refusal.ReadFault.TheVariants.{Refused, Memory as out_of_memory}
use Rattle.mv_fields.specs.Reading.{ReadsWhole}
use Rattle.mv_vps.specs.Vps.{ValidVps, VpsValue, WholeVps, vps}
use Rattle.mv_sps.specs.Sps.{sps_payload}
use Rattle.mv_pps.specs.Pps.{pps}
use Rattle.mv_pictures.specs.Carried.{whole_vps}
use Rattle.mv_pictures.specs.UnitRules.{pps_rules, sps_rules, vps_rules}
use Rattle.mv_walk_sets.specs.Cuts.{is_of}
use Rattle.mv_walk_sets.specs.InForce.{IsRead}
use Rattle.mv_walk_sets.specs.Readings.{Reads, as_whole, pps_reading, sps_reading, vps_reading}
use Rattle.mv_walk_sets.proofs.CutLaws.{pps_cuts, sps_cuts, vps_cuts}

neither : {A : Type 0} (p : Payload A) (b : List Bool) → ¬ ((v : A × Option (List Bool)) × ReadsPayload p b v) → ¬ ((r : ℕ) × CutPayload p b r) → read_payload p b ≡ Err short
neither {A} p b none uncut = go (read_payload p b) refl
  where
    go : (x : Result (A × Option (List Bool)) Fault) → read_payload p b ≡ x → read_payload p b ≡ Err short
    go (Ok v) e = absurd (none (v, (payload_answered p b).is_value v e))
    go (Err short) e = e
    go (Err (breaks r)) e = absurd (uncut (r, (payload_answered p b).is_rule r e))

pub reads_payload : {A : Type 0} (p : Payload A) (b : List Bool) (syntax : Rule) (r : Result (A × Option (List Bool)) ReadFault) →
    ReadsWhole (ReadsPayload p b) (CutPayload p b) syntax r → Reads syntax (read_payload p b) r
reads_payload p b syntax (Ok v) h = (payload_answered p b).value v h
reads_payload p b syntax (Err (Refused rule)) (inl cut) = inl ((payload_answered p b).rule (rule_number rule) cut)
reads_payload p b syntax (Err (Refused rule)) (inr (same, (none, uncut))) = inr (same, neither p b none uncut)
reads_payload p b syntax (Err out_of_memory) h = tt

pub whole_is : (v : WholeVps) → ValidVps v → whole_vps v.coded ≡ v
whole_is v valid = ap (λ d. record { coded = v.coded; derived = d }) (sym valid.derived)

vps_none : (b : List Bool) → ¬ ((v : WholeVps) × ReadsPayload vps b v.coded) → ¬ ((v : VpsValue × Option (List Bool)) × ReadsPayload vps b v)
vps_none b none = λ x. none (whole_vps x.0, x.1)

pub vps_reads : (p : List ℕ) (r : Result WholeVps ReadFault) → ReadsWhole {X = WholeVps} (λ v. ReadsPayload vps (byte_bits p) v.coded) (CutPayload vps (byte_bits p)) Rule.VpsSyntax r →
    IfOk r (λ v. ValidVps v) → Reads Rule.VpsSyntax (vps_reading p) r
unfolding vps_reading
vps_reads p (Ok v) h valid = ap as_whole ((payload_answered vps (byte_bits p)).value v.coded h) ∙ ap Ok (whole_is v valid)
vps_reads p (Err (Refused rule)) (inl cut) valid = inl (ap as_whole ((payload_answered vps (byte_bits p)).rule (rule_number rule) cut))
vps_reads p (Err (Refused rule)) (inr (same, (none, uncut))) valid = inr (same, ap as_whole (neither vps (byte_bits p) (vps_none (byte_bits p) none) uncut))
vps_reads p (Err out_of_memory) h valid = tt

pub vps_is_read : (p : List ℕ) (v : WholeVps) → vps_reading p ≡ Ok v → ValidVps v → IsRead (record { payload = p; value = v })
unfolding vps_reading
vps_is_read p v reads valid = record { reads = (payload_answered vps (byte_bits p)).is_value v.coded (go (read_payload vps (byte_bits p)) reads); valid = valid }
  where
    go : (x : Result (VpsValue × Option (List Bool)) Fault) → as_whole x ≡ Ok v → x ≡ Ok (v.coded)
    go (Ok c) same = let whole : whole_vps c ≡ v = cc in ap Ok (ap (λ (w : WholeVps). w.coded) whole)
    go (Err fault) same = absurd (cc)

-- ---- the rules that a reading is cut by
pub vps_tried : (p : List ℕ) (r : ℕ) → vps_reading p ≡ Err (breaks r) → is_of vps_rules r ≡ true
unfolding vps_reading
vps_tried p r e = vps_cuts (byte_bits p) r ((payload_answered vps (byte_bits p)).is_rule r (go (read_payload vps (byte_bits p)) e))
  where
    go : (x : Result (VpsValue × Option (List Bool)) Fault) → as_whole x ≡ Err (breaks r) → x ≡ Err (breaks r)
    go (Ok v) same = absurd (cc)
    go (Err short) same = absurd (cc)
    go (Err (breaks s)) same = cc

pub sps_tried : (layer subs : ℕ) (p : List ℕ) (r : ℕ) → sps_reading layer subs p ≡ Err (breaks r) → is_of (Rule.SpsLimit ∷ sps_rules) r ≡ true
sps_tried layer subs p r e = sps_cuts layer subs (byte_bits p) r ((payload_answered (sps_payload layer subs) (byte_bits p)).is_rule r e)

pub pps_tried : (p : List ℕ) (r : ℕ) → pps_reading p ≡ Err (breaks r) → is_of pps_rules r ≡ true
pps_tried p r e = pps_cuts (byte_bits p) r ((payload_answered pps (byte_bits p)).is_rule r e)
