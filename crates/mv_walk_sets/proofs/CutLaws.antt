-- By which rules payloads of parameter sets are cut.
use Rattle.std.proofs.Common.{◌≡◌, inl, inr, ℕ, Bool, true, List, ◌∷◌, refl, ap, ◌∙◌}
use Rattle.mv_rules.specs.declared.rule.Rule.{Rule}
use Rattle.mv_rules.specs.Rule.{rule_number}
use Rattle.mv_syntax.specs.Payload.{CutPayload, Payload}
use Rattle.mv_pictures.specs.UnitRules.{pps_rules, sps_rules, vps_rules}
use Rattle.mv_pps.specs.Pps.{pps}
use Rattle.mv_sps.specs.Sps.{sps_payload}
use Rattle.mv_vps.specs.Vps.{vps}
use Rattle.mv_walk_sets.specs.Cuts.{is_of}
use Rattle.mv_walk_sets.proofs.Trying.{Tries, cut_tried}
use Rattle.mv_walk_sets.proofs.PpsTries.{tries_pps_fields}
use Rattle.mv_walk_sets.proofs.SpsTries.{tries_sps_fields}
use Rattle.mv_walk_sets.proofs.VpsTries.{tries_vps_fields}

cut_payload : {A : Type 0} (ok : ℕ → Bool) (p : Payload A) (b : List Bool) (r : ℕ) → Tries ok p.fields → ok (rule_number p.size_rule) ≡ true → CutPayload p b r → ok r ≡ true
cut_payload ok p b r tries size (inl (long, same)) = ap ok same ∙ size
cut_payload ok p b r tries size (inr (fits, cut)) = cut_tried ok p.fields b r tries cut

pub pps_cuts : (b : List Bool) (r : ℕ) → CutPayload pps b r → is_of pps_rules r ≡ true
pps_cuts b r cut = cut_payload (is_of pps_rules) pps b r tries_pps_fields refl cut

pub sps_cuts : (layer vps_sub_layers : ℕ) (b : List Bool) (r : ℕ) → CutPayload (sps_payload layer vps_sub_layers) b r → is_of (Rule.SpsLimit ∷ sps_rules) r ≡ true
unfolding sps_payload
sps_cuts layer vps_sub_layers b r cut = cut_payload (is_of (Rule.SpsLimit ∷ sps_rules)) (sps_payload layer vps_sub_layers) b r (tries_sps_fields layer vps_sub_layers) refl cut

pub vps_cuts : (b : List Bool) (r : ℕ) → CutPayload vps b r → is_of vps_rules r ≡ true
vps_cuts b r cut = cut_payload (is_of vps_rules) vps b r tries_vps_fields refl cut
