use Rattle.mv_sps.specs.Sps.{sps_payload}
use Rattle.mv_sets.proofs.Valid.{sps-kept}
use Rattle.mv_sets.proofs.laws.a_valid_sequence_parameter_set_can_be_kept.Goals as goal

pub returns : goal.returns
unfolding sps_payload
returns c = λ layer vps_sub_layers v tail valid. sps-kept layer vps_sub_layers v valid.fields
