use Rattle.mv_sps.specs.Sps.{sps_payload}
use Rattle.mv_contexts.proofs.SpsLaws.{sps-fits}
use Rattle.mv_contexts.proofs.laws.a_valid_sequence_parameter_set_fits.Goals as goal

pub returns : goal.returns
unfolding sps_payload
returns c = λ layer vps_sub_layers v tail valid. sps-fits layer vps_sub_layers v valid.fields
