use Rattle.mv_sets.proofs.Valid.{pps-kept}
use Rattle.mv_sets.proofs.laws.a_valid_picture_parameter_set_can_be_kept.Goals as goal

pub returns : goal.returns
returns c = λ v tail valid. pps-kept v valid.fields
