use Rattle.mv_contexts.proofs.PpsLaws.{pps-fits}
use Rattle.mv_contexts.proofs.laws.a_valid_picture_parameter_set_fits.Goals as goal

pub returns : goal.returns
returns c = λ v tail valid. pps-fits v valid.fields
