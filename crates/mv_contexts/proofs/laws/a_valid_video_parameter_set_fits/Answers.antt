use Rattle.mv_contexts.proofs.VpsLaws.{vps-fits}
use Rattle.mv_contexts.proofs.laws.a_valid_video_parameter_set_fits.Goals as goal

pub returns : goal.returns
returns c = vps-fits
