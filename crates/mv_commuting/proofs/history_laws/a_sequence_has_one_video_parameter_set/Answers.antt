use Rattle.mv_commuting.proofs.Extracts.{seats-of}
use Rattle.mv_commuting.proofs.history_laws.a_sequence_has_one_video_parameter_set.Goals as goal

pub returns : goal.returns
returns c = seats-of
