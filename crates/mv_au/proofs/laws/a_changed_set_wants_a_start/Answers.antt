use Rattle.mv_au.proofs.StateLaws.{mid_cvs-is}
use Rattle.mv_au.proofs.laws.a_changed_set_wants_a_start.Goals as goal

pub returns : goal.returns
returns c = mid_cvs-is
