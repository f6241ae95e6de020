use Rattle.mv_au.proofs.TrackerLaws.{stands-over}
use Rattle.mv_au.proofs.laws.a_stray_is_of_no_access_unit.Goals as goal

pub returns : goal.returns
returns c = stands-over
