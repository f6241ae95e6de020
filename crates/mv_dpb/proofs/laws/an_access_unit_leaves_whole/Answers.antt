use Rattle.mv_dpb.proofs.LeavingLaws.{given-rest, leave_whole}
use Rattle.mv_dpb.proofs.laws.an_access_unit_leaves_whole.Goals as goal

pub returns-clause-whole : goal.returns-clause-whole
returns-clause-whole g c = λ reorder room units whole n h. leave_whole reorder room units whole n h

pub returns-clause-given : goal.returns-clause-given
returns-clause-given g c = given-rest
