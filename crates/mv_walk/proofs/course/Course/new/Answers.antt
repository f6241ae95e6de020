use Rattle.std.proofs.Common.{refl}
use Rattle.mv_walk.proofs.Empty.{course-empty}
use Rattle.mv_walk.proofs.course.Course.new.Goals as goal

pub returns-clause-stood : goal.returns-clause-stood
returns-clause-stood g c = course-empty _ refl refl c.in_ok-sets.ensures.stands c.new-3.ensures c.in_ok-decoder.ensures.keeps
