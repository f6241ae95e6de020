use Rattle.std.proofs.Common.{refl}
use Rattle.mv_walk.proofs.course.Course.put_new.Goals as goal

pub returns : goal.returns
returns g c = refl
