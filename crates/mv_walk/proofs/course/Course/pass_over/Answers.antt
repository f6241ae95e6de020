use Rattle.std.proofs.Common.{refl}
use Rattle.mv_walk.proofs.course.Course.pass_over.Goals as goal

pub returns-clause-none : goal.returns-clause-none
returns-clause-none g c = refl

pub returns-clause-rest : goal.returns-clause-rest
returns-clause-rest g c = refl
