use Rattle.mv_walk_laws.proofs.Bases.{base-behind, base-there}
use Rattle.mv_walk_laws.proofs.picture_laws.a_picture_has_a_base_picture.Goals as goal

pub returns-clause-of_any : goal.returns-clause-of_any
returns-clause-of_any c = base-there

pub returns-clause-of_the_next : goal.returns-clause-of_the_next
returns-clause-of_the_next c = base-behind
