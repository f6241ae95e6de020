use Rattle.mv_walk_values.proofs.Referred.{begun_are}
use Rattle.mv_walk_values.proofs.steps.a_picture_is_begun_with_the_parts_of_its_term.Goals as goal

pub returns : goal.returns
returns g c = begun_are
