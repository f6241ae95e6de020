use Rattle.mv_walk_values.proofs.Ready.{none_stand}
use Rattle.mv_walk_values.proofs.steps.no_units_give_no_pictures.Goals as goal

pub returns : goal.returns
returns g c = none_stand _
