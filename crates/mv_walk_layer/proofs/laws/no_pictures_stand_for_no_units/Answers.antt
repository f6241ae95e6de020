use Rattle.mv_walk_layer.proofs.Stepping.{none-yet}
use Rattle.mv_walk_layer.proofs.laws.no_pictures_stand_for_no_units.Goals as goal

pub returns : goal.returns
returns g c = none-yet
