use Rattle.mv_walk_laws.proofs.Lengths.{received-few}
use Rattle.mv_walk_laws.proofs.stream_laws.no_more_sets_than_units.Goals as goal

pub returns : goal.returns
returns g c = received-few
