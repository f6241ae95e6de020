use Rattle.mv_walk_layer.proofs.Telling.{here-told, sps-told}
use Rattle.mv_walk_layer.proofs.laws.the_latest_is_the_one_that_is_asked_for.Goals as goal

pub returns-clause-sps : goal.returns-clause-sps
returns-clause-sps g c = sps-told

pub returns-clause-here : goal.returns-clause-here
returns-clause-here g c = here-told
