use Rattle.mv_walk_layer.proofs.Stepping.{forgotten, no-picture, other-layer, skipped-base, undecoded}
use Rattle.mv_walk_layer.proofs.laws.other_units_change_no_layer.Goals as goal

pub returns-clause-no_picture : goal.returns-clause-no_picture
returns-clause-no_picture g c = no-picture

pub returns-clause-other_layer : goal.returns-clause-other_layer
returns-clause-other_layer g c = other-layer

pub returns-clause-skipped : goal.returns-clause-skipped
returns-clause-skipped g c = undecoded

pub returns-clause-skipped_base : goal.returns-clause-skipped_base
returns-clause-skipped_base g c = skipped-base

pub returns-clause-forgotten : goal.returns-clause-forgotten
returns-clause-forgotten g c = forgotten
