use Rattle.mv_layers.proofs.LayerLaws.{ids_rise, orderly_layers}
use Rattle.mv_layers.proofs.SetLaws.{orderly_sets}
use Rattle.mv_layers.proofs.laws.derived_laws.Goals as goal

pub returns-clause-rise : goal.returns-clause-rise
returns-clause-rise c = ids_rise

pub returns-clause-layers : goal.returns-clause-layers
returns-clause-layers c = orderly_layers

pub returns-clause-sets : goal.returns-clause-sets
returns-clause-sets c = orderly_sets
